use lib.ListN.{take}
use mathlib.Core.List.{map}
use mathlib.Core.Path.{◌≡◌}
use Rattle.synth_dedup.specs.Entries.{entries_of}
use Rattle.synth_store.specs.Saving.{entry_of}
use Rattle.synth_store.proofs.Saved.fetch.Given as goal

abbrev pub invariant-loop-words : goal.invariant-loop-words
invariant-loop-words l = entries_of l.list ≡ map entry_of (take l.words-index l.words-items)
