use lib.ListN.{take}
use mathlib.Core.List.{map}
use mathlib.Core.Path.{◌≡◌}
use Rattle.bounded.specs.Items.{items_of}
use Rattle.synth_dedup.specs.declared.Entry.{Entry}
use Rattle.synth_store.proofs.Saved.of.Given as goal

abbrev pub invariant-loop-e : goal.invariant-loop-e
invariant-loop-e l = items_of l.words ≡ map (λ (e : Entry). e.words) (take l.e-index l.e-items)
