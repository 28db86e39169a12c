use lib.ListN.{drop}
use Rattle.synth_dedup.specs.Entries.{merge, entries_of, Sound}
use Rattle.synth_dedup.specs.MergeLaws.{Left}
use Rattle.synth_dedup.proofs.merged.Given as goal

abbrev pub invariant-loop-a : goal.invariant-loop-a
invariant-loop-a l = Left (entries_of l.out) (drop l.a-index l.a-items) l.n (merge (entries_of l.fn.l) l.fn.newcomer) × Sound l.n
