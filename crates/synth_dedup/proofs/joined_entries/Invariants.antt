use mathlib.Core.List.{map}
use mathlib.Core.Path.{◌≡◌}
use lib.ListN.{drop}
use Rattle.synth_dedup.specs.Entries.{entries_of, join_all}
use Rattle.synth_dedup.specs.Reading.{under_place, Kept}
use Rattle.synth_dedup.proofs.joined_entries.Given as goal

abbrev pub invariant-loop-e : goal.invariant-loop-e
invariant-loop-e l =
    Kept l.l
    × (join_all (entries_of l.l) (map (under_place l.fn.parent) (drop l.e-index l.e-items)) ≡ join_all (entries_of l.fn.l) (map (under_place l.fn.parent) (entries_of l.fn.p)))
