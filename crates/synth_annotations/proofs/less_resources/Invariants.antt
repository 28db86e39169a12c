use mathlib.Core.Path.{◌≡◌}
use Prim.Native.Nat.{◌≤◌}
use lib.ListN.{length}
use Rattle.synth_annotations.specs.Reading.{resources_in}
use Rattle.definitions.specs.Annotations.{less}
use Rattle.synth_annotations.specs.Laws.{upto}
use Rattle.synth_annotations.proofs.less_resources.Given as goal

abbrev pub invariant-loop-i : goal.invariant-loop-i
invariant-loop-i l =
    (l.k ≤ l.i)
    × (length l.out ≡ 15)
    × (length l.sets ≡ 15)
    × (upto l.k l.out l.sets ≡ less (upto l.i l.words l.doms) (resources_in l.y))
