use Prim.Native.Nat.{ℕ}
use mathlib.Core.Bool.{true}
use mathlib.Core.List.{List, map}
use mathlib.Core.Path.{◌≡◌}
use lib.ListN.{take}
use Rattle.lists.specs.Lists.{ascends}
use Rattle.definitions.specs.Records.{Name}
use Rattle.definitions.specs.Comparisons.{name_before}
use Rattle.definitions.specs.Inherited.{dedup_onto}
use Rattle.synth_dedup.specs.Reading.{names_at, inherited_of}
use Rattle.synth_inheritance.specs.Own.{handed_own}
use Rattle.synth_inheritance.proofs.inherit_owns.Given as goal

abbrev pub invariant-loop-a : goal.invariant-loop-a
invariant-loop-a l =
    (ws : List (List ℕ)) (names : List Name) → ascends (name_before ws) names ≡ true
    → inherited_of names l.h ≡ dedup_onto ws (inherited_of names l.fn.h) (map (handed_own (names_at names l.parent)) (take l.a-index l.own))
