use Rattle.sheet_within.specs.OnceLaws.{Unlike}
use Rattle.definitions.specs.Records.{Annotation}
use Rattle.definitions.specs.Reading.{annotation}
use Rattle.definitions.specs.Parse.{repeat, repeat_onto}
use Rattle.definitions.specs.Bits.{bits_of}
use lib.ListN.{drop}
use Prim.Native.Nat.{◌-◌}
use mathlib.Core.Path.{◌≡◌}
use mathlib.Core.List.{List}
use Rattle.sheet_within.proofs.is_plain_once.Given as goal

abbrev pub invariant-loop-i : goal.invariant-loop-i
invariant-loop-i l =
    (xs : List Annotation) × (repeat (annotation l.s.words l.single) l.n (drop l.at (bits_of l.s.bytes.now)) ≡ repeat_onto xs (annotation l.s.words l.single) (l.n - l.i) (drop l.p (bits_of l.s.bytes.now))) × Unlike xs l.sets l.i
