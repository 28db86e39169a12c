use Rattle.sheet_within.specs.UpLaws.{Apart}
use Rattle.definitions.specs.Records.{Annotation}
use Rattle.definitions.specs.Reading.{annotation}
use Rattle.definitions.specs.Parse.{repeat, repeat_onto}
use Rattle.definitions.specs.Bits.{bits_of}
use lib.ListN.{drop}
use Prim.Native.Nat.{◌-◌}
use mathlib.Core.Path.{◌≡◌}
use mathlib.Core.List.{List}
use Rattle.sheet_within.proofs.is_plain_up.Given as goal

abbrev pub invariant-loop : goal.invariant-loop
invariant-loop l =
    (xs : List Annotation) × (repeat (annotation l.s.words l.single) l.n (drop l.at (bits_of l.s.bytes.now)) ≡ repeat_onto xs (annotation l.s.words l.single) (l.n - l.counter) (drop l.p (bits_of l.s.bytes.now))) × Apart xs l.top
