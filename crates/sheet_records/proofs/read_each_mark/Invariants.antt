use mathlib.Core.Path.{◌≡◌}
use Prim.Native.Nat.{◌-◌}
use lib.ListN.{drop}
use Rattle.definitions.specs.Bits.{bits_of}
use Rattle.definitions.specs.Parse.{repeat_onto, repeat}
use Rattle.definitions.specs.Reading.{mark}
use Rattle.sheet_records.specs.Marks.{of_marks}
use Rattle.sheet_records.proofs.read_each_mark.Given as goal

abbrev pub invariant-loop : goal.invariant-loop
invariant-loop l =
    (l.marks.count ≡ l.counter)
    × (repeat mark l.n (drop l.initial.next.at (bits_of l.s)) ≡ repeat_onto (of_marks l.marks) mark (l.n - l.counter) (drop l.next.at (bits_of l.s)))
