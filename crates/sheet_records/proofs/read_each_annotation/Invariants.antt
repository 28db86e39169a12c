use mathlib.Core.Path.{◌≡◌}
use Prim.Native.Nat.{◌-◌}
use lib.ListN.{drop}
use Rattle.definitions.specs.Bits.{bits_of}
use Rattle.definitions.specs.Parse.{repeat_onto, repeat}
use Rattle.definitions.specs.Reading.{annotation}
use Rattle.sheet_records.specs.Annotations.{of_annotations}
use Rattle.sheet_records.proofs.read_each_annotation.Given as goal

abbrev pub invariant-loop : goal.invariant-loop
invariant-loop l =
    (l.annotations.count ≡ l.counter)
    × (repeat (annotation l.s.words l.single) l.n (drop l.initial.next.at (bits_of l.s.bytes.now)) ≡ repeat_onto (of_annotations l.annotations) (annotation l.s.words l.single) (l.n - l.counter) (drop l.next.at (bits_of l.s.bytes.now)))
