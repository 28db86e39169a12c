use mathlib.Core.Path.{◌≡◌}
use Prim.Native.Nat.{◌-◌}
use lib.ListN.{drop}
use Rattle.definitions.specs.Bits.{bits_of}
use Rattle.definitions.specs.Parse.{repeat_onto, repeat}
use Rattle.definitions.specs.Reading.{name}
use Rattle.fields.specs.Fields.{of_names}
use Rattle.fields.proofs.read_each_name.Given as goal

abbrev pub invariant-loop : goal.invariant-loop
invariant-loop l =
    (l.names.count ≡ l.counter)
    × (repeat (name l.s.words) l.n (drop l.initial.next.at (bits_of l.s.bytes.now)) ≡ repeat_onto (of_names l.names) (name l.s.words) (l.n - l.counter) (drop l.next.at (bits_of l.s.bytes.now)))
