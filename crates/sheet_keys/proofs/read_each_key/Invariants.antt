use mathlib.Core.Path.{◌≡◌}
use Prim.Native.Nat.{◌-◌}
use lib.ListN.{length, drop}
use Rattle.definitions.specs.Bits.{bits_of}
use Rattle.definitions.specs.Parse.{repeat_onto, repeat}
use Rattle.definitions.specs.Reading.{name}
use Rattle.sheet_keys.specs.Keys.{names_in}
use Rattle.sheet_keys.proofs.read_each_key.Given as goal

abbrev pub invariant-loop-i : goal.invariant-loop-i
invariant-loop-i l =
    (length l.out ≡ length l.initial.out)
    × (repeat (name l.s.words) l.n (drop l.initial.next.at (bits_of l.s.bytes.now)) ≡ repeat_onto (names_in l.out l.i) (name l.s.words) (l.n - l.i) (drop l.next.at (bits_of l.s.bytes.now)))
