use Prim.Native.Nat.{◌≤◌}
use Rattle.definitions.specs.Bits.{to_bits}
use Rattle.bits.specs.Writing.{Left}
use Rattle.item_pen.proofs.put_near.Given as goal

abbrev pub invariant-loop-left : goal.invariant-loop-left
invariant-loop-left l = (l.left ≤ l.f.width) × Left l.initial.buf l.at (to_bits l.f.width l.f.value) l.buf l.c.at (to_bits l.left l.f.value)

abbrev pub decreases-loop-left : goal.decreases-loop-left
decreases-loop-left l = l.left
