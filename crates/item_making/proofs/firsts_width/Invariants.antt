use Rattle.std.proofs.Common.{◌≡◌, ◌+◌, length}
use Rattle.item_making.specs.Making.{each_of, first_bits}
use Rattle.item_making.proofs.firsts_width.Given as goal

abbrev pub invariant-loop-p : goal.invariant-loop-p
invariant-loop-p l = l.n + length (each_of (first_bits l.t l.m) l.p-iterator.left) ≡ length (each_of (first_bits l.t l.m) l.m.firsts)
