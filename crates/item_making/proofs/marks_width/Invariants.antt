use Rattle.std.proofs.Common.{◌≡◌, ◌+◌, length}
use Rattle.item_making.specs.Making.{each_of, marks_bits}
use Rattle.item_making.proofs.marks_width.Given as goal

abbrev pub invariant-loop-c : goal.invariant-loop-c
invariant-loop-c l = l.n + length (each_of (marks_bits l.t) l.c-iterator.left) ≡ length (each_of (marks_bits l.t) l.set)
