use Rattle.item_pen.specs.PenLaws.{Pending}
use Rattle.item_making.specs.Making.{each_of, marks_bits}
use Rattle.item_making.proofs.add_classes.Given as goal

abbrev pub invariant-loop-c : goal.invariant-loop-c
invariant-loop-c l = Pending l.initial.pen 0 (each_of (marks_bits l.t) l.set) l.pen 0 (each_of (marks_bits l.t) l.c-iterator.left)
