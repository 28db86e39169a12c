use Rattle.std.proofs.Common.{◌++◌}
use Rattle.item_pen.specs.Pen.{field_bits}
use Rattle.item_pen.specs.PenLaws.{Pending}
use Rattle.item_making.specs.Making.{each_of, first_bits}
use Rattle.item_making.proofs.add_firsts.Given as goal

abbrev pub invariant-loop-p : goal.invariant-loop-p
invariant-loop-p l =
    Pending l.initial.pen 0 (field_bits l.initial.held ++ each_of (first_bits l.t l.m) l.m.firsts) l.pen 0 (field_bits l.held ++ each_of (first_bits l.t l.m) l.p-iterator.left)
