use Rattle.std.proofs.Common.{length}
use Rattle.item_pen.specs.PenLaws.{Pending}
use Rattle.catalogue.specs.ByDom.{by_dom}
use Rattle.item_making.specs.Making.{each_by, marks_bits}
use Rattle.item_making.proofs.add_by_dom.Given as goal

abbrev pub invariant-loop-left : goal.invariant-loop-left
invariant-loop-left l = Pending l.initial.pen 0 (each_by l.t (marks_bits l.t) l.set) l.pen 0 (each_by l.t (marks_bits l.t) l.left)

abbrev pub decreases-loop-left : goal.decreases-loop-left
decreases-loop-left l = length (by_dom l.t l.left)
