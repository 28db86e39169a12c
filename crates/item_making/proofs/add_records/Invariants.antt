use Rattle.item_pen.specs.PenLaws.{Pending}
use Rattle.item_making.specs.Making.{each_of, Recorded, record_bits}
use Rattle.item_making.proofs.add_records.Given as goal

abbrev pub invariant-loop-e : goal.invariant-loop-e
invariant-loop-e l = Recorded l.t l.e-iterator.left × Pending l.initial.pen 0 (each_of (record_bits l.t) l.records) l.pen 0 (each_of (record_bits l.t) l.e-iterator.left)
