use Rattle.item_pen.specs.PenLaws.{Pending}
use Rattle.item_making.specs.MakingLaws.{record_from}
use Rattle.item_making.proofs.add_record.Given as goal

abbrev pub invariant-loop-j : goal.invariant-loop-j
invariant-loop-j l = Pending l.initial.pen 0 (record_from l.t l.e 0) l.pen 0 (record_from l.t l.e l.j)
