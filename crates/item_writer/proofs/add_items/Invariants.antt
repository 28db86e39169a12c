use Rattle.item_pen.specs.SoFar.{Growing}
use Rattle.item_writer.specs.Items.{all_items}
use Rattle.item_writer.specs.WriterLaws.{types_from}
use Rattle.item_writer.proofs.add_items.Given as goal

abbrev pub invariant-loop-a : goal.invariant-loop-a
invariant-loop-a l = Growing l.initial.pen (all_items l.t) l.pen (types_from l.t l.a)
