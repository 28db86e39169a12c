use Rattle.item_pen.specs.PenLaws.{holds-join}
use Rattle.item_making.proofs.tail_start.Goals as goal

pub returns : goal.returns
returns c = rw (← c.marks_of-count.ensures) (holds-join c.resource_field.ensures c.number.ensures c.join.ensures)
