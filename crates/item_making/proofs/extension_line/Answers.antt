use Rattle.std.proofs.Common.{sym}
use Rattle.item_pen.specs.PenLaws.{adds-as, room_as}
use Rattle.item_making.specs.Adding.{room-counted, adds-counted}
use Rattle.item_making.proofs.extension_line.Goals as goal

pub add-requires : goal.add-requires
add-requires c = room_as (sym c.line_field.ensures.0.bits) (room-counted c.count_item.ensures c.requires.room_for)

pub returns : goal.returns
returns c = adds-counted c.count_item.ensures (adds-as c.line_field.ensures.0.bits c.add.ensures)
