use Rattle.std.proofs.Common.{sym, ◌∙◌, arith}
use Rattle.item_pen.specs.PenLaws.{adds-as, room_as}
use Rattle.item_making.specs.MakingLaws.{marks-are, marks-parted}
use Rattle.item_making.specs.Adding.{room-field, room-behind, adds-behind}
use Rattle.item_making.proofs.add_class.Goals as goal

pub add-requires : goal.add-requires
add-requires c = room_as (sym (c.number.ensures.bits ∙ marks-are c.args.t.now c.args.c _ c.marks_of-marks.ensures)) c.requires.room_for

pub returns-then-width-le56 : goal.returns-then-width-le56
returns-then-width-le56 c = adds-as (c.number.ensures.bits ∙ marks-are c.args.t.now c.args.c _ c.marks_of-marks.ensures) c.add.ensures

pub add-requires-2 : goal.add-requires-2
add-requires-2 c = room-field _ c.number-2.ensures (room_as (sym (marks-parted c.args.t.now c.args.c _ c.marks_of-marks.ensures (omega arith))) c.requires.room_for)

pub add-requires-3 : goal.add-requires-3
add-requires-3 c =
    room_as (sym c.number-3.ensures.bits) (room-behind _ c.number-2.ensures c.add-2.ensures (room_as (sym (marks-parted c.args.t.now c.args.c _ c.marks_of-marks.ensures (omega arith))) c.requires.room_for))

pub returns : goal.returns
returns c = adds-as (marks-parted c.args.t.now c.args.c _ c.marks_of-marks.ensures (omega arith)) (adds-behind c.number-2.ensures c.add-2.ensures (adds-as c.number-3.ensures.bits c.add-3.ensures))
