use Rattle.std.proofs.Common.{sym, ◌∙◌, arith}
use Rattle.item_pen.specs.PenLaws.{holds-join, room_as, adds-as}
use Rattle.item_making.specs.MakingLaws.{tail-short, tail-long}
use Rattle.item_making.specs.Adding.{room-field, room-behind, adds-behind}
use Rattle.item_making.proofs.add_tail.Goals as goal

pub add-requires : goal.add-requires
add-requires c =
    let h = holds-join c.tail_start-start.ensures c.number.ensures c.join-f.ensures in
    room_as (sym (h.bits ∙ tail-short c.args.t.now c.args.c _ c.marks_of-marks.ensures)) c.requires.room_for

pub returns-then-width-le37 : goal.returns-then-width-le37
returns-then-width-le37 c =
    let h = holds-join c.tail_start-start.ensures c.number.ensures c.join-f.ensures in
    adds-as (h.bits ∙ tail-short c.args.t.now c.args.c _ c.marks_of-marks.ensures) c.add.ensures

pub add-requires-2 : goal.add-requires-2
add-requires-2 c =
    let h = holds-join c.tail_start-start.ensures c.number-2.ensures c.join-f-2.ensures in
    room-field _ h (room_as (sym (tail-long c.args.t.now c.args.c _ c.marks_of-marks.ensures (omega arith))) c.requires.room_for)

pub add-requires-3 : goal.add-requires-3
add-requires-3 c =
    let h = holds-join c.tail_start-start.ensures c.number-2.ensures c.join-f-2.ensures in
    room_as (sym c.number-3.ensures.bits) (room-behind _ h c.add-2.ensures (room_as (sym (tail-long c.args.t.now c.args.c _ c.marks_of-marks.ensures (omega arith))) c.requires.room_for))

pub returns : goal.returns
returns c =
    let h = holds-join c.tail_start-start.ensures c.number-2.ensures c.join-f-2.ensures in
    adds-as (tail-long c.args.t.now c.args.c _ c.marks_of-marks.ensures (omega arith)) (adds-behind h c.add-2.ensures (adds-as c.number-3.ensures.bits c.add-3.ensures))
