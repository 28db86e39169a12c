use Rattle.std.proofs.Common.{sym}
use Rattle.item_pen.specs.PenLaws.{adds-as, adds_then, room_as, room-head, room-tail}
use Rattle.item_making.specs.MakingLaws.{mark-bits-both}
use Rattle.item_making.specs.Adding.{room-field, room-behind, adds-behind}
use Rattle.item_making.proofs.add_marks.Goals as goal

pub add-requires : goal.add-requires
add-requires c =
    let a = c.args in
    room-field _ c.number.ensures (room_as (sym (mark-bits-both a.t.now a.classes a.marks)) c.requires)

pub add_classes-requires : goal.add_classes-requires
add_classes-requires c =
    let a = c.args in
    room-head 0 0 _ _ (room-behind _ c.number.ensures c.add.ensures (room_as (sym (mark-bits-both a.t.now a.classes a.marks)) c.requires))

pub add_classes-requires-2 : goal.add_classes-requires-2
add_classes-requires-2 c =
    let a = c.args in
    room-tail 0 0 _ _ c.add_classes.ensures (room-behind _ c.number.ensures c.add.ensures (room_as (sym (mark-bits-both a.t.now a.classes a.marks)) c.requires))

pub returns : goal.returns
returns c =
    let a = c.args in
    adds-as (mark-bits-both a.t.now a.classes a.marks) (adds-behind c.number.ensures c.add.ensures (adds_then c.add_classes.ensures c.add_classes-2.ensures))
