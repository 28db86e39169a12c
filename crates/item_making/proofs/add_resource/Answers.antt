use Rattle.std.proofs.Common.{sym}
use Rattle.item_pen.specs.PenLaws.{adds-as, adds_then, room_as, room-head, room-tail}
use Rattle.item_making.specs.MakingLaws.{resource-parts}
use Rattle.item_making.specs.Adding.{room-counted, adds-counted}
use Rattle.item_making.proofs.add_resource.Goals as goal

pub add_firsts-requires : goal.add_firsts-requires
add_firsts-requires c =
    let a = c.args in
    let e = resource-parts a.t.now a.a a.m _ _ _ _ c.count_parents-parents.ensures c.gather_all-g.ensures c.head_field-head.ensures.0 in
    room-head 0 0 _ _ (room-counted c.count_item.ensures (room_as (sym e) c.requires.room_for))

pub add_behind-requires-clause-room_for : goal.add_behind-requires-clause-room_for
add_behind-requires-clause-room_for c =
    let a = c.args in
    let e = resource-parts a.t.now a.a a.m _ _ _ _ c.count_parents-parents.ensures c.gather_all-g.ensures c.head_field-head.ensures.0 in
    room-tail 0 0 _ _ c.add_firsts.ensures (room-counted c.count_item.ensures (room_as (sym e) c.requires.room_for))

pub returns : goal.returns
returns c =
    let a = c.args in
    let e = resource-parts a.t.now a.a a.m _ _ _ _ c.count_parents-parents.ensures c.gather_all-g.ensures c.head_field-head.ensures.0 in
    adds-as e (adds-counted c.count_item.ensures (adds_then c.add_firsts.ensures c.add_behind.ensures))
