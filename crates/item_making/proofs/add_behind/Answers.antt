use Rattle.std.proofs.Common.{sym}
use Rattle.item_pen.specs.PenLaws.{adds-as, adds_then, room_as, room-head, room-tail}
use Rattle.item_making.specs.Making.{behind_bits}
use Rattle.item_making.specs.MakingLaws.{alone-behind}
use Rattle.item_making.proofs.add_behind.Goals as goal

pub add_tail-requires-clause-room_for : goal.add_tail-requires-clause-room_for
add_tail-requires-clause-room_for c =
    let a = c.args in
    let e = alone-behind a.t.now a.m (c.is_alone.ensures c.if-is_alone.true) c.lowest.result c.lowest.ensures a.marks c.requires.recorded.1 in
    room_as (sym e) c.requires.room_for

pub returns-then-is_alone : goal.returns-then-is_alone
returns-then-is_alone c =
    let a = c.args in
    adds-as (alone-behind a.t.now a.m (c.is_alone.ensures c.if-is_alone.true) c.lowest.result c.lowest.ensures a.marks c.requires.recorded.1) c.add_tail.ensures

pub add_others-requires-clause-room_for : goal.add_others-requires-clause-room_for
unfolding behind_bits
add_others-requires-clause-room_for c = room-head 0 0 _ _ c.requires.room_for

pub add_marks-requires : goal.add_marks-requires
unfolding behind_bits
add_marks-requires c = room-tail 0 0 _ _ c.add_others.ensures c.requires.room_for

pub returns : goal.returns
unfolding behind_bits
returns c = adds_then c.add_others.ensures c.add_marks.ensures
