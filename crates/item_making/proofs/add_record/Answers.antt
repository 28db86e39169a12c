use Rattle.std.proofs.Common.{refl, sym, arith}
use Rattle.item_pen.specs.PenLaws.{pending-all, pending-room, pending-less, pending-none, adds-as, room_as}
use Rattle.item_making.specs.MakingLaws.{record-all, record-next, record-end}
use Rattle.item_making.proofs.add_record.Goals as goal

pub loop-j-init : goal.loop-j-init
loop-j-init c = pending-all _ 0 _

pub add-requires : goal.add-requires
add-requires c =
    let a = c.args in
    let l = c.loop-j in
    let e = record-next a.t.now a.e l.j (omega arith) in
    room_as (sym c.parent_field.ensures.0.bits) (pending-room 0 0 _ _ e refl l.invariant (room_as (record-all a.t.now a.e) c.requires.room_for))

pub loop-j-preserved : goal.loop-j-preserved
loop-j-preserved c =
    let a = c.args in
    let l = c.loop-j in
    pending-less 0 0 _ _ (record-next a.t.now a.e l.j (omega arith)) refl l.invariant (adds-as c.parent_field.ensures.0.bits c.add.ensures)

pub returns : goal.returns
returns c =
    let a = c.args in
    adds-as (sym (record-all a.t.now a.e)) (pending-none refl (record-end a.t.now a.e c.loop-j.j (omega arith)) c.loop-j.invariant)
