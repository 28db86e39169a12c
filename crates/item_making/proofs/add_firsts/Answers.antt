use Rattle.std.proofs.Common.{refl}
use Rattle.item_pen.specs.Pen.{field_bits}
use Rattle.item_pen.specs.PenLaws.{pending-all, pending-room, pending-less, pending-none}
use Rattle.item_making.specs.Making.{each_of, first_bits}
use Rattle.item_making.specs.Walks.{each_none}
use Rattle.item_making.specs.MakingLaws.{held-some, held_next}
use Rattle.item_making.proofs.add_firsts.Goals as goal

pub loop-p-init : goal.loop-p-init
loop-p-init c = rw (c.into_iter-p-iterator.ensures.into_iter_gives, c.members-p-items.ensures) (pending-all _ 0 _)

pub make_room-requires : goal.make_room-requires
make_room-requires c =
    let a = c.args in
    let l = c.loop-p in
    let y = held-some l.held c.first_field-f.result (each_of (first_bits a.t.now a.m) l.p-iterator.left) in
    pending-room 0 0 _ _ y.1 refl l.invariant c.requires

pub add-requires : goal.add-requires
add-requires c = pending-room 0 0 (field_bits c.loop-p.held) _ refl refl c.loop-p.invariant c.requires

pub loop-p-preserved : goal.loop-p-preserved
loop-p-preserved c =
    let a = c.args in
    let l = c.loop-p in
    let w = c.in-Some.ensures.steps in
    pending-less 0 0 _ _ (held_next (first_bits a.t.now a.m) _ _ _ _ _ _ w.0 w.1 c.take_in-held.ensures c.first_field-f.ensures.0.bits) refl l.invariant c.make_room.ensures

pub returns : goal.returns
returns c =
    let a = c.args in
    let l = c.loop-p in
    pending-none refl (each_none (first_bits a.t.now a.m) l.p-iterator.left c.in-None.ensures.steps.0) (pending-less 0 0 _ _ refl refl l.invariant c.add.ensures)
