use Rattle.std.proofs.Common.{sym}
use Rattle.item_pen.specs.PenLaws.{pending-all, adds-as, room_as}
use Rattle.item_making.specs.Making.{marks_bits}
use Rattle.item_making.specs.Walks.{each_by-plain}
use Rattle.item_making.specs.Adding.{walk-room, walk-less, walk-end}
use Rattle.item_making.proofs.add_classes.Goals as goal

pub loop-c-init : goal.loop-c-init
loop-c-init c = rw (c.into_iter-c-iterator.ensures.into_iter_gives, c.members-c-items.ensures) (pending-all _ 0 _)

pub add_class-requires-clause-room_for : goal.add_class-requires-clause-room_for
add_class-requires-clause-room_for c =
    let a = c.args in
    walk-room (marks_bits a.t.now) c.in-Some.ensures.steps.0 c.in-Some.ensures.steps.1 c.loop-c.invariant
    (room_as (each_by-plain a.t.now (marks_bits a.t.now) a.set c.if-t.false) c.requires)

pub loop-c-preserved : goal.loop-c-preserved
loop-c-preserved c = walk-less (marks_bits c.args.t.now) c.in-Some.ensures.steps.0 c.in-Some.ensures.steps.1 c.loop-c.invariant c.add_class.ensures

pub returns : goal.returns
returns c =
    let a = c.args in
    adds-as (sym (each_by-plain a.t.now (marks_bits a.t.now) a.set c.if-t.false)) (walk-end (marks_bits a.t.now) c.in-None.ensures.steps.0 c.loop-c.invariant)
