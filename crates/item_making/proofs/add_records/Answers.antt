use Rattle.item_pen.specs.PenLaws.{pending-all}
use Rattle.item_making.specs.MakingLaws.{recorded_rest}
use Rattle.item_making.specs.Making.{record_bits}
use Rattle.item_making.specs.Adding.{walk-room, walk-less, walk-end}
use Rattle.item_making.proofs.add_records.Goals as goal

pub loop-e-init : goal.loop-e-init
loop-e-init c = rw (c.into_iter-e-iterator.ensures.into_iter_gives, c.members-e-items.ensures) (c.requires.recorded, pending-all _ 0 _)

pub add_record-requires-clause-room_for : goal.add_record-requires-clause-room_for
add_record-requires-clause-room_for c =
    let w = c.in-Some.ensures.steps in
    walk-room (record_bits c.args.t.now) w.0 w.1 c.loop-e.invariant.1 c.requires.room_for

pub loop-e-preserved : goal.loop-e-preserved
loop-e-preserved c =
    let w = c.in-Some.ensures.steps in
    (recorded_rest _ _ _ _ w.0 w.1 c.loop-e.invariant.0, walk-less (record_bits c.args.t.now) w.0 w.1 c.loop-e.invariant.1 c.add_record.ensures)

pub returns : goal.returns
returns c = walk-end (record_bits c.args.t.now) c.in-None.ensures.steps.0 c.loop-e.invariant.1
