use Rattle.std.proofs.Common.{arith}
use Rattle.item_pen.specs.SoFarLaws.{growing-all, growing-room, growing-less, growing-none}
use Rattle.item_writer.specs.Items.{all_items}
use Rattle.item_writer.specs.WriterLaws.{types_from, types-all, types-next, types-end}
use Rattle.item_writer.proofs.add_items.Goals as goal

pub loop-a-init : goal.loop-a-init
loop-a-init c = growing-all (all_items c.args.t.now) (types_from c.args.t.now 0) (types-all c.args.t.now)

pub add_type-requires-clause-room_for_all : goal.add_type-requires-clause-room_for_all
add_type-requires-clause-room_for_all c =
    let t = c.args.t.now in
    growing-room (all_items t) _ _ (types-next t c.loop-a.a (omega arith)) c.loop-a.invariant c.requires.room_for_all

pub loop-a-preserved : goal.loop-a-preserved
loop-a-preserved c =
    let t = c.args.t.now in
    growing-less (all_items t) _ _ (types-next t c.loop-a.a (omega arith)) c.loop-a.invariant c.add_type.ensures

pub returns : goal.returns
returns c =
    let t = c.args.t.now in
    growing-none (all_items t) (types-end t c.loop-a.a (omega arith)) c.loop-a.invariant
