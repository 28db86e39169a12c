use Rattle.item_schedule.specs.ScheduleLaws.{room_for_types, room_for_names, room_for_count, begun_so_far}
use Rattle.item_schedule.proofs.add_front.Goals as goal

pub add_once-requires : goal.add_once-requires
add_once-requires c = room_for_types c.args.t.now c.args.order.now c.args.items c.requires c.number.ensures

pub add_names-requires : goal.add_names-requires
add_names-requires c = room_for_names c.args.t.now c.args.order.now c.args.items c.requires c.number.ensures c.add_once.ensures

pub add_once-requires-2 : goal.add_once-requires-2
add_once-requires-2 c = room_for_count c.args.t.now c.args.order.now c.args.items c.requires c.number.ensures c.add_once.ensures c.add_names.ensures c.number-2.ensures

pub returns : goal.returns
returns c = begun_so_far c.args.t.now c.args.order.now c.args.items c.requires c.number.ensures c.add_once.ensures c.add_names.ensures c.number-2.ensures c.add_once-2.ensures
