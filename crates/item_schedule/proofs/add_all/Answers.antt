use Rattle.std.proofs.Common.{rules, ◌≡◌}
use Rattle.item_schedule.specs.ScheduleLaws.{room_for_front, room_for_items, same_slice, passed}
use Rattle.item_schedule.proofs.add_all.Goals as goal

pub add_front-requires : goal.add_front-requires
add_front-requires c = room_for_front c.requires c.new-pen.ensures

pub add_items-requires-clause-room_for_all : goal.add_items-requires-clause-room_for_all
add_items-requires-clause-room_for_all c = room_for_items c.requires c.new-pen.ensures c.add_front.ensures

pub returns : goal.returns
returns c =
    let same : c.add_items.new.pen.buf.ghost_name ≡ c.new-pen.result.buf.ghost_name = same_slice c.requires c.new-pen.ensures c.add_front.ensures c.add_items.ensures in
    passed c.requires c.new-pen.ensures c.add_front.ensures c.add_items.ensures (search rules)
