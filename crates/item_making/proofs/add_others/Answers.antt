use Rattle.item_making.specs.Making.{others_bits}
use Rattle.item_making.specs.Adding.{room-field, room-behind, adds-behind}
use Rattle.item_making.proofs.add_others.Goals as goal

pub add-requires : goal.add-requires
unfolding others_bits
add-requires c = room-field _ c.resource_field.ensures c.requires.room_for

pub add_records-requires-clause-room_for : goal.add_records-requires-clause-room_for
unfolding others_bits
add_records-requires-clause-room_for c = room-behind _ c.resource_field.ensures c.add.ensures c.requires.room_for

pub returns : goal.returns
unfolding others_bits
returns c = adds-behind c.resource_field.ensures c.add.ensures c.add_records.ensures
