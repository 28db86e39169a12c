use Rattle.std.proofs.Common.{rules, sym, ◌≡◌, ◌∙◌}
use Rattle.item_pen.specs.PenLaws.{adds-as, room_as}
use Rattle.order_listing.proofs.ListingLaws.{room-types, room-names, wrote}
use Rattle.order_listing.proofs.write_bits.Goals as goal

pub add_once-requires : goal.add_once-requires
add_once-requires c = room_as (sym c.number.ensures.bits) (room-types c.new-pen.ensures _ _ c.requires)

pub add_names-requires : goal.add_names-requires
add_names-requires c = room-names c.new-pen.ensures _ _ c.requires (adds-as c.number.ensures.bits c.add_once.ensures)

pub returns : goal.returns
returns c =
    let same : c.add_names.new.pen.buf.ghost_name ≡ c.new-pen.result.buf.ghost_name = c.add_names.ensures.slice ∙ c.add_once.ensures.slice in
    wrote c.new-pen.ensures _ _ c.requires (adds-as c.number.ensures.bits c.add_once.ensures) c.add_names.ensures (search rules)
