use Rattle.std.proofs.Common.{refl, sym, arith}
use Rattle.definitions.specs.Packing.{name_bits}
use Rattle.catalogue.specs.Layout.{key_at}
use Rattle.catalogue.specs.Catalogue.{name_of_key}
use Rattle.item_pen.specs.PenLaws.{pending-all, pending-room, pending-less, pending-none, adds-as, room_as}
use Rattle.order_rounds.specs.Places.{as_many, same-place}
use Rattle.order_listing.proofs.ListingLaws.{names-all, names-at, names-end}
use Rattle.order_listing.proofs.add_names.Goals as goal

pub loop-a-init : goal.loop-a-init
loop-a-init c = pending-all _ 0 _

pub add-requires : goal.add-requires
add-requires c =
    let t = c.args.t.now in
    let o = c.args.order.now in
    let l = c.loop-a in
    let s = c.as_slice-a-items.ensures in
    let e = names-at t o.types.items o.types.count l.a-index _ (omega (arith, as_many o _ s, c.loop-a-test.true)) (same-place o _ s l.a-index (omega (arith, c.loop-a-test.true))) in
    room_as (sym c.name_field.ensures.0.bits)
    (pending-room 0 0 (name_bits (name_of_key (key_at t _))) _ e refl l.invariant (room_as (names-all t o) c.requires))

pub loop-a-preserved : goal.loop-a-preserved
loop-a-preserved c =
    let t = c.args.t.now in
    let o = c.args.order.now in
    let l = c.loop-a in
    let s = c.as_slice-a-items.ensures in
    let e = names-at t o.types.items o.types.count l.a-index _ (omega (arith, as_many o _ s, c.loop-a-test.true)) (same-place o _ s l.a-index (omega (arith, c.loop-a-test.true))) in
    pending-less 0 0 (name_bits (name_of_key (key_at t _))) _ e refl l.invariant (adds-as c.name_field.ensures.0.bits c.add.ensures)

pub returns : goal.returns
returns c =
    let t = c.args.t.now in
    let o = c.args.order.now in
    let l = c.loop-a in
    adds-as (sym (names-all t o))
    (pending-none refl (names-end t o.types.items o.types.count l.a-index (omega (arith, as_many o _ c.as_slice-a-items.ensures, c.loop-a-test.false))) l.invariant)
