use Rattle.std.proofs.Common.{◌≡◌, refl, ◌+◌, ◌/◌, length, arith}
use Rattle.definitions.specs.Bits.{size}
use Rattle.order_listing.specs.Order.{order_in}
use Rattle.order_listing.proofs.ListingLaws.{wrote-overwrite, order-long, listing-short, listing-written}
use Rattle.order_listing.proofs.write_order.Goals as goal
use Rattle.order_listing.proofs.write_order.Goals.{After-names_size}

-- the size that is answered
needed : (c : After-names_size) → (c.names_size.result + 14) / 8 ≡ size (length (order_in c.args.t.now c.args.order.now))
needed c = omega (arith, c.names_size.ensures.0, order-long c.args.t.now c.args.order.now)

pub returns-then-listing-size : goal.returns-then-listing-size
returns-then-listing-size c = listing-short _ _ _ _ (needed (goal.at.returns-then-listing-size c).After-names_size) c.if-listing-size.true refl

pub write_bits-requires : goal.write_bits-requires
write_bits-requires c = omega (arith, c.names_size.ensures.0, order-long c.args.t.now c.args.order.now)

pub returns : goal.returns
returns c =
    let e = needed (goal.at.returns c).After-names_size in
    listing-written _ _ _ _ e (omega arith) (wrote-overwrite c.write_bits.ensures (omega (arith, e)))
