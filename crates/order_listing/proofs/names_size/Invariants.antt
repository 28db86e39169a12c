use Rattle.order_listing.proofs.ListingLaws.{SizeTo}
use Rattle.order_listing.proofs.names_size.Given as goal

abbrev pub invariant-loop-a : goal.invariant-loop-a
invariant-loop-a l = SizeTo l.t l.order.types.items l.a-index l.bits
