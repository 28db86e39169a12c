use Rattle.item_pen.specs.PenLaws.{Pending}
use Rattle.order_listing.proofs.ListingLaws.{names_from}
use Rattle.order_listing.proofs.add_names.Given as goal

abbrev pub invariant-loop-a : goal.invariant-loop-a
invariant-loop-a l =
    Pending l.initial.pen 0 (names_from l.t l.order.types.items l.order.types.count 0) l.pen 0 (names_from l.t l.order.types.items l.order.types.count l.a-index)
