use Rattle.std.proofs.Common.{◌≡◌, arith}
use Rattle.order_rounds.specs.Places.{as_many, same-place}
use Rattle.order_listing.proofs.ListingLaws.{size_at, names_sized}
use Rattle.order_listing.proofs.names_size.Goals as goal

pub loop-a-preserved : goal.loop-a-preserved
loop-a-preserved c =
    let o = c.args.order.now in
    let l = c.loop-a in
    let e = c.as_slice-a-items.ensures in
    size_at c.args.t.now o.types.items l.a-index l.bits _ _ (same-place o _ e l.a-index (omega (arith, c.loop-a-test.true))) c.name_size-bits.ensures.0 c.name_size-bits.ensures.1 l.invariant

pub returns : goal.returns
returns c =
    let o = c.args.order.now in
    let l = c.loop-a in
    let all : l.a-index ≡ o.types.count = omega (arith, as_many o _ c.as_slice-a-items.ensures, l.auto.a-index-end, c.loop-a-test.false) in
    names_sized c.args.t.now o l.a-index l.bits all l.invariant
