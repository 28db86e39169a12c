use Rattle.std.proofs.Common.{◌≡◌, refl, rules, arith}
use Rattle.order_rounds.specs.Places.{as_many, same-place}
use Rattle.item_sets.specs.SetsLaws.{spread-at}
use Rattle.item_sets.proofs.spread.Goals as goal

pub loop-a-preserved : goal.loop-a-preserved
loop-a-preserved c =
    let s = c.args in
    let o = s.order.now in
    let l = c.loop-a in
    let e = c.as_slice-a-items.ensures in
    let h = c.loop-a-test.true in
    spread-at o.types.items o.types.count s.given.now s.t.now l.t l.a-index _ c.united-above.result (same-place o _ e l.a-index (omega (arith, h))) c.requires.ordered (search rules, search rules)
    (omega (arith, as_many o _ e, h)) c.united-above.ensures refl l.invariant

pub returns : goal.returns
returns c =
    let s = c.args in
    let o = s.order.now in
    let l = c.loop-a in
    let all : l.a-index ≡ o.types.count = omega (arith, as_many o _ c.as_slice-a-items.ensures, l.auto.a-index-end, c.loop-a-test.false) in
    rw (← all) l.invariant
