use Rattle.std.proofs.Common.{◌++◌, ◌≤◌, length, refl, arith, length-append}
use Rattle.bounded.specs.Items.{items_of, length-items_of}
use Rattle.bitsets.specs.Bitsets.{members}
use Rattle.item_spread.specs.SpreadLaws.{united-none, united-more, united-all}
use Rattle.order_rounds.specs.StepLaws.{append-room, append-more, append-all}
use Rattle.order_rounds.proofs.append.Goals as goal

pub loop-a-init : goal.loop-a-init
loop-a-init c =
    rw (c.into_iter-a-iterator.ensures.into_iter_gives, c.members-a-items.ensures)
    (tt, tt, refl, united-none _ _ (omega arith))

-- there is room for one more
pub push-requires : goal.push-requires
push-requires c =
    let a = c.args in
    let l = c.loop-a in
    let w = c.in-Some.ensures.steps in
    let there = a.order.now.types in
    let most : length (items_of there ++ members a.types) ≤ 64 = omega (arith, c.requires, length-append (items_of there) (members a.types), length-items_of there) in (
      omega (arith, length-items_of l.order.types, append-room (items_of l.order.types) l.a-iterator.left c.in-Some.a _ w.0 (omega (arith, w.1.less)) l.invariant.2 most),
      w.0.place,
    )

pub loop-a-preserved : goal.loop-a-preserved
loop-a-preserved c =
    let a = c.args in
    let l = c.loop-a in
    let w = c.in-Some.ensures.steps in (
      tt,
      tt,
      append-more _ _ l.a-iterator.left c.in-Some.a _ _ w.0 w.1 c.push.ensures l.invariant.2,
      united-more a.types a.children.now l.near l.a-iterator.left c.in-Some.a _ l.invariant.3 w.0 w.1,
    )

pub returns-clause-placed : goal.returns-clause-placed
returns-clause-placed c = append-all _ _ _ c.in-None.ensures.steps.0 c.loop-a.invariant.2

pub returns-clause-near : goal.returns-clause-near
returns-clause-near c =
    let a = c.args in
    let l = c.loop-a in
    united-all a.types a.children.now l.near l.a-iterator.left c.in-None.ensures.steps.0 l.invariant.3
