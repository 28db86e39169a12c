use native.Mathlib.Omega.{arith}
use Rattle.item_spread.specs.SpreadLaws.{united-none, united-more, united-all}
use Rattle.item_spread.proofs.united.Goals as goal

pub loop-p-init : goal.loop-p-init
loop-p-init c = rw (c.into_iter-p-iterator.ensures.into_iter_gives, c.members-p-items.ensures) (tt, tt, united-none _ _ (omega arith))

pub loop-p-preserved : goal.loop-p-preserved
loop-p-preserved c =
    let a = c.args in
    let l = c.loop-p in
    (tt, tt, united-more a.types a.passed.now l.out l.p-iterator.left c.in-Some.p c.next.new.self.left l.invariant.2 c.in-Some.ensures.steps.0 c.in-Some.ensures.steps.1)

pub returns : goal.returns
returns c =
    let a = c.args in
    let l = c.loop-p in
    united-all a.types a.passed.now l.out l.p-iterator.left (omega (arith, c.in-None.ensures.steps.0)) l.invariant.2
