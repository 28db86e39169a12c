use Rattle.std.proofs.Common.{refl, ◌≡◌, true, false, rules, tests, arith}
use Rattle.std.proofs.lemmas.Iterator.{cases_from_all, YieldsList-from_range}
use Rattle.order_form.specs.Reading.{parent_at, listed}
use Rattle.order_placed.specs.Placing.{settled_in, free_in}
use Rattle.order_placed.proofs.RangeLaws.{all_range}
use Rattle.order_placed.proofs.is_free.Goals as goal

pub returns-then-has : goal.returns-then-has
unfolding free_in
returns-then-has c = rw (← c.has.ensures, c.if-has.true)

pub returns : goal.returns
unfolding free_in listed settled_in
returns c =
    let p = c.args.l.now in
    let t = c.args.t in
    let out = c.args.out in
    rw (← c.has.ensures, c.if-has.false)
    (all_range (λ i. parent_at p t i) (settled_in p out) _ _ c.from.ensures c.all.result
    (cases_from_all _ _ _ (λ i. settled_in p out (parent_at p t i) ≡ true) (λ i. settled_in p out (parent_at p t i) ≡ false) c.all.ensures.ran
    (YieldsList-from_range 0 _ _ refl (omega arith)) (λ x q k. search (rules, tests)) (λ x q k. search (rules, tests))))
