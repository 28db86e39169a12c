use Rattle.std.proofs.Common.{refl, ◌≡◌, true, false, rules, tests, arith}
use Rattle.std.proofs.lemmas.Iterator.{cases_from_any, YieldsList-from_range}
use Rattle.order_form.specs.Reading.{parent_at, listed, self_in}
use Rattle.order_placed.proofs.RangeLaws.{any_range}
use Rattle.order_placed.proofs.lists_self.Goals as goal

pub returns : goal.returns
unfolding listed
returns c =
    let p = c.args.l.now in
    let t = c.args.t in
    any_range (λ i. parent_at p t i) (self_in p) _ _ c.from.ensures c.any.result
    (cases_from_any _ _ _ (λ i. self_in p (parent_at p t i) ≡ true) (λ i. self_in p (parent_at p t i) ≡ false) c.any.ensures.ran
    (YieldsList-from_range 0 _ _ refl (omega arith)) (λ x q k. search (rules, tests)) (λ x q k. search (rules, tests)))
