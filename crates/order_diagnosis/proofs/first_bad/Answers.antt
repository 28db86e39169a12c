use Rattle.std.proofs.Common.{refl, ◌≡◌, true, false, rules, tests, arith}
use Rattle.std.proofs.lemmas.Iterator.{IsFirst-from_position, YieldsList-from_range}
use Rattle.order_form.specs.Reading.{parent_at, listed}
use Rattle.order_placed.proofs.RangeLaws.{position_range}
use Rattle.order_diagnosis.specs.Rows.{bad}
use Rattle.order_diagnosis.proofs.first_bad.Goals as goal

pub returns : goal.returns
unfolding listed
returns c =
    let p = c.args.l.now in
    let t = c.args.t in
    position_range (λ i. parent_at p t i) (bad p c.args.path) _ _ c.from.ensures c.position.result
    (IsFirst-from_position _ _ _ (λ i. bad p c.args.path (parent_at p t i) ≡ true) (λ i. bad p c.args.path (parent_at p t i) ≡ false) c.position.ensures.ran
    (YieldsList-from_range 0 _ _ refl (omega arith)) (λ x q k. search (rules, tests)) (λ x q k. search (rules, tests)))
