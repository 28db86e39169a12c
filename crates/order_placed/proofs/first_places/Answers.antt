use Rattle.std.proofs.Common.{refl, ◌∙◌, sym, ◌≡◌, true, false, rules, tests, arith}
use Rattle.std.proofs.lemmas.Iterator.{cases_from_any, YieldsList-from_range}
use Rattle.lists.specs.Lists.{all}
use Rattle.order_form.specs.Reading.{listed, self_in}
use Rattle.order_placed.specs.PlacingLaws.{first-is}
use Rattle.order_placed.proofs.RangeLaws.{any_range}
use Rattle.order_placed.proofs.first_places.Goals as goal

pub returns : goal.returns
returns c =
    let p = c.args.l.now in
    any_range (λ k. k) (λ t. all (self_in p) (listed p t)) p.count p.count refl c.any.result
    (cases_from_any _ _ _ (λ t. all (self_in p) (listed p t) ≡ true) (λ t. all (self_in p) (listed p t) ≡ false) c.any.ensures.ran
    (YieldsList-from_range 0 _ _ refl (omega arith)) (λ x q k. search (rules, tests)) (λ x q k. search (rules, tests)))
    ∙ sym (first-is p)
