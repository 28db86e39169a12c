use Rattle.std.proofs.Common.{refl, List, ◌≡◌, true, false, rules, tests, arith}
use Rattle.std.proofs.lemmas.Iterator.{cases_from_any, YieldsList-from_range}
use Rattle.lists.specs.Lists.{any}
use Rattle.order_form.specs.Reading.{listed, self_in}
use Rattle.order_form.specs.declared.Parent.{Parent}
use Rattle.order_form.specs.Rounds.{lists_self}
use Rattle.order_placed.proofs.RangeLaws.{any_range}
use Rattle.order_placed.proofs.inherits_self.Goals as goal

pub returns : goal.returns
unfolding lists_self
returns c =
    let p = c.args.l.now in
    any_range (listed p) (λ (qs : List Parent). any (self_in p) qs) p.count p.count refl c.any.result
    (cases_from_any _ _ _ (λ t. any (self_in p) (listed p t) ≡ true) (λ t. any (self_in p) (listed p t) ≡ false) c.any.ensures.ran
    (YieldsList-from_range 0 _ _ refl (omega arith)) (λ x q k. search (rules, tests)) (λ x q k. search (rules, tests)))
