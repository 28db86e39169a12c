use borrow.Author.Rules.{rules}
use Rattle.item_refusal.specs.Tests.{passes}
use Rattle.item_refusal.proofs.Asked.{walk-any}
use Rattle.item_refusal.proofs.any_passes.Goals as goal

pub returns : goal.returns
returns c = let a = c.args in walk-any (passes a.t.now a.classes) a.types c.members.ensures (λ x b q k. search rules) c.any.ensures.ran
