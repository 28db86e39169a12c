use borrow.Author.Rules.{rules}
use Rattle.item_refusal.specs.Tests.{repeated_for}
use Rattle.item_refusal.proofs.Asked.{walk-any}
use Rattle.item_refusal.proofs.any_repeated.Goals as goal

pub returns : goal.returns
returns c = let a = c.args in walk-any (repeated_for a.t.now a.pairs) a.types c.members.ensures (λ x b q k. search rules) c.any.ensures.ran
