use borrow.Author.Rules.{rules}
use Rattle.item_refusal.specs.Tests.{is_virtual}
use Rattle.item_refusal.proofs.Asked.{walk-all}
use Rattle.item_refusal.proofs.all_virtual.Goals as goal

pub returns : goal.returns
returns c = let a = c.args in walk-all (is_virtual a.t.now) a.types c.members.ensures (λ x b q k. search rules) c.all.ensures.ran
