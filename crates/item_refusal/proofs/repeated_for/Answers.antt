use borrow.Author.Rules.{rules}
use Rattle.std.specs.Int.Bits.{bit_and}
use Rattle.catalogue.specs.Layout.{own_at}
use Rattle.item_refusal.specs.Tests.{repeated, repeated_for}
use Rattle.item_refusal.proofs.Asked.{walk-any}
use Rattle.item_refusal.proofs.repeated_for.Goals as goal

pub returns : goal.returns
unfolding repeated_for
returns c = let a = c.args in walk-any (repeated a.t.now a.a) (bit_and (own_at a.t.now a.a) a.pairs) c.members.ensures (λ x b q k. search rules) c.any.ensures.ran
