use mathlib.Core.Path.{refl}
use Prim.Native.Nat.{◌%◌}
use borrow.Author.Tests.{eq-eqb, ne_eqb}
use Rattle.sheet_reach.specs.Reach.{rank_of}
use Rattle.sheet_reach.proofs.Reach.rank.Goals as goal

pub returns-then-not-self : goal.returns-then-not-self
unfolding rank_of
returns-then-not-self c = rw c.if-not-self.true refl

pub returns-then-second-eq0 : goal.returns-then-second-eq0
unfolding rank_of
returns-then-second-eq0 c = rw (c.if-not-self.false, eq-eqb (c.args.key % 256) 0 c.if-second-eq0.true) refl

pub returns : goal.returns
unfolding rank_of
returns c = rw (c.if-not-self.false, ne_eqb (c.args.key % 256) 0 c.if-second-eq0.false, c.from-last.ensures) refl
