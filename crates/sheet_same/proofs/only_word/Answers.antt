use mathlib.Core.Path.{sym, ◌∙◌}
use borrow.Author.Tests.{eq-eqb, ne_eqb}
use Rattle.sheet_same.specs.RepeatLaws.{only-word}
use Rattle.sheet_same.proofs.only_word.Goals as goal

pub returns-then-a-eq0 : goal.returns-then-a-eq0
returns-then-a-eq0 c = sym (only-word c.args.a.now ∙ rw (eq-eqb _ _ c.if-a-eq0.true))

pub returns-else-a-eq0 : goal.returns-else-a-eq0
returns-else-a-eq0 c = sym (only-word c.args.a.now ∙ rw (ne_eqb _ _ c.if-a-eq0.false))
