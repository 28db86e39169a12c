use mathlib.Core.Path.{sym, ◌∙◌}
use borrow.Author.Tests.{eq-eqb, ne_eqb}
use Rattle.sheet_same.specs.RepeatLaws.{same_row}
use Rattle.sheet_same.proofs.is_same_row.Goals as goal

pub returns-then-byte_at : goal.returns-then-byte_at
returns-then-byte_at c =
    let a = c.args in
    sym (same_row a.a.now a.b.now a.i ∙ rw (← c.byte_at.ensures, ← c.byte_at-2.ensures, eq-eqb _ _ c.if-byte_at.true, ← c.byte_at-then-byte_at.ensures, ← c.byte_at-then-byte_at-2.ensures))

pub returns-else-byte_at : goal.returns-else-byte_at
returns-else-byte_at c =
    let a = c.args in
    sym (same_row a.a.now a.b.now a.i ∙ rw (← c.byte_at.ensures, ← c.byte_at-2.ensures, ne_eqb _ _ c.if-byte_at.false))
