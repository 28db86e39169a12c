use native.Mathlib.Omega.{arith}
use borrow.Author.Tests.{eq-eqb, ne_eqb}
use Rattle.definitions.specs.Reading.{word_if_flag}
use Rattle.fields.specs.FieldLaws.{err_was, word_some}
use Rattle.fields.proofs.read_word_if_flag.Goals as goal

pub returns-in_err-flag : goal.returns-in_err-flag
unfolding word_if_flag
returns-in_err-flag c = rw (err_was _ c.in_err-flag.field-0.0 c.from_residual.ensures.1, ← c.read_field.ensures, c.in_err-flag.was)

pub returns-then-flag-eq1 : goal.returns-then-flag-eq1
unfolding word_if_flag
returns-then-flag-eq1 c =
    rw (← c.read_field.ensures, c.in_ok-flag.was, eq-eqb _ _ c.if-flag-eq1.true)
    (word_some _ _ _ c.read_word_field.result (omega arith) c.read_word_field.ensures)

pub returns-else-flag-eq1 : goal.returns-else-flag-eq1
unfolding word_if_flag
returns-else-flag-eq1 c = rw (← c.read_field.ensures, c.in_ok-flag.was, ne_eqb _ _ c.if-flag-eq1.false)
