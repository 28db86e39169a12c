use borrow.Author.Tests.{eq-eqb, ne_eqb}
use Rattle.definitions.specs.Reading.{mark}
use Rattle.fields.specs.FieldLaws.{err_was}
use Rattle.sheet_records.proofs.read_mark.Goals as goal

pub returns-in_err-flag : goal.returns-in_err-flag
unfolding mark
returns-in_err-flag c = rw (err_was _ c.in_err-flag.field-0.0 c.from_residual.ensures.1, ← c.read_field.ensures, c.in_err-flag.was)

pub returns-in_err-tag : goal.returns-in_err-tag
unfolding mark
returns-in_err-tag c =
    rw (err_was _ c.in_err-tag.field-0.0 c.from_residual-in_err-tag.ensures.1, ← c.read_field.ensures, c.in_ok-flag.was, eq-eqb _ _ c.if-flag-eq1.true, ← c.read_tag.ensures, c.in_err-tag.was)

pub returns-in_ok-tag : goal.returns-in_ok-tag
unfolding mark
returns-in_ok-tag c = rw (← c.read_field.ensures, c.in_ok-flag.was, eq-eqb _ _ c.if-flag-eq1.true, ← c.read_tag.ensures, c.in_ok-tag.was)

pub returns-else-flag-eq1 : goal.returns-else-flag-eq1
unfolding mark
returns-else-flag-eq1 c = rw (← c.read_field.ensures, c.in_ok-flag.was, ne_eqb _ _ c.if-flag-eq1.false)
