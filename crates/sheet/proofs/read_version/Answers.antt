use borrow.Author.Tests.{eq-eqb, ne_eqb}
use Rattle.definitions.specs.Parse.{allowed}
use Rattle.fields.specs.FieldLaws.{err_was}
use Rattle.sheet.specs.Sheets.{version}
use Rattle.sheet.proofs.read_version.Goals as goal

pub returns-in_err-v : goal.returns-in_err-v
unfolding version allowed
returns-in_err-v c = rw (err_was _ c.in_err-v.field-0.0 c.from_residual.ensures.1, ← c.read_field.ensures, c.in_err-v.was)

pub returns-then-v-eq1 : goal.returns-then-v-eq1
unfolding version allowed
returns-then-v-eq1 c = rw (← c.read_field.ensures, c.in_ok-v.was, eq-eqb _ _ c.if-v-eq1.true, c.if-v-eq1.true)

pub returns-else-v-eq1 : goal.returns-else-v-eq1
unfolding version allowed
returns-else-v-eq1 c = rw (← c.read_field.ensures, c.in_ok-v.was, ne_eqb _ _ c.if-v-eq1.false)
