use borrow.Author.Tests.{lt-leb, le-leb}
use Rattle.definitions.specs.Parse.{allowed}
use Rattle.fields.specs.FieldLaws.{err_was}
use Rattle.fields.proofs.read_between.Goals as goal
use Rattle.fields.proofs.read_between.Goals.{then-v-least-via-then-v-least, then-v-least-via-else-v-least+then-most-v}

pub returns-in_err-v : goal.returns-in_err-v
unfolding allowed
returns-in_err-v c = rw (err_was _ c.in_err-v.field-0.0 c.from_residual.ensures.1, ← c.read_field.ensures, c.in_err-v.was)

pub returns-then-v-least : goal.returns-then-v-least
unfolding allowed
returns-then-v-least c =
    elim c.then-v-least.branch [
      | then-v-least-via-then-v-least w ↦ rw (← c.read_field.ensures, c.in_ok-v.was, lt-leb _ _ w.if-v-least.true)
      | then-v-least-via-else-v-least+then-most-v w ↦ rw (← c.read_field.ensures, c.in_ok-v.was, le-leb _ _ w.if-v-least.false, lt-leb _ _ w.if-most-v.true)
    ]

pub returns : goal.returns
unfolding allowed
returns c = rw (← c.read_field.ensures, c.in_ok-v.was, le-leb _ _ c.if-v-least.false, le-leb _ _ c.if-most-v.false)
