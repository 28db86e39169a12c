use Rattle.definitions.specs.Reading.{name}
use Rattle.fields.specs.FieldLaws.{err_was}
use Rattle.fields.proofs.read_name.Goals as goal

pub returns-in_err-first : goal.returns-in_err-first
unfolding name
returns-in_err-first c = rw (err_was _ c.in_err-first.field-0.0 c.from_residual.ensures.1, ← c.read_word_field.ensures, c.in_err-first.was)

pub returns-in_err-second : goal.returns-in_err-second
unfolding name
returns-in_err-second c =
    rw (err_was _ c.in_err-second.field-0.0 c.from_residual-in_err-second.ensures.1, ← c.read_word_field.ensures, c.in_ok-first.was, ← c.read_word_if_flag.ensures, c.in_err-second.was)

pub returns : goal.returns
unfolding name
returns c = rw (← c.read_word_field.ensures, c.in_ok-first.was, ← c.read_word_if_flag.ensures, c.in_ok-second.was)
