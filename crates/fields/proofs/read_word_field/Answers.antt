use native.Mathlib.Omega.{arith}
use mathlib.Core.Path.{sym, ap, ◌∙◌}
use Rattle.definitions.specs.Bits.{bits_of}
use borrow.Author.Tests.{lt-ltb, le-ltb}
use Rattle.definitions.specs.Parse.{allowed}
use Rattle.definitions.specs.Reading.{word_field}
use Rattle.fields.specs.Fields.{of_field}
use Rattle.fields.specs.FieldLaws.{err_was, field-lt}
use Rattle.fields.proofs.read_word_field.Goals as goal

pub returns-in_err-w : goal.returns-in_err-w
unfolding word_field allowed
returns-in_err-w c = rw (err_was _ c.in_err-w.field-0.0 c.from_residual.ensures.1, ← c.read_field.ensures, c.in_err-w.was)

pub overflow_cast-result : goal.overflow_cast-result
overflow_cast-result c = omega (arith, field-lt 8 _ c.in_ok-w.w _ (omega arith) (sym c.read_field.ensures ∙ ap (of_field (bits_of c.args.s.now)) c.in_ok-w.was))

pub returns-then-w-limit : goal.returns-then-w-limit
unfolding word_field allowed
returns-then-w-limit c = rw (← c.read_field.ensures, c.in_ok-w.was, lt-ltb _ _ c.if-w-limit.true)

pub returns-else-w-limit : goal.returns-else-w-limit
unfolding word_field allowed
returns-else-w-limit c = rw (← c.read_field.ensures, c.in_ok-w.was, le-ltb _ _ c.if-w-limit.false)
