use native.Mathlib.Omega.{arith}
use mathlib.Core.Path.{sym, ap, ◌∙◌}
use Rattle.definitions.specs.Bits.{bits_of}
use Rattle.fields.specs.Fields.{of_field}
use Rattle.fields.specs.FieldLaws.{field-lt}
use Rattle.fields.proofs.read_tag.Goals as goal

pub overflow_cast-result : goal.overflow_cast-result
overflow_cast-result c = omega (arith, field-lt 8 _ c.in_ok-v.v _ (omega arith) (sym c.read_field.ensures ∙ ap (of_field (bits_of c.args.s.now)) c.in_ok-v.was))
