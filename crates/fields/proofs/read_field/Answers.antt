use native.Mathlib.Omega.{arith}
use Rattle.bits.specs.ReadLaws.{field-read}
use Rattle.fields.specs.FieldLaws.{field-of_read}
use Rattle.fields.proofs.read_field.Goals as goal

pub returns : goal.returns
returns c = rw (c.ok_or.ensures.value, field-read _ _ c.args.n (omega arith), ← c.read_at.ensures) (field-of_read _ _)
