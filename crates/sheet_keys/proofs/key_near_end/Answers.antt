use Rattle.fields.specs.FieldLaws.{err_was}
use native.Mathlib.Omega.{arith}
use Rattle.sheet_keys.specs.KeyLaws.{named}
use Rattle.sheet_keys.proofs.key_near_end.Goals as goal

pub returns-in_err-n : goal.returns-in_err-n
returns-in_err-n c = rw (err_was _ c.in_err-n.field-0.0 c.from_residual.ensures.1, ← c.read_name.ensures, c.in_err-n.was)

pub returns : goal.returns
returns c = rw (← c.read_name.ensures, c.in_ok-n.was, c.from.ensures, named c.in_ok-n.n (omega arith) (omega arith))
