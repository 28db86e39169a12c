use native.Mathlib.Omega.{arith}
use Rattle.definitions.specs.Bits.{bits_of}
use Rattle.bits.specs.NumberLaws.{length-bits_of}
use Rattle.fields.specs.FieldLaws.{err_was}
use Rattle.sheet_notes.specs.NoteLaws.{mark-in}
use Rattle.sheet_notes.proofs.skip_mark.Goals as goal

pub returns-then-at-s : goal.returns-then-at-s
returns-then-at-s c =
    let a = c.args in
    mark-in (bits_of a.s.now) a.c.at _ (omega (arith, length-bits_of a.s.now, c.if-at-s.true)) c.window-flag.ensures

pub returns-in_err-end : goal.returns-in_err-end
returns-in_err-end c = rw (err_was _ c.in_err-end.field-0.0 c.from_residual.ensures.1, ← c.read_mark.ensures, c.in_err-end.was)

pub returns : goal.returns
returns c = rw (← c.read_mark.ensures, c.in_ok-end.was)
