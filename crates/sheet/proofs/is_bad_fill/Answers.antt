use mathlib.Core.Path.{sym, ap, ◌∙◌}
use native.Mathlib.Omega.{arith}
use Rattle.definitions.specs.Bits.{bits_of}
use lib.ListN.{drop, length-drop}
use Rattle.bits.specs.NumberLaws.{length-bits_of}
use Rattle.sheet.specs.SheetLaws.{fill_of, fill_none, fill-long, fill-read}
use Rattle.sheet.proofs.is_bad_fill.Goals as goal

pub returns-then-total-at : goal.returns-then-total-at
returns-then-total-at c =
    let a = c.args in
    sym (fill_none a.s.now a.c.at (omega arith))

pub returns-then-left-ge8 : goal.returns-then-left-ge8
returns-then-left-ge8 c =
    let a = c.args in
    sym (fill-long (drop a.c.at (bits_of a.s.now)) (omega (arith, length-drop a.c.at (bits_of a.s.now), length-bits_of a.s.now)))

pub returns-in-Some : goal.returns-in-Some
returns-in-Some c =
    let b = c in
    let a = b.args in
    sym (fill-read a.s.now a.c.at _ (omega arith) (omega arith) ∙ ap fill_of (sym b.read.ensures ∙ b.in-Some.is))

pub returns-in-None : goal.returns-in-None
returns-in-None c =
    let a = c.args in
    sym (fill-read a.s.now a.c.at _ (omega arith) (omega arith) ∙ ap fill_of (sym c.read.ensures ∙ c.in-None.is))
