use mathlib.Core.Path.{sym, ◌∙◌}
use native.Mathlib.Omega.{arith}
use Rattle.definitions.specs.Bits.{bits_of}
use Rattle.bits.specs.NumberLaws.{length-bits_of}
use Rattle.sheet_notes.specs.NoteLaws.{notes-none}
use Rattle.sheet_notes.proofs.skip_notes.Goals as goal

pub returns-then-window-eq0 : goal.returns-then-window-eq0
returns-then-window-eq0 c =
    let w = c.window in
    let i = c in
    let a = i.args in
    notes-none a.s.words a.single (bits_of a.s.bytes.now) a.c.at (omega (arith, length-bits_of a.s.bytes.now, i.if-at-s.true)) (sym w.ensures ∙ c.if-window-eq0.true)
