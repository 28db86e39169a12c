use native.Mathlib.Omega.{arith}
use Rattle.definitions.specs.Bits.{bits_of}
use Rattle.sheet_types.specs.TopLaws.{window-read}
use Rattle.sheet_types.proofs.top_in.Goals as goal

pub returns : goal.returns
returns c =
    let w = c.window-h in
    let a = c.args in
    c.allowed_top.ensures (bits_of a.s.now) a.at (window-read a.s.now a.at w.result (omega (arith, c.requires.0)) w.ensures)
