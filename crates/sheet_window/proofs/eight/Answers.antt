use mathlib.Core.Path.{◌∙◌}
use native.Mathlib.Omega.{arith}
use Rattle.sheet_window.specs.WideLaws.{num-eight-of}
use Rattle.sheet_window.proofs.eight.Goals as goal

pub returns : goal.returns
returns g c =
    let a = c.args in
    c.from_be_bytes.ensures
    ∙ num-eight-of a.s.now a.i _ _ _ _ _ _ _ _ (c.byte.ensures, omega arith) (c.byte-2.ensures, omega arith) (c.byte-3.ensures, omega arith) (c.byte-4.ensures, omega arith) (c.byte-5.ensures, omega arith) (c.byte-6.ensures, omega arith) (c.byte-7.ensures, omega arith) (c.byte-8.ensures, omega arith)
