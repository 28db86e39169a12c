use mathlib.Core.Path.{◌∙◌}
use native.Mathlib.Omega.{arith}
use Rattle.sheet_window.specs.WindowLaws.{num-four-at}
use Rattle.sheet_window.proofs.four.Goals as goal

pub returns : goal.returns
returns g c =
    let a = c.args in
    c.from_be_bytes.ensures
    ∙ num-four-at a.s.now a.b _ _ _ _ (c.byte.ensures, omega arith) (c.byte-2.ensures, omega arith) (c.byte-3.ensures, omega arith) (c.byte-4.ensures, omega arith)
