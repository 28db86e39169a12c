use native.Mathlib.Omega.{arith}
use mathlib.Core.Path.{sym}
use Rattle.bits.specs.ReadLaws.{read-in, read_past}
use Rattle.bits.proofs.Cursor.read.Goals as goal

pub returns-then-total-at : goal.returns-then-total-at
returns-then-total-at c =
    let a = c.args in
    sym (read_past a.s.now a.self.at a.n (omega arith))

pub returns : goal.returns
returns c =
    let a = c.args in
    rw c.window.ensures (sym (read-in a.s.now a.self.at a.n (omega arith)))
