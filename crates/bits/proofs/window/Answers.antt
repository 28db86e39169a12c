use Prim.Native.Nat.{◌/◌}
use mathlib.Core.Path.{◌∙◌}
use native.Mathlib.Omega.{arith}
use Rattle.std.proofs.Common.{zero-add}
use Rattle.bits.specs.NumberLaws.{shl_one, field_of, num-three-at}
use Rattle.bits.proofs.window.Goals as goal

pub returns : goal.returns
returns c =
    let a = c.args in
    let h = c.requires.0 in
    rw (shl_one a.n h)
    (field_of a.s.now a.p a.n _ h
    (c.from_be_bytes-w.ensures
    ∙ simp zero-add (num-three-at a.s.now (a.p / 8) _ _ _ (c.byte_at.ensures, omega arith) (c.byte_at-2.ensures, omega arith) (c.byte_at-3.ensures, omega arith))))
