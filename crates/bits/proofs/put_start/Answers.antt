use native.Mathlib.Omega.{arith}
use Rattle.bits.specs.WriteLaws.{start_is}
use Rattle.bits.proofs.put_start.Goals as goal

pub returns : goal.returns
returns c =
    let a = c.args in
    start_is a.buf.now a.i a.m a.w (omega arith) (omega arith) (omega arith)
