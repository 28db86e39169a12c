use native.Mathlib.Omega.{arith}
use borrow.Author.Rules.{rules}
use Rattle.bits.specs.WriteLaws.{chunk-is}
use Rattle.bits.proofs.put_chunk.Goals as goal

pub returns : goal.returns
returns c =
    let a = c.args in
    chunk-is a.buf.now a.p a.m a.w (omega arith) (omega arith) (omega arith) (search rules)
