use Rattle.std.proofs.Common.{arith}
use Rattle.item_writer.specs.WriterLaws.{fills_more, fills_all}
use Rattle.item_writer.proofs.fill_word.Goals as goal

pub loop-c-preserved : goal.loop-c-preserved
loop-c-preserved c =
    let s = c.in-Some.ensures.steps in
    rw c.with_one.ensures (fills_more c.args.words.now c.args.types c.args.k _ _ _ _ (omega arith) s.0 s.1 c.loop-c.invariant)

pub returns : goal.returns
returns c = fills_all c.args.words.now c.args.types c.args.k _ _ (omega (arith, c.in-None.ensures.steps.0)) c.loop-c.invariant
