use Rattle.item_pen.specs.PenLaws.{part-less, part-last}
use Rattle.bits.specs.WriteLaws.{length-put}
use mathlib.Core.Path.{ap, ◌∙◌}
use native.Mathlib.Omega.{arith}
use lib.ListN.{length}
use Rattle.definitions.specs.Bits.{to_bits}
use Rattle.bits.specs.NumberLaws.{length-to_bits}
use Rattle.item_pen.proofs.put_near.Goals as goal

pub write-c-requires : goal.write-c-requires
write-c-requires c =
    let a = c.args in
    let l = c.loop-left in
    let x = length-to_bits a.f.width a.f.value in
    let y = length-to_bits l.left a.f.value in
    (omega arith, omega (arith, l.invariant.1.end, l.invariant.1.long, c.requires), omega (arith, l.invariant.1.end, c.requires))

pub loop-left-preserved : goal.loop-left-preserved
loop-left-preserved c =
    (omega arith, part-less c.args.f.width c.loop-left.left c.args.f.value (omega arith) c.loop-left.invariant.1 c.write-c.ensures)

pub write-requires : goal.write-requires
write-requires c =
    let a = c.args in
    let l = c.loop-left in
    let x = length-to_bits a.f.width a.f.value in
    let y = length-to_bits l.left a.f.value in
    (omega arith, omega (arith, l.invariant.1.end, l.invariant.1.long, c.requires), omega (arith, l.invariant.1.end, c.requires))

pub shape_of-buf : goal.shape_of-buf
shape_of-buf c =
    ap length (part-last c.args.f.width c.loop-left.left c.args.f.value c.loop-left.invariant.1 c.write.ensures).holds ∙ length-put c.args.buf.now c.args.at (to_bits c.args.f.width c.args.f.value)

pub returns : goal.returns
returns c = (part-last c.args.f.width c.loop-left.left c.args.f.value c.loop-left.invariant.1 c.write.ensures).holds
