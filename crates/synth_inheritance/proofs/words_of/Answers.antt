use mathlib.Core.Path.{◌≡◌}
use Prim.Native.Nat.{◌<◌}
use native.Mathlib.Omega.{arith}
use borrow.Author.Rules.{rules}
use lib.ListN.{length, get_or, take}
use lib.Seq.{get_or-take, length-take-le}
use Rattle.rows.specs.Rows.{single}
use Rattle.rows.specs.RowLaws.{small-either, small-single, small-empty}
use Rattle.synth_inheritance.specs.OwnLaws.{holds-none, holds-step}
use Rattle.synth_inheritance.proofs.words_of.Goals as goal

pub loop-w-init : goal.loop-w-init
loop-w-init c = (rw c.empty_row-row.ensures small-empty, rw c.empty_row-row.ensures (holds-none c.args.a.info.words))

pub loop-w-preserved : goal.loop-w-preserved
loop-w-preserved c =
    let i = c.loop-w in
    let a = c.args.a.info in
    let k = take a.count a.words in
    let l : length a.words ≡ 15 = search rules in
    let n : length k ≡ a.count = length-take-le a.count a.words (omega (arith, a.few)) in
    let p : i.w-index < a.count = omega (arith, c.loop-w-test.true) in
    let b : get_or k i.w-index 0 < 200 = rw (get_or-take a.count a.words i.w-index 0 p) (c.args.a.below i.w-index p) in
    rw (c.in_either-row.ensures, c.alone-one.ensures, c.from.ensures) (
      small-either i.row (single (get_or k i.w-index 0)) i.invariant.0 (small-single (get_or k i.w-index 0)),
      holds-step k i.row i.w-index c.loop-w-test.true b i.invariant.1,
    )
