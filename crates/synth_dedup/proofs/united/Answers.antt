use mathlib.Core.Path.{◌≡◌, ◌∙◌}
use native.Mathlib.Omega.{arith}
use lib.ListN.{length, length-set}
use Rattle.lists.specs.Tabulating.{length-mapped}
use Rattle.synth_dedup.specs.JoinLaws.{upto_step}
use Rattle.synth_dedup.proofs.united.Goals as goal

pub loop-w-init : goal.loop-w-init
loop-w-init c =
    let l : length c.args.doms.now ≡ 200 = search length-mapped in
    (l, λ w b. absurd (native.Mathlib.Nat.not-suc-le-zero b))

pub loop-w-preserved : goal.loop-w-preserved
loop-w-preserved c =
    let s = c in
    let i = c.loop-w in
    rw c.in_either.ensures (length-set i.out i.w _ ∙ i.invariant.0, upto_step s.args.doms.now s.args.given.now i.out i.w (omega (arith, i.invariant.0)) i.invariant.1)

pub returns : goal.returns
returns c =
    let i = c.loop-w in
    record { at = λ w b. i.invariant.1 w (omega arith) }
