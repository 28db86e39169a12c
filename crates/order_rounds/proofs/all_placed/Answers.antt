use mathlib.Core.Path.{◌≡◌, ◌∙◌}
use Prim.Native.Nat.{◌-◌}
use native.Mathlib.Omega.{arith}
use borrow.Author.Tests.{eq-eqb, ne_eqb}
use Rattle.bitsets.specs.WalkLaws.{all-failed, all-passed, all_end}
use Rattle.order_form.specs.Lists.{elem}
use Rattle.order_rounds.specs.Rounds.{all_listed_in}
use Rattle.order_rounds.specs.StepLaws.{elem-none, elem-there}
use Rattle.order_rounds.proofs.all_placed.Goals as goal
use Rattle.order_rounds.proofs.all_placed.Goals.{else-parents-test, then-parents-test+then-j-eq0}

pub parents-preserved : goal.parents-preserved
parents-preserved c =
    let a = c.args in
    let q = c.parents in
    let l = c.loop-j in
    let f = c.lowest-place in
    all-passed (λ b. elem b a.placed.now) a.parents q.left f.result c.rest-left.result q.invariant f.ensures c.rest-left.ensures
    (elem-there f.result a.placed.now (l.j - 1) (omega (arith, l.invariant.0)) c.if-placed-j.true)

pub returns : goal.returns
unfolding all_listed_in
returns c =
    let a = c.args in
    let q = c.parents in
    elim c.parents-test.branch [
      | else-parents-test w ↦
          let e : q.left ≡ 0 = omega arith in
          eq-eqb _ _ e ∙ all_end (λ b. elem b a.placed.now) a.parents q.left q.invariant e
      | then-parents-test+then-j-eq0 w ↦
          ne_eqb q.left 0 (λ e. omega (arith, w.parents-test.true))
          ∙ all-failed (λ b. elem b a.placed.now) a.parents q.left w.lowest-place.result q.invariant w.lowest-place.ensures
          (elem-none w.lowest-place.result a.placed.now (λ i h. w.loop-j.invariant.1 i (omega arith) h))
    ]
