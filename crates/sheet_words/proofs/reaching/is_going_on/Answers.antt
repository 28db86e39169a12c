use native.Mathlib.Omega.{arith}
use mathlib.Core.Path.{◌≡◌, refl, sym, ap, ◌∙◌}
use Prim.Native.Nat.{ℕ, ◌+◌, ◌*◌}
use lib.ListN.{drop}
use Rattle.definitions.specs.Bits.{num}
use borrow.Author.Tests.{eq-eqb, ne_eqb}
use Rattle.lists.specs.Tests.{eqb-flip}
use Rattle.sheet_words.specs.Words.{bits_in}
use Rattle.sheet_words.specs.ReachingLaws.{on-short, on-step, on-end}
use Rattle.sheet_words.proofs.reaching.is_going_on.Goals as goal

pub returns-then-v-n : goal.returns-then-v-n
returns-then-v-n c =
    let w = c.args.w in
    let v = c.args.v in
    sym (on-short (bits_in w.source) (bits_in v.source) w.at v.at w.count v.count c.if-v-n.true)

pub loop-i-init : goal.loop-i-init
loop-i-init c = (omega arith, refl)

pub returns-then-x-y : goal.returns-then-x-y
returns-then-x-y c =
    let w = c.args.w in
    let v = c.args.v in
    let l = c.loop-i in
    sym
    (l.invariant.1
    ∙ on-step (bits_in w.source) (bits_in v.source) w.at v.at w.count v.count l.i (omega arith) (omega arith) _ _ c.wide-x.ensures c.wide-y.ensures
    ∙ rw (ne_eqb c.wide-x.result c.wide-y.result c.if-x-y.true) refl)

pub loop-i-preserved : goal.loop-i-preserved
loop-i-preserved c =
    let w = c.args.w in
    let v = c.args.v in
    let l = c.loop-i in (
      omega arith,
      l.invariant.1
          ∙ on-step (bits_in w.source) (bits_in v.source) w.at v.at w.count v.count l.i (omega arith) (omega arith) _ _ c.wide-x.ensures c.wide-y.ensures
          ∙ rw (eq-eqb c.wide-x.result c.wide-y.result (omega arith)) refl,
    )

pub returns : goal.returns
returns c =
    let w = c.args.w in
    let v = c.args.v in
    let l = c.loop-i in
    let e : l.i ≡ w.count = omega arith in
    eqb-flip c.wide.result 45
    ∙ sym
    (l.invariant.1
    ∙ on-end (bits_in w.source) (bits_in v.source) w.at v.at w.count v.count l.i (omega arith) (omega arith) c.wide.result
    (c.wide.ensures ∙ ap (λ (i : ℕ). num 8 (drop (v.at + 8 * i) (bits_in v.source))) (sym e)))
