use mathlib.Core.List.{List}
use mathlib.Core.Path.{◌≡◌, sym, ap, ◌∙◌}
use Prim.Native.Nat.{ℕ}
use Rattle.catalogue.specs.Layout.{parents_at}
use Rattle.order_rounds.specs.Rounds.{all_listed_in}
use Rattle.order_rounds.specs.StepLaws.{others-in, ready-none, ready-yes, ready-no, ready-all}
use Rattle.order_rounds.proofs.ready_in.Goals as goal
use Rattle.order_rounds.proofs.ready_in.Goals.{After-all_placed}

pub loop-a-init : goal.loop-a-init
loop-a-init c = rw (c.into_iter-a-iterator.ensures.into_iter_gives, c.members-a-items.ensures) (tt, tt, ready-none _ _ _)

-- whether its parents are placed
asked : (c : After-all_placed) → all_listed_in (parents_at c.args.t.now c.in-Some.a) c.args.placed.now ≡ c.all_placed.result
asked c =
    let out : List ℕ = c.args.placed.now in
    sym (others-in (parents_at c.args.t.now c.in-Some.a) c.args.last out c.requires)
    ∙ ap (λ (x : ℕ). all_listed_in x out) (sym c.without-others.ensures)
    ∙ sym c.all_placed.ensures

pub loop-a-preserved-then-all_placed : goal.loop-a-preserved-then-all_placed
loop-a-preserved-then-all_placed c =
    let s = c.args in
    let l = c.loop-a in
    let w = c.in-Some.ensures.steps in
    let e = asked (goal.at.loop-a-preserved-then-all_placed c).After-all_placed in
    rw c.with_one-out.ensures
    (tt, tt, ready-yes s.t.now s.types s.placed.now l.a-iterator.left l.out c.in-Some.a _ w.0 w.1 (e ∙ c.if-all_placed.true) l.invariant.2)

pub loop-a-preserved : goal.loop-a-preserved
loop-a-preserved c =
    let s = c.args in
    let l = c.loop-a in
    let w = c.in-Some.ensures.steps in
    let e = asked (goal.at.loop-a-preserved c).After-all_placed in
    (tt, tt, ready-no s.t.now s.types s.placed.now l.a-iterator.left l.out c.in-Some.a _ w.0 w.1 (e ∙ c.if-all_placed.false) l.invariant.2)

pub returns : goal.returns
returns c =
    let s = c.args in
    let l = c.loop-a in
    ready-all s.t.now s.types s.placed.now l.a-iterator.left l.out c.in-None.ensures.steps.0 l.invariant.2
