use Rattle.std.proofs.Common.{List, ℕ, ◌≡◌, ◌∙◌, ap, sym, subst, refl, suc, ◌+◌, ◌≤◌, ◌<◌, length, length-append, rules, arith}
use Rattle.lists.specs.Places.{zero-at}
use Rattle.bounded.specs.Items.{items_of, length-items_of}
use Rattle.bitsets.specs.Bitsets.{members}
use Rattle.std.specs.Int.Bits.{bit_and}
use Rattle.order_rounds.specs.Rounds.{ReadyIn}
use Rattle.order_rounds.specs.SetLaws.{final-is}
use Rattle.order_rounds.specs.StageLaws.{stage-none, stage-more, stage-end, room, some-member, appended-placed}
use Rattle.order_rounds.proofs.place_all.Goals as goal
use Rattle.order_rounds.proofs.place_all.Goals.{In-loop-ready, After-append-near}

-- the types that are ready have room, and there is one
ready : (c : In-loop-ready) → (c.loop-ready.order.types.count + length (members c.loop-ready.ready) ≤ 64) × (0 < length (members c.loop-ready.ready))
ready c =
    let l = c.loop-ready in
    let s = c.requires in (
      omega (arith, length-items_of l.order.types, room _ _ s _ _ _ _ l.invariant.3, s.few),
      some-member l.ready l.invariant.2 c.loop-ready-test.true,
    )

-- more types stand in the order behind them
grown : (c : After-append-near) → c.append-near.new.order.types.count ≡ c.loop-ready.order.types.count + length (members c.loop-ready.ready)
grown c =
    let l = c.loop-ready in
    omega (
      arith,
      length-items_of c.append-near.new.order.types,
      ap length c.append-near.ensures.placed,
      length-append (items_of l.order.types) (members l.ready),
      length-items_of l.order.types,
    )

pub put_children-ready-requires-clause-childless : goal.put_children-ready-requires-clause-childless
put_children-ready-requires-clause-childless c = record { long = refl; none = λ b h. zero-at 64 b }

pub loop-ready-init : goal.loop-ready-init
loop-ready-init c = (0, omega arith, search rules, stage-none _ _ c.requires _ _ _ _ c.clear.ensures c.put_children-ready.ensures c.first-waiting.ensures)

pub append-near-requires : goal.append-near-requires
append-near-requires c = (ready (goal.at.append-near-requires c).In-loop-ready).0

pub ready_in-ready-requires : goal.ready_in-ready-requires
ready_in-ready-requires c = rw c.as_slice.ensures (appended-placed _ _ _ c.loop-ready.invariant.2 c.append-near.ensures.placed)

pub loop-ready-smaller : goal.loop-ready-smaller
loop-ready-smaller c = omega (arith, grown (goal.at.loop-ready-smaller c).After-append-near, ready (goal.at.loop-ready-smaller c).In-loop-ready)

pub loop-ready-preserved : goal.loop-ready-preserved
loop-ready-preserved c =
    let l = c.loop-ready in
    let a = c.append-near.ensures in (
      suc l.invariant.0,
      omega (arith, grown (goal.at.loop-ready-preserved c).After-append-near, ready (goal.at.loop-ready-preserved c).In-loop-ready),
      search rules,
      stage-more _ _ c.requires _ _ _ _ _ l.ready l.waiting _ _ _ l.invariant.3 a.placed c.without-waiting.ensures c.put_children-ready.ensures a.near
          (subst (λ (out : List ℕ). ReadyIn c.args.t.now (bit_and c.without-waiting.result c.append-near.result) out c.ready_in-ready.result) c.as_slice.ensures c.ready_in-ready.ensures),
    )

pub returns : goal.returns
returns c =
    let l = c.loop-ready in
    let o = l.order.types in
    let e = stage-end _ _ c.requires _ _ _ _ l.invariant.3 (omega arith) (omega (arith, length-items_of o, l.invariant.1)) in
    record { sets = e; places = λ p q. e ∙ sym (final-is p _ _ q); count = λ p q. sym (length-items_of o) ∙ ap length (e ∙ sym (final-is p _ _ q)) }
