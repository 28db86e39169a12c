use mathlib.Core.List.{List}
use mathlib.Core.Path.{◌≡◌, refl, sym, ap, ◌∙◌}
use Prim.Native.Nat.{ℕ, ◌<◌}
use native.Mathlib.Omega.{arith}
use lib.ListN.{length, get_or, take}
use Rattle.std.proofs.Common.{get_or-take, length-take-le}
use Rattle.synth_visiting.specs.declared.Arrival.{Arrival}
use Rattle.synth_visiting.specs.declared.Trail.{Trail}
use Rattle.synth_visiting.specs.Trails.{zero_arrival}
use Rattle.synthesis.specs.AllLaws.{played-none, played-more, played-full, turn}
use Rattle.synthesis.proofs.play_all.Goals as goal

-- the arrivals as a slice are those of the trail: as many, and each in its place
in-trail : (k : List Arrival) (r : Trail) → k ≡ take r.arrivals.count r.arrivals.items → length k ≡ r.arrivals.count
in-trail k r e = ap length e ∙ length-take-le r.arrivals.count r.arrivals.items (omega (arith, r.arrivals.few, r.arrivals.long))

item : (k : List Arrival) (r : Trail) (i : ℕ) → k ≡ take r.arrivals.count r.arrivals.items → i < length k → get_or k i zero_arrival ≡ get_or r.arrivals.items i zero_arrival
item k r i e h =
    ap (λ (m : List Arrival). get_or m i zero_arrival) e
    ∙ get_or-take r.arrivals.count r.arrivals.items i zero_arrival (omega (arith, h, in-trail k r e))

pub loop-arrival-init : goal.loop-arrival-init
loop-arrival-init c = (refl, played-none _ _ _ _ _ _ _)

pub returns-then-is_over : goal.returns-then-is_over
returns-then-is_over c =
    let l = c.loop-arrival in
    let a = c.as_slice-arrival-items in
    played-full _ _ _ _ _ _ l.arrival-index _ _ l.ok (omega (arith, c.loop-arrival-test.true, in-trail a.result.now c.args.trail a.ensures)) (sym c.is_over.ensures ∙ c.if-is_over.true) l.invariant.1

pub inherit_annotations-ok-requires : goal.inherit_annotations-ok-requires
inherit_annotations-ok-requires c =
    let u = c.requires in
    let l = c.loop-arrival in
    let a = c.as_slice-arrival-items in
    let k = c.loop-arrival-test.true in
    rw (item a.result.now c.args.trail l.arrival-index a.ensures k)
    (turn _ _ _ _ _ _ u.trail l.arrival-index (omega (arith, k, in-trail a.result.now c.args.trail a.ensures)) _ _ _ l.ok u l.invariant.1)

pub loop-arrival-preserved : goal.loop-arrival-preserved
loop-arrival-preserved c =
    let u = c.requires in
    let l = c.loop-arrival in
    let a = c.as_slice-arrival-items in
    let k = c.loop-arrival-test.true in
    let y = c.inherit_annotations-ok in (
      y.ensures.long ∙ l.invariant.0,
      played-more _ _ _ _ _ _ u.trail l.arrival-index (omega (arith, k, in-trail a.result.now c.args.trail a.ensures)) _ _ l.ok _ _ _ l.invariant.1
          (rw (item a.result.now c.args.trail l.arrival-index a.ensures k) at y.ensures),
    )

pub returns : goal.returns
returns c =
    let l = c.loop-arrival in
    let a = c.as_slice-arrival-items in
    let e : l.arrival-index ≡ c.args.trail.arrivals.count = omega (arith, c.loop-arrival-test.false, l.auto.arrival-index-end, in-trail a.result.now c.args.trail a.ensures) in
    let g = rw e at l.invariant.1 in
    record { same = g.same; emits = λ s z. (g.going s z).emits }
