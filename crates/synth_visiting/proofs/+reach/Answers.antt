use Rattle.std.proofs.Common.{◌≡◌, sym, ◌∙◌, arith}
use Rattle.order_form.specs.Reading.{how_many}
use Rattle.synth_visiting.specs.Going.{going-none, going_more, going-standing, room, reached-new, reached-seen, parent-rank}
use Rattle.synth_visiting.proofs.+reach.Goals as goal

pub returns-then-has : goal.returns-then-has
returns-then-has t c =
    let r = c.requires in
    reached-seen _ r.orderly _ r.t_bound.0 _ r.t_bound.1 (sym c.has.ensures ∙ c.if-has.true)

pub loop-i-init : goal.loop-i-init
loop-i-init t c =
    let r = c.requires in
    going-none _ r.orderly _ r.t_bound.0 _ r.t_bound.1

pub marked-flags-requires : goal.marked-flags-requires
marked-flags-requires t c =
    let a = c.args in
    let r = c.requires in
    let e = c.from-i-end.ensures in
    let b = parent-rank a.l.now r.orderly a.t r.t_bound.0 a.trail.now c.loop-i.i (omega (arith, e, c.loop-i-test.true)) in (
      omega (arith, e, c.loop-i-test.true, a.l.now.short a.t r.t_bound.0),
      omega (arith, c.place-place.ensures, b.0, a.l.now.few),
    )

-- the parent is a type, earlier in the order
pub reach-requires : goal.reach-requires
reach-requires t c =
    let a = c.args in
    let r = c.requires in
    let b = parent-rank a.l.now r.orderly a.t r.t_bound.0 a.trail.now c.loop-i.i (omega (arith, c.from-i-end.ensures, c.loop-i-test.true)) in
    let e = rw (← c.place-place.ensures) at b in
    (omega (arith, c.decreases, e.1), (r.orderly, (e.0, c.loop-i.invariant.held)))

pub loop-i-preserved : goal.loop-i-preserved
loop-i-preserved t c =
    let a = c.args in
    let r = c.requires in
    let l = c.loop-i in
    let e = c.place-place.ensures in
    let m = rw e at c.marked-flags.ensures in
    let n = rw e at c.reach.ensures in
    going_more a.l.now r.orderly a.t r.t_bound.0 a.trail.now l.i l.trail c.reach.new.trail l.flags c.marked-flags.result (omega (arith, c.from-i-end.ensures, c.loop-i-test.true)) l.invariant m n

pub push-requires : goal.push-requires
push-requires t c =
    let a = c.args in
    let r = c.requires in
    let l = c.loop-i in
    let p = a.l.now in
    let e : l.i ≡ how_many p a.t = omega (arith, c.from-i-end.ensures) in
    let s = going-standing p r.orderly a.t r.t_bound.0 a.trail.now l.i l.trail l.flags e r.t_bound.1 (sym c.has.ensures ∙ c.if-has.false) l.invariant in (
      omega (arith, room p r.orderly l.trail a.t l.invariant.held s, a.l.now.few),
      omega (arith, a.l.now.few, r.t_bound.0),
    )

pub returns : goal.returns
returns t c =
    let a = c.args in
    let r = c.requires in
    let l = c.loop-i in
    let p = a.l.now in
    let e : l.i ≡ how_many p a.t = omega (arith, c.from-i-end.ensures) in
    reached-new p r.orderly a.t r.t_bound.0 a.trail.now l.i l.trail c.push.new.self l.flags e r.t_bound.1 (sym c.has.ensures ∙ c.if-has.false) l.invariant c.push.ensures
