use Rattle.std.specs.Prelude.{None, ◌<◌}
use Rattle.std.proofs.Common.{length, refl, sym, subst, ◌∙◌, ℕ, get_or, arith}
use Rattle.lists.specs.Tests.{never}
use Rattle.definitions.specs.Bits.{bits_of}
use Rattle.synth_own.specs.Owning.{OwnFit}
use Rattle.synth_store.specs.Store.{nothing}
use Rattle.synth_store.specs.declared.Saved.{Saved}
use Rattle.synth_handing.specs.Handing.{place_at}
use Rattle.synth_handing.specs.Steps.{place-under, parent-fits, gathering-none, gathering-more, gathering-all}
use Rattle.synth_handing.proofs.gather.Goals as goal
use Rattle.synth_handing.proofs.gather.Goals.{then-has, else-has}

pub loop-i-init : goal.loop-i-init
loop-i-init c = gathering-none _ _ _ _ _ _ c.nothing-out.result c.nothing-out.ensures

pub offset_bounds-notes-place : goal.offset_bounds-notes-place
offset_bounds-notes-place c = omega (arith, place-under _ _ _ _ _ _ c.requires.ready _ _ _ c.from-i-end.ensures c.loop-i-test.true c.place-place.ensures)

pub offset_bounds-store-place : goal.offset_bounds-store-place
offset_bounds-store-place c = omega (arith, place-under _ _ _ _ _ _ c.requires.ready _ _ _ c.from-i-end.ensures c.loop-i-test.true c.place-place.ensures)

pub bounds-notes-place : goal.bounds-notes-place
bounds-notes-place c = place-under _ _ _ _ _ _ c.requires.ready _ _ _ c.from-i-end.ensures c.loop-i-test.true c.place-place.ensures

pub bounds-store-place : goal.bounds-store-place
bounds-store-place c = place-under _ _ _ _ _ _ c.requires.ready _ _ _ c.from-i-end.ensures c.loop-i-test.true c.place-place.ensures

pub listed : goal.listed
listed c = omega (arith, place-under _ _ _ _ _ _ c.requires.ready _ _ _ c.from-i-end.ensures c.loop-i-test.true c.place-place.ensures)

pub inherit_any-requires-clause-low : goal.inherit_any-requires-clause-low
inherit_any-requires-clause-low c = place-under _ _ _ _ _ _ c.requires.ready _ _ _ c.from-i-end.ensures c.loop-i-test.true c.place-place.ensures

pub inherit_any-requires-clause-own_fit : goal.inherit_any-requires-clause-own_fit
inherit_any-requires-clause-own_fit c =
    let a = c.args in
    subst (λ (p : ℕ). OwnFit (bits_of a.s.now) (get_or a.notes.now p None)) (sym c.place-place.ensures)
    (parent-fits _ _ _ _ _ _ c.requires.ready c.loop-i.i (omega (arith, c.from-i-end.ensures, c.loop-i-test.true)))

pub loop-i-preserved : goal.loop-i-preserved
loop-i-preserved c =
    let a = c.args in
    let l = c.loop-i in
    let r = c.requires.ready in
    let low : place_at a.l.now a.t l.i < length a.store.now = omega (arith, place-under _ _ _ _ _ _ r _ l.i _ c.from-i-end.ensures c.loop-i-test.true refl) in
    let more = λ (d : Saved). gathering-more a.l.now (bits_of a.s.now) a.notes.now a.store.now a.t a.flags l.i l.out c.if-has.out (omega (arith, c.from-i-end.ensures, c.loop-i-test.true)) r.low l.invariant d low in
    elim c.if-has.branch [
      | then-has w ↦
          let k = rw w.place-place.ensures at w.inherit_any.ensures in
          more w.index-store-place.result (record { taken = λ e. rw w.out-is k; passed = λ e. never (sym c.has.ensures ∙ w.if-has.true) e })
      | else-has w ↦ more nothing (record { taken = λ e. never e (sym c.has.ensures ∙ w.if-has.false); passed = λ e. w.out-is })
    ]

pub returns : goal.returns
returns c =
    let a = c.args in
    let l = c.loop-i in
    gathering-all a.l.now (bits_of a.s.now) a.notes.now a.store.now a.t a.flags l.i l.out c.requires.ready.low (omega (arith, c.from-i-end.ensures)) l.invariant
