use native.Mathlib.Omega.{arith}
use Rattle.law_parents.specs.Listed.{parent-below}
use Rattle.synth_hearing.specs.HearingLaws.{flags-none, flags-more}
use Rattle.synth_hearing.proofs.flags_of.Goals as goal

pub loop-i-init : goal.loop-i-init
loop-i-init c = flags-none _ _ _ _

pub passes-handed-requires : goal.passes-handed-requires
passes-handed-requires c =
    let a = c.args in
    let i = c.loop-i.i in
    let e = c.from-i-end.ensures in
    let b = parent-below a.l.now a.t c.requires.1 i (omega (arith, e, c.loop-i-test.true)) in (
      omega (arith, e, c.loop-i-test.true, a.l.now.short a.t c.requires.0),
      omega (arith, c.place-place.ensures, b, a.l.now.few),
    )

pub loop-i-preserved : goal.loop-i-preserved
loop-i-preserved c =
    let a = c.args in
    let l = c.loop-i in
    let e = rw c.place-place.ensures at c.passes-handed.ensures in
    flags-more a.l.now a.t a.fresh a.ok l.i l.flags c.passes-handed.result c.with_flag-flags.result l.invariant e c.with_flag-flags.ensures
