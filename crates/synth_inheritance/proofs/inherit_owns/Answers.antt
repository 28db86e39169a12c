use Rattle.std.proofs.Common.{◌≡◌, refl, ap₂, ◌∙◌, length, arith}
use Rattle.std.proofs.Math.Option.{some}
use Rattle.definitions.specs.Inherited.{dedup_one, dedup_onto}
use Rattle.synth_dedup.specs.Reading.{names_at, inherited_of}
use Rattle.synth_inheritance.specs.Own.{handed_own}
use Rattle.synth_inheritance.specs.OwnLaws.{onto-step}
use Rattle.synth_inheritance.proofs.inherit_owns.Goals as goal

pub loop-a-init : goal.loop-a-init
unfolding dedup_onto
loop-a-init c ws names asc = refl

pub loop-a-preserved : goal.loop-a-preserved
loop-a-preserved c =
    let s = c in
    let i = c.loop-a in
    let a = c.a-item.result in
    λ ws names asc.
    c.inherit_own.ensures.dedup ws names asc
    ∙ ap₂ (λ z x. dedup_one ws z (some (handed_own (names_at names s.args.parent) x))) (i.invariant ws names asc) c.a-item.is
    ∙ onto-step ws (handed_own (names_at names s.args.parent)) s.args.own.now i.a-index a (inherited_of names s.args.h.now) c.loop-a-test.true

pub returns : goal.returns
returns c =
    let i = c.loop-a in
    let e : i.a-index ≡ length c.args.own.now = omega arith in
    record { dedup = rw e at i.invariant }
