use native.Mathlib.Omega.{arith}
use mathlib.Core.Path.{ap, ◌∙◌}
use mathlib.Core.List.{[], ◌∷◌, ◌++◌}
use lib.ListN.{length, take}
use lib.Seq.{take_all}
use Rattle.bounded.specs.Items.{length-items_of}
use Rattle.synth_inheritance.specs.declared.own.OwnAssociate.{OwnAssociate}
use Rattle.synth_interpreting.specs.Annotations.{plain_of}
use Rattle.synth_interpreting.specs.AnnotationsLaws.{all_none, all_then, all-as}
use Rattle.synth_interpreting.specs.OwnLaws.{plain_step}
use Rattle.synth_interpreting.proofs.interpret_owns.Goals as goal

pub loop-a-init : goal.loop-a-init
loop-a-init c = all_none _ _ _ _

pub interpret_own-requires-clause-room : goal.interpret_own-requires-clause-room
interpret_own-requires-clause-room c =
    let o = c.args.own.now in
    omega (arith, c.loop-a.invariant.count, c.requires.room, c.loop-a-test.true, ap length c.as_slice-a-items.ensures, length-items_of o, o.few)

pub loop-a-preserved : goal.loop-a-preserved
loop-a-preserved c =
    let a = c.args in
    let l = c.loop-a in
    let k = c.as_slice-a-items.result.now in
    all-as a.t.now a.place _ _ _ _ a.p.now a.out.now _ _
    (λ ns. ap (λ (x : OwnAssociate). plain_of (take l.a-index k) ++ plain_of (x ∷ [])) c.a-item.is ∙ plain_step k l.a-index c.a-item.result c.loop-a-test.true)
    (omega arith)
    (all_then a.t.now a.place _ _ _ 15 a.p.now l.p _ a.out.now l.out _ l.invariant c.interpret_own.ensures)

pub returns : goal.returns
returns c =
    let a = c.args in
    let l = c.loop-a in
    let o = a.own.now in
    all-as a.t.now a.place _ _ _ 180 a.p.now a.out.now l.p l.out
    (λ ns. ap plain_of (take_all l.a-index c.as_slice-a-items.result.now c.loop-a-test.false ∙ c.as_slice-a-items.ensures))
    (omega (arith, c.loop-a.auto.a-index-end, ap length c.as_slice-a-items.ensures, length-items_of o, o.few)) l.invariant
