use Rattle.synth_interpreting.specs.AnnotationsLaws.{all_then, type-done, type-nothing}
use Rattle.synth_interpreting.proofs.interpret_inherited_annotations.Goals as goal

pub returns-then-h-eq0 : goal.returns-then-h-eq0
returns-then-h-eq0 c = let a = c.args in type-nothing a.t.now a.place a.own.now a.h.now a.out.now c.if-own-eq0.true c.if-h-eq0.true

pub returns : goal.returns
returns c =
    let a = c.args in
    let o = c.interpret_owns in
    let i = c.interpret_extra in
    type-done a.t.now a.place a.own.now a.h.now c.new.result a.out.now _ i.new.p _ c.new.ensures.1
    (all_then a.t.now a.place _ _ 180 200 _ o.new.p _ a.out.now _ _ o.ensures i.ensures)
