use mathlib.Core.Bool.{not, not-not}
use Rattle.std.proofs.Common.{sym, ap, ◌∙◌}
use Rattle.synth_same.specs.FirstLaws.{turn-unlike, turn-alike, turn-short, turn-end}
use Rattle.synth_same.proofs.same_classes.Goals as goal

pub returns-then-not-is_class : goal.returns-then-not-is_class
returns-then-not-is_class c =
    turn-unlike _ _ _ _ c.loop-dom.invariant c.in-Some.dom c.in-Some-next.place _ _ c.in-Some.ensures.steps c.in-Some-next.ensures.steps c.is_class.ensures c.if-not-is_class.true

pub loop-dom-preserved : goal.loop-dom-preserved
loop-dom-preserved c =
    turn-alike _ _ _ _ c.loop-dom.invariant c.in-Some.dom c.in-Some-next.place _ _ c.in-Some.ensures.steps c.in-Some-next.ensures.steps c.is_class.ensures c.if-not-is_class.false

pub returns-in-None-next : goal.returns-in-None-next
returns-in-None-next c = turn-short _ _ _ _ c.loop-dom.invariant c.in-Some.dom _ c.in-Some.ensures.steps c.in-None-next.ensures.steps.0

pub returns : goal.returns
returns c = sym (not-not c.is_none.result) ∙ ap not (sym c.is_none.ensures) ∙ turn-end _ _ _ _ c.loop-dom.invariant _ _ c.in-None.ensures.steps.0 c.next-2.ensures.steps
