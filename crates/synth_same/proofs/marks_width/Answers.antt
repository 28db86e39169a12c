use mathlib.Core.Path.{sym, ap, ◌∙◌}
use Rattle.synth_classes.specs.Numbers.{numbers_left}
use Rattle.synth_same.specs.MarkLaws.{width-some, width-no, counting-start, counting-next, counting-same}
use Rattle.synth_same.proofs.marks_width.Goals as goal

pub loop-dom-init : goal.loop-dom-init
loop-dom-init c = counting-start _ _ _ _ (ap (numbers_left 201) c.into_iter-dom-iterator.ensures.into_iter_gives ∙ c.of-dom-items.ensures)

pub loop-dom-preserved-in-Some-class_place : goal.loop-dom-preserved-in-Some-class_place
loop-dom-preserved-in-Some-class_place c =
    let w = c.mark_width-n.ensures in
    counting-next _ _ _ _ _ c.in-Some.dom _ _ c.in-Some.ensures.steps (width-some _ _ _ _ _ (sym c.in-Some-class_place.ensures) w.0) w.1 c.loop-dom.invariant

pub loop-dom-preserved : goal.loop-dom-preserved
loop-dom-preserved c = counting-same _ _ _ _ _ c.in-Some.dom _ c.in-Some.ensures.steps (width-no _ _ _ (sym c.in_default.ensures)) c.loop-dom.invariant
