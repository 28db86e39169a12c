use mathlib.Core.Path.{sym, ap, ◌∙◌}
use native.Mathlib.Omega.{arith}
use Rattle.std.specs.Prelude.{◌-◌}
use Rattle.rows.specs.Rows.{has_bit}
use Rattle.item_heads.specs.declared.packed.Packed.{Packed}
use Rattle.synth_classes.specs.Numbers.{numbers_left}
use Rattle.synth_same.specs.MarkLaws.{width-some, width-no, seeking-start, seeking-next, seeking-same, seeking-found}
use Rattle.synth_same.proofs.mark_bit.Goals as goal

pub loop-dom-init : goal.loop-dom-init
loop-dom-init c = seeking-start _ _ _ _ _ (ap (numbers_left 201) c.into_iter-dom-iterator.ensures.into_iter_gives ∙ c.of-dom-items.ensures)

pub returns-then-left-width : goal.returns-then-left-width
returns-then-left-width c =
    let e = sym c.in-Some-class_place.ensures in
    c.has.ensures
    ∙ ap (λ (p : Packed). has_bit p.bits (c.marks_of-marks.result.width - 1 - c.loop-dom.left)) c.marks_of-marks.ensures
    ∙ seeking-found _ _ _ _ _ _ c.in-Some.dom _ _ _ c.in-Some.ensures.steps e (width-some _ _ _ _ _ e (ap (λ (p : Packed). p.width) c.marks_of-marks.ensures)) (omega arith) c.loop-dom.invariant

pub loop-dom-preserved-in-Some-class_place : goal.loop-dom-preserved-in-Some-class_place
loop-dom-preserved-in-Some-class_place c =
    seeking-next _ _ _ _ _ _ c.in-Some.dom _ _ c.in-Some.ensures.steps (width-some _ _ _ _ _ (sym c.in-Some-class_place.ensures) (ap (λ (p : Packed). p.width) c.marks_of-marks.ensures)) (omega arith) c.loop-dom.invariant

pub loop-dom-preserved : goal.loop-dom-preserved
loop-dom-preserved c = seeking-same _ _ _ _ _ _ c.in-Some.dom _ c.in-Some.ensures.steps (width-no _ _ _ (sym c.in_default.ensures)) c.loop-dom.invariant
