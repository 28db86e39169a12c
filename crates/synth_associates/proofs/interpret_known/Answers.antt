use mathlib.Core.Path.{refl}
use Rattle.synth_associates.specs.Step.{begun}
use Rattle.synth_associates.specs.StepLaws.{step_other, step-duplicate, step-makes}
use Rattle.synth_duplicates.specs.HeldLaws.{keeps_more}
use Rattle.synth_associates.proofs.interpret_known.Goals as goal

pub returns-in-Some : goal.returns-in-Some
returns-in-Some c =
    let a = c.args in
    step_other a.t.now a.site a.origin (begun a.made.now) a.out.now a.site.numbered c.requires.word_value refl _
    c.in-Some.ensures c.in-Some.dom _ _ _ _ _ refl c.name_at-subject.ensures c.class_name-class.ensures c.put_reason.ensures

pub returns-then-is_duplicate : goal.returns-then-is_duplicate
returns-then-is_duplicate c =
    let a = c.args in
    step-duplicate a.t.now a.site a.origin (begun a.made.now) a.out.now a.site.numbered c.requires.word_value refl _
    c.in_default.ensures _ _ _ _ refl c.is_duplicate.ensures c.if-is_duplicate.true c.name_at-subject.ensures c.put_reason-then-is_duplicate.ensures

pub returns : goal.returns
returns c =
    let a = c.args in
    step-makes a.t.now a.site a.origin (begun a.made.now) a.out.now a.site.numbered c.requires.word_value refl _
    c.in_default.ensures _ _ refl c.is_duplicate.ensures c.if-is_duplicate.false
    (keeps_more a.made.now c.push.new.self (record { word = a.site.word; origin = a.origin }) c.push.ensures.0)
