use mathlib.Core.Logic.{⊎_elim}
use mathlib.Core.Path.{sym, ap, subst, ◌∙◌}
use Rattle.synth_associates.specs.Step.{failed_in, reached, Stepped}
use Rattle.synth_associates.specs.StepLaws.{some-unknown, none-unknown, step-unknown, step-ends}
use Rattle.synth_associates.proofs.interpret_word.Goals as goal

pub returns-then-is_some : goal.returns-then-is_some
returns-then-is_some c =
    let a = c.args in
    step-unknown a.t.now a.site a.origin (reached a.s a.made.now) a.out.now a.site.numbered _
    (some-unknown _ _ _ _ c.first_unknown.ensures (sym c.is_some.ensures ∙ c.if-is_some.true)) c.unknown_rows.ensures

pub interpret_known-requires : goal.interpret_known-requires
interpret_known-requires c =
    record { room = c.requires.room; word_value = none-unknown _ _ _ _ c.first_unknown.ensures (sym c.is_some.ensures ∙ c.if-is_some.false) }

pub returns-in-Going : goal.returns-in-Going
returns-in-Going c =
    let a = c.args in
    let k = c.interpret_known in
    subst (λ s. Stepped a.t.now a.site a.origin (reached s a.made.now) a.out.now (reached k.result k.new.made) k.new.out) (sym c.in-Going.is) k.ensures

pub returns-in-Failed : goal.returns-in-Failed
returns-in-Failed c =
    let a = c.args in
    step-ends a.t.now a.site a.origin (reached a.s a.made.now) a.out.now a.site.numbered
    (none-unknown _ _ _ _ c.first_unknown.ensures (sym c.is_some.ensures ∙ c.if-is_some.false)) (⊎_elim (ap failed_in) (ap failed_in) c.in-Failed.is)
