use Rattle.std.specs.Prelude.{Option, is_some, ℕ}
use mathlib.Core.Bool.{not, not-not}
use mathlib.Core.Path.{sym, ap, ◌∙◌}
use Rattle.synth_interpretation.specs.JudgedLaws.{unknown_place}
use Rattle.synth_interpretation.proofs.is_unknown.Goals as goal

pub returns : goal.returns
returns c =
    sym (not-not c.is_none.result) ∙ ap not (sym c.is_none.ensures) ∙ ap (λ (o : Option ℕ). not (is_some o)) c.class_place.ensures ∙ unknown_place _ _ _
