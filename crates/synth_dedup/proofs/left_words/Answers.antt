use mathlib.Core.Path.{sym, ap, ◌∙◌}
use Rattle.synth_annotations.specs.Reading.{as_overlap}
use Rattle.synth_dedup.specs.Entries.{left_by}
use Rattle.synth_dedup.proofs.left_words.Goals as goal

pub returns-in-Nothing : goal.returns-in-Nothing
returns-in-Nothing c =
    let a = c.args in
    ap (λ o. left_by o a.x a.y) (sym (ap as_overlap c.in-Nothing.is) ∙ c.overlap_of.ensures)

pub returns-in-Whole : goal.returns-in-Whole
returns-in-Whole c =
    let a = c.args in
    c.empty_row.ensures ∙ ap (λ o. left_by o a.x a.y) (sym (ap as_overlap c.in-Whole.is) ∙ c.overlap_of.ensures)

pub returns-in-ByWord : goal.returns-in-ByWord
returns-in-ByWord c =
    let a = c.args in
    c.in_first.ensures ∙ ap (λ o. left_by o a.x a.y) (sym (ap as_overlap c.in-ByWord.is) ∙ c.overlap_of.ensures)
