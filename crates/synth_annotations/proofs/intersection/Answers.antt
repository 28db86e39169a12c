use mathlib.Core.Path.{sym, ap, ap₂, ◌∙◌}
use Rattle.definitions.specs.Annotations.{nothing, whole, by_word, shared, some_if, unless_empty}
use Rattle.synth_annotations.specs.Reading.{info_of, part_of, as_overlap}
use Rattle.synth_annotations.specs.Laws.{intersection-by, part_then, matched-by-word}
use Rattle.synth_annotations.proofs.intersection.Goals as goal

pub returns-in-Nothing : goal.returns-in-Nothing
unfolding part_of
returns-in-Nothing c =
    let s = c in
    intersection-by s.args.x s.args.y nothing (sym c.overlap_of.ensures ∙ ap as_overlap c.in-Nothing.is)

pub returns-in-Whole : goal.returns-in-Whole
unfolding part_of
returns-in-Whole c =
    let s = c in
    ap part_of c.then_some.ensures ∙ part_then _ s.args.x ∙ ap (λ b. some_if b (info_of s.args.x)) c.same_alias.ensures
    ∙ intersection-by s.args.x s.args.y whole (sym c.overlap_of.ensures ∙ ap as_overlap c.in-Whole.is)

pub returns-in-ByWord : goal.returns-in-ByWord
unfolding part_of
returns-in-ByWord c =
    let s = c in
    let e = sym c.overlap_of.ensures ∙ ap as_overlap c.in-ByWord.is in
    let b = matched-by-word s.args.x s.args.y e in
    ap part_of c.unless_empty.ensures ∙ b.made c.shared_resources.result _ c.shared_resources.ensures
    ∙ ap₂ (λ us vs. unless_empty (info_of s.args.x) (shared us vs)) (sym b.left) (sym b.right)
    ∙ intersection-by s.args.x s.args.y by_word e
