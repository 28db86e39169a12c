-- Laws of marks.
use Rattle.std.specs.Prelude.{[], ◌∷◌, ◌++◌, ◌≡◌, length}
use Rattle.std.proofs.Common.{◌∙◌}
use Rattle.std.proofs.lemmas.List.{length-map}
use Rattle.bounded.specs.Items.{items_of, length-items_of, items_none, items_more}
use Rattle.sheet_records.specs.Marks.{mark_of, Marks, of_marks}
use Rattle.sheet_records.specs.declared.Mark.{Mark}

-- no mark, and one more
pub marks_none : (t : Marks) → items_of t ≡ [] → of_marks t ≡ []
unfolding of_marks
marks_none t e = items_none mark_of t e

pub marks_more : (t u : Marks) (m : Mark) → items_of u ≡ items_of t ++ (m ∷ []) → of_marks u ≡ of_marks t ++ (mark_of m ∷ [])
unfolding of_marks
marks_more t u m e = items_more mark_of t u m e

pub length-of_marks : (t : Marks) → length (of_marks t) ≡ t.count
unfolding of_marks
length-of_marks t = length-map (items_of t) mark_of ∙ length-items_of t
