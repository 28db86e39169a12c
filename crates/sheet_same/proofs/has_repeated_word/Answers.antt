use mathlib.Core.Path.{refl, ◌∙◌}
use lib.ListN.{get_or, length}
use borrow.Author.Rules.{rules}
use Rattle.std.proofs.Common.{tests}
use Rattle.std.proofs.lemmas.Iterator.{YieldsList-from_range}
use Rattle.std.proofs.lemmas.Iterator.Search.{any_from_yields_List}
use Rattle.sheet_records.specs.Annotations.{annotation_of, zero_annotation}
use Rattle.sheet_same.specs.Repeats.{repeats_word}
use Rattle.sheet_same.specs.RepeatLaws.{slice-any}
use Rattle.sheet_same.proofs.has_repeated_word.Goals as goal

pub returns : goal.returns
returns c =
    let l = c.args.l.now in
    any_from_yields_List (λ i. repeats_word (annotation_of (get_or l i zero_annotation))) _ _ _ c.any.ensures.ran (YieldsList-from_range 0 (length l) _ refl refl) (λ x b q k. search (rules, tests))
    ∙ slice-any repeats_word l 0
