use mathlib.Core.Path.{refl, ◌∙◌}
use lib.ListN.{get_or, length}
use borrow.Author.Rules.{rules}
use Rattle.std.proofs.Common.{tests}
use Rattle.std.proofs.lemmas.Iterator.{YieldsList-from_range}
use Rattle.std.proofs.lemmas.Iterator.Search.{any_from_yields_List}
use Rattle.definitions.specs.Checks.{same_annotation}
use Rattle.sheet_records.specs.Annotations.{annotation_of, zero_annotation}
use Rattle.sheet_same.specs.RepeatLaws.{slice-any}
use Rattle.sheet_same.proofs.has_annotation_from.Goals as goal

pub returns : goal.returns
returns c =
    let l = c.args.l.now in
    let x = annotation_of c.args.x in
    any_from_yields_List (λ j. same_annotation x (annotation_of (get_or l j zero_annotation))) _ _ _ c.any.ensures.ran (YieldsList-from_range c.args.from (length l) _ refl refl) (λ x b q k. search (rules, tests))
    ∙ slice-any (same_annotation x) l c.args.from
