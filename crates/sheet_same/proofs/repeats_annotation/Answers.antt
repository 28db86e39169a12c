use mathlib.Core.Path.{refl, ◌∙◌}
use Prim.Native.Nat.{◌+◌}
use lib.ListN.{get_or, drop, length}
use mathlib.Core.List.{map}
use borrow.Author.Rules.{rules}
use Rattle.std.proofs.Common.{tests}
use Rattle.std.proofs.lemmas.Iterator.{YieldsList-from_range}
use Rattle.std.proofs.lemmas.Iterator.Search.{any_from_yields_List}
use Rattle.lists.specs.Lists.{any}
use Rattle.definitions.specs.Checks.{same_annotation}
use Rattle.sheet_records.specs.Annotations.{annotation_of, zero_annotation}
use Rattle.sheet_same.specs.RepeatLaws.{slice-twice}
use Rattle.sheet_same.proofs.repeats_annotation.Goals as goal

pub returns : goal.returns
returns c =
    let l = c.args.l.now in
    any_from_yields_List (λ i. any (same_annotation (annotation_of (get_or l i zero_annotation))) (drop (i + 1) (map annotation_of l))) _ _ _ c.any.ensures.ran (YieldsList-from_range 0 (length l) _ refl refl) (λ x b q k. search (rules, tests))
    ∙ slice-twice l
