use mathlib.Core.Path.{refl, ◌∙◌}
use lib.Dec.{eqb}
use lib.ListN.{get_or}
use borrow.Author.Rules.{rules}
use Rattle.std.proofs.Common.{tests}
use Rattle.std.proofs.lemmas.Iterator.{YieldsList-from_range}
use Rattle.std.proofs.lemmas.Iterator.Search.{any_from_yields_List}
use Rattle.sheet_same.specs.RepeatLaws.{words-any}
use Rattle.sheet_same.proofs.has_word_from.Goals as goal

pub returns : goal.returns
returns c =
    let a = c.args in
    any_from_yields_List (λ j. eqb a.w (get_or a.a.now.words j 0)) _ _ _ c.any.ensures.ran (YieldsList-from_range a.from a.a.now.count _ refl refl) (λ x b q k. search (rules, tests))
    ∙ words-any a.a.now a.w a.from
