use mathlib.Core.Path.{refl, ◌∙◌}
use Rattle.std.proofs.Common.{eqb, get_or, rules, tests, ◌/◌}
use Rattle.std.proofs.lemmas.Iterator.{YieldsList-from_range}
use Rattle.std.proofs.lemmas.Iterator.Search.{any_from_yields_List}
use Rattle.sheet_within.specs.PlainLaws.{words-any}
use Rattle.sheet_within.proofs.has_word_from.Goals as goal

pub returns : goal.returns
returns c =
    let a = c.args in
    any_from_yields_List (λ j. eqb a.w (get_or a.k.now j 0 / 256)) _ _ _ c.any.ensures.ran (YieldsList-from_range a.from a.n _ refl refl) (λ x b q h. search (rules, tests))
    ∙ words-any a.k.now a.n a.w a.from
