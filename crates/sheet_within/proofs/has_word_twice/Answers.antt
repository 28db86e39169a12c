use mathlib.Core.Path.{refl, ◌∙◌}
use Rattle.std.proofs.Common.{eqb, get_or, drop, rules, tests, ◌+◌, ◌/◌}
use Rattle.std.proofs.lemmas.Iterator.{YieldsList-from_range}
use Rattle.std.proofs.lemmas.Iterator.Search.{any_from_yields_List}
use Rattle.lists.specs.Lists.{any}
use Rattle.sheet_within.specs.Within.{words_in}
use Rattle.sheet_within.specs.PlainLaws.{words-twice}
use Rattle.sheet_within.proofs.has_word_twice.Goals as goal

pub returns : goal.returns
returns c =
    let k = c.args.k.now in
    let n = c.args.n in
    any_from_yields_List (λ i. any (eqb (get_or k i 0 / 256)) (drop (i + 1) (words_in k n))) _ _ _ c.any.ensures.ran (YieldsList-from_range 0 n _ refl refl) (λ x b q h. search (rules, tests))
    ∙ words-twice k n
