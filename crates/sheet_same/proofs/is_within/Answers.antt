use mathlib.Core.Path.{refl, ◌∙◌}
use lib.Dec.{eqb}
use lib.ListN.{get_or}
use borrow.Author.Rules.{rules}
use Rattle.std.proofs.Common.{tests}
use Rattle.std.proofs.lemmas.Iterator.{YieldsList-from_range}
use Rattle.std.proofs.lemmas.Iterator.Search.{all_from_yields_List}
use Rattle.lists.specs.Lists.{any}
use Rattle.sheet_same.specs.Repeats.{words_of}
use Rattle.sheet_same.specs.RepeatLaws.{words-all}
use Rattle.sheet_same.proofs.is_within.Goals as goal

pub returns : goal.returns
returns c =
    let a = c.args.a.now in
    let ws = words_of c.args.b.now in
    all_from_yields_List (λ i. any (eqb (get_or a.words i 0)) ws) _ _ _ c.all.ensures.ran (YieldsList-from_range 0 a.count _ refl refl) (λ x b q k. search (rules, tests))
    ∙ words-all a ws
