use mathlib.Core.Path.{refl, ◌∙◌}
use Prim.Native.Nat.{◌+◌}
use lib.Dec.{eqb}
use lib.ListN.{get_or, drop}
use borrow.Author.Rules.{rules}
use Rattle.std.proofs.Common.{tests}
use Rattle.std.proofs.lemmas.Iterator.{YieldsList-from_range}
use Rattle.std.proofs.lemmas.Iterator.Search.{any_from_yields_List}
use Rattle.lists.specs.Lists.{any}
use Rattle.sheet_same.specs.Repeats.{words_of}
use Rattle.sheet_same.specs.RepeatLaws.{words-twice}
use Rattle.sheet_same.proofs.has_word_twice.Goals as goal

pub returns : goal.returns
returns c =
    let a = c.args.a in
    any_from_yields_List (λ i. any (eqb (get_or a.words i 0)) (drop (i + 1) (words_of a))) _ _ _ c.any.ensures.ran (YieldsList-from_range 0 a.count _ refl refl) (λ x b q k. search (rules, tests))
    ∙ words-twice a
