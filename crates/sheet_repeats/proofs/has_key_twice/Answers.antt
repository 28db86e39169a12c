use mathlib.Core.Path.{refl, ◌∙◌}
use Rattle.std.proofs.Common.{eqb, drop, rules, tests, ◌+◌}
use Rattle.std.proofs.lemmas.Iterator.{YieldsList-from_range}
use Rattle.std.proofs.lemmas.Iterator.Search.{any_from_yields_List}
use Rattle.lists.specs.Lists.{any}
use Rattle.catalogue.specs.Layout.{extension_key_at}
use Rattle.sheet_repeats.specs.Twice.{keys_in}
use Rattle.sheet_repeats.specs.TwiceLaws.{keys-behind}
use Rattle.sheet_repeats.proofs.has_key_twice.Goals as goal

pub returns : goal.returns
returns c =
    let t = c.args.t.now in
    let n = c.args.n in
    any_from_yields_List (λ i. any (eqb (extension_key_at t i)) (drop (i + 1) (keys_in t n))) _ _ _ c.any.ensures.ran (YieldsList-from_range 0 n _ refl refl) (λ x b q h. search (rules, tests))
    ∙ keys-behind t n
