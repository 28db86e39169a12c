use mathlib.Core.Path.{refl, ◌∙◌}
use Rattle.std.proofs.Common.{eqb, rules, tests}
use Rattle.std.proofs.lemmas.Iterator.{YieldsList-from_range}
use Rattle.std.proofs.lemmas.Iterator.Search.{any_from_yields_List}
use Rattle.catalogue.specs.Layout.{extension_key_at}
use Rattle.sheet_repeats.specs.TwiceLaws.{keys-any}
use Rattle.sheet_repeats.proofs.has_key_from.Goals as goal

pub returns : goal.returns
returns c =
    let a = c.args in
    any_from_yields_List (λ j. eqb a.key (extension_key_at a.t.now j)) _ _ _ c.any.ensures.ran (YieldsList-from_range a.from a.n _ refl refl) (λ x b q h. search (rules, tests))
    ∙ keys-any a.t.now a.n a.key a.from
