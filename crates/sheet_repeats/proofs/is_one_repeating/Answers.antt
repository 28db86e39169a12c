use mathlib.Core.Path.{refl, ◌∙◌}
use Rattle.std.proofs.Common.{rules, tests}
use Rattle.std.proofs.lemmas.Iterator.{YieldsList-from_range}
use Rattle.std.proofs.lemmas.Iterator.Search.{any_from_yields_List}
use Rattle.definitions.specs.Bits.{bits_of}
use Rattle.sheet_repeats.specs.TwiceLaws.{row_repeats, types-repeat}
use Rattle.sheet_repeats.proofs.is_one_repeating.Goals as goal

pub returns : goal.returns
returns c =
    let a = c.args in
    let bs = bits_of a.s.bytes.now in
    any_from_yields_List (row_repeats a.s.words bs a.d.now) _ _ _ c.any.ensures.ran (YieldsList-from_range 0 a.n _ refl refl) (λ x b q h. search (rules, tests))
    ∙ types-repeat a.s.words bs a.d.now a.n
