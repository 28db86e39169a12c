use mathlib.Core.Bool.{not}
use mathlib.Core.Path.{ap}
use Rattle.std.proofs.Common.{take, rules, tests}
use Rattle.std.proofs.lemmas.List.Sorted.{answers_always}
use Rattle.sheet_repeats.specs.Twice.{apart}
use Rattle.sheet_repeats.specs.TwiceLaws.{neighbours-ascend}
use Rattle.sheet_repeats.proofs.has_name_twice.Goals as goal

pub returns : goal.returns
returns c =
    let a = c.args in
    ap not (neighbours-ascend (take a.n a.entries.now) _ (c.is_sorted_by.ensures.cases apart (answers_always _ _ _ (λ f x r g h. search (rules, tests)))))
