use Rattle.std.proofs.Common.{◌≡◌, ap, ◌∙◌}
use Rattle.std.proofs.lemmas.Iterator.Consumers.{YieldsList-from_first}
use Rattle.rows.specs.Rows.{has}
use Rattle.rows.specs.Lists.{below}
use Rattle.synth_classes.specs.Numbers.{numbers_left}
use Rattle.synth_same.proofs.EqualLists.{eq_from_yields_List}
use Rattle.synth_same.proofs.same_doms.Goals as goal

pub returns : goal.returns
returns c =
    let a = c.args in
    eq_from_yields_List (λ x y. y ≡ x) _ _ c.eq.ensures.ran (YieldsList-from_first (λ x. x) (numbers_left 201) (below (has a.d) 201) c.of.ensures)
    (λ it e. YieldsList-from_first (λ x. x) (numbers_left 201) (below (has a.e) 201) (ap (numbers_left 201) e ∙ c.of-2.ensures))
