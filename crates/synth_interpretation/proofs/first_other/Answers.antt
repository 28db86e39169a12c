use Rattle.std.proofs.Common.{◌∙◌, rules}
use Rattle.std.proofs.lemmas.Iterator.Consumers.{YieldsList-from_first}
use Rattle.std.proofs.lemmas.Iterator.Search.{find_from_yields_List}
use Rattle.rows.specs.Rows.{has}
use Rattle.rows.specs.Lists.{below}
use Rattle.synth_classes.specs.Classes.{other_at}
use Rattle.synth_classes.specs.Numbers.{numbers_left, same_found}
use Rattle.synth_interpretation.proofs.first_other.Goals as goal

pub returns : goal.returns
returns c =
    let a = c.args in
    let l = YieldsList-from_first (λ x. x) (numbers_left 201) {s = c.of.result} (below (has a.doms) 201) c.of.ensures in
    same_found _ ∙ find_from_yields_List (other_at a.t.now a.word) (record { row = _; from = _; few = c.of.result.few }) _ c.find.result c.find.ensures.ran l (λ x b q h. search rules)
