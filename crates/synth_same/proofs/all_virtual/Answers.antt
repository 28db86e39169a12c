use mathlib.Core.Bool.{not}
use mathlib.Core.Path.{sym, ap, ◌∙◌}
use Rattle.std.proofs.Common.{rules}
use Rattle.std.proofs.lemmas.Iterator.Consumers.{YieldsList-from_first}
use Rattle.std.proofs.lemmas.Iterator.Search.{any_from_yields_List}
use Rattle.lists.specs.Lists.{null}
use Rattle.rows.specs.Rows.{has}
use Rattle.rows.specs.Lists.{below}
use Rattle.synth_classes.specs.Numbers.{numbers_left}
use Rattle.synth_classes.specs.Walks.{among-kept}
use Rattle.synth_same.specs.Same.{real_at, virtual_in}
use Rattle.synth_same.specs.SameLaws.{any-real}
use Rattle.synth_same.proofs.all_virtual.Goals as goal

pub returns : goal.returns
unfolding virtual_in
returns c =
    let a = c.args in
    let l = YieldsList-from_first (λ x. x) (numbers_left 201) {s = c.of.result} (below (has a.doms) 201) c.of.ensures in
    let e = any_from_yields_List (real_at a.t.now a.site.word) (record { row = _; from = _; few = c.of.result.few }) _ c.any.result c.any.ensures.ran l (λ x b q h. search rules) in
    ap not e ∙ any-real (real_at a.t.now a.site.word) (below (has a.doms) 201) ∙ ap null (sym (among-kept a.doms (real_at a.t.now a.site.word)))
