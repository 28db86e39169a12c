use Rattle.std.proofs.Common.{◌≡◌, eqb, length, sym, ◌∙◌, arith, rules, tests}
use Rattle.std.proofs.lemmas.Iterator.{YieldsList-from_slice, YieldsList-from_take}
use Rattle.std.proofs.lemmas.Iterator.Search.{any_from_yields_List}
use Rattle.lists.specs.Tabulating.{length-mapped}
use Rattle.synth_annotations.specs.Reading.{resources_in}
use Rattle.synth_annotations.specs.Laws.{has-member}
use Rattle.synth_annotations.proofs.has_word.Goals as goal

pub returns : goal.returns
unfolding resources_in
returns c =
    let y = c.args.y in
    let l : length y.words ≡ 15 = search rules in
    let m : length y.doms ≡ 15 = search length-mapped in
    any_from_yields_List (λ v. eqb v c.args.w) _ _ _ c.any.ensures.ran (YieldsList-from_take y.count (YieldsList-from_slice y.words cc) cc) (λ x b q k. search (rules, tests))
    ∙ sym (has-member y.count y.words y.doms _ (omega arith) (omega arith))
