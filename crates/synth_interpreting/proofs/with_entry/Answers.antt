use Rattle.synth_associates.specs.Step.{reached}
use Rattle.synth_interpreting.specs.AnnotationsLaws.{entry-with}
use Rattle.synth_interpreting.proofs.with_entry.Goals as goal

pub returns : goal.returns
returns c =
    let a = c.args in
    let e = c.interpret_associate-standing in
    entry-with a.t.now a.place a.e a.doms.now a.p.now a.out.now (reached e.result _) _ _ e.ensures c.still_clean-p.ensures
