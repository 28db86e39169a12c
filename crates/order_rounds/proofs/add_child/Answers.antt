use Rattle.std.proofs.Common.{rules}
use Rattle.order_rounds.specs.StepLaws.{child-more, child-all}
use Rattle.order_rounds.proofs.add_child.Goals as goal

pub loop-p-preserved : goal.loop-p-preserved
loop-p-preserved c =
    let a = c.args in
    let l = c.loop-p in
    let w = c.in-Some.ensures.steps in
    (tt, tt, child-more a.children.now a.parents a.a l.children l.p-iterator.left c.in-Some.p _ _ (search rules) w.0 w.1 c.with_one.ensures l.invariant.2)

pub returns : goal.returns
returns c =
    let l = c.loop-p in
    child-all c.args.children.now c.args.parents c.args.a l.children l.p-iterator.left c.in-None.ensures.steps.0 l.invariant.2
