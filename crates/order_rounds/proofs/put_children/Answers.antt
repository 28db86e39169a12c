use Rattle.std.proofs.Common.{◌∙◌}
use Rattle.order_rounds.specs.StepLaws.{children-none, children-yes, children-no}
use Rattle.order_rounds.proofs.put_children.Goals as goal
use Rattle.order_rounds.proofs.put_children.Goals.{then-parents-eq0, else-parents-eq0}

pub loop-a-init : goal.loop-a-init
loop-a-init c = children-none _ _ c.requires.childless

pub loop-a-preserved : goal.loop-a-preserved
loop-a-preserved c =
    let t = c.args.t.now in
    let l = c.loop-a in
    let g = c.add_child.ensures in
    let r = c.if-parents-eq0.out in
    elim c.if-parents-eq0.branch [
      | then-parents-eq0 w ↦ children-yes t l.a l.children _ l.out r w.if-parents-eq0.true g (w.out-is ∙ w.with_one-out.ensures) l.invariant
      | else-parents-eq0 w ↦ children-no t l.a l.children _ l.out r w.if-parents-eq0.false g w.out-is l.invariant
    ]
