use Rattle.order_rounds.specs.Rounds.{ChildrenPut}
use Rattle.order_rounds.proofs.put_children.Given as goal

abbrev pub invariant-loop-a : goal.invariant-loop-a
invariant-loop-a l = ChildrenPut l.t l.a l.children l.out
