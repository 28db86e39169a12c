use Rattle.order_rounds.specs.StepLaws.{ChildTo}
use Rattle.order_rounds.proofs.add_child.Given as goal

abbrev pub invariant-loop-p : goal.invariant-loop-p
invariant-loop-p l =
    (goal.iterator-loop-p).can_next l.p-iterator × (goal.iterator-loop-p).is_finite l.p-iterator × ChildTo l.initial.children l.parents l.a l.children l.p-iterator.left
