use Rattle.order_rounds.specs.StepLaws.{ReadyTo}
use Rattle.order_rounds.proofs.ready_in.Given as goal

abbrev pub invariant-loop-a : goal.invariant-loop-a
invariant-loop-a l =
    (goal.iterator-loop-a).can_next l.a-iterator
    × (goal.iterator-loop-a).is_finite l.a-iterator
    × ReadyTo l.t l.types l.placed l.a-iterator.left l.out
