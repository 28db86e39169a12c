use Rattle.order_parents.specs.PutLaws.{ParentsTo}
use Rattle.order_parents.proofs.parents_of.Given as goal

abbrev pub invariant-loop-k : goal.invariant-loop-k
invariant-loop-k l = ParentsTo l.t l.d l.row l.own l.k l.set l.whole
