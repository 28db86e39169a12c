use Rattle.order_compact.specs.Compact.{TypePut}
use Rattle.order_compact.proofs.put_type.Given as goal

abbrev pub invariant-loop-k : goal.invariant-loop-k
invariant-loop-k l = TypePut l.t l.d l.row l.a l.count l.k l.fn.l l.l
