use Rattle.item_sets.specs.Sets.{SpreadPut}
use Rattle.item_sets.proofs.spread.Given as goal

abbrev pub invariant-loop-a : goal.invariant-loop-a
invariant-loop-a l = SpreadPut l.order.types.items l.a-index l.given l.initial.t l.t
