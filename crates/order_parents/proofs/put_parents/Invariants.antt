use Rattle.order_parents.specs.Parents.{ParentsPut}
use Rattle.order_parents.proofs.put_parents.Given as goal

abbrev pub invariant-loop-a : goal.invariant-loop-a
invariant-loop-a l = ParentsPut l.x.draft.now l.x.entries.now l.own l.a l.initial.t l.t (record { set = l.set; whole = l.whole })
