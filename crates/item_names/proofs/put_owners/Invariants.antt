use Rattle.item_names.specs.Names.{OwnersPut}
use Rattle.item_names.proofs.put_owners.Given as goal

abbrev pub invariant-loop-a : goal.invariant-loop-a
invariant-loop-a l = OwnersPut l.a l.initial.t l.t
