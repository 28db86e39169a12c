use Rattle.item_sets.specs.Sets.{ExtendedIs}
use Rattle.item_sets.proofs.extended_by.Given as goal

abbrev pub invariant-loop-e : goal.invariant-loop-e
invariant-loop-e l = ExtendedIs l.t l.e l.out
