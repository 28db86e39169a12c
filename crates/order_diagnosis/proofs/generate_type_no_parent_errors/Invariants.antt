use Rattle.order_diagnosis.specs.Emit.{Emits}
use Rattle.order_diagnosis.specs.Walk.{before}
use Rattle.order_diagnosis.proofs.generate_type_no_parent_errors.Given as goal

-- The rows of the types passed that are not placed have gone out.
abbrev pub invariant-loop-t : goal.invariant-loop-t
invariant-loop-t l = Emits l.initial.out l.out (before l.l l.placed l.t)
