use Rattle.order_diagnosis.specs.Emit.{Emits}
use Rattle.order_diagnosis.specs.Walk.{self_before}
use Rattle.order_diagnosis.proofs.self_errors.Given as goal

-- The rows of the types passed have gone out.
abbrev pub invariant-loop-t : goal.invariant-loop-t
invariant-loop-t l = Emits l.initial.out l.out (self_before l.l l.t)
