use Rattle.order_form.specs.Lists.{tab}
use Rattle.order_form.specs.Reading.{parent_at}
use Rattle.order_diagnosis.specs.Rows.{self_rows_of}
use Rattle.order_diagnosis.specs.Emit.{Emits}
use Rattle.order_diagnosis.proofs.put_self_rows.Given as goal

-- The rows of the listings passed have gone out.
abbrev pub invariant-loop-i : goal.invariant-loop-i
invariant-loop-i l = Emits l.initial.out l.out (self_rows_of l.l l.t (tab (λ k. parent_at l.l l.t k) l.i))
