use Rattle.lists.specs.Lists.{each}
use Rattle.bitsets.specs.Bitsets.{more}
use Rattle.order_form.specs.Lists.{tab}
use Rattle.order_form.specs.Reading.{parent_at}
use Rattle.order_form.specs.declared.Parent.{Parent}
use Rattle.order_placed.specs.Placing.{off}
use Rattle.order_diagnosis.specs.Rows.{rows}
use Rattle.order_diagnosis.specs.Emit.{Emits}
use Rattle.order_diagnosis.proofs.+find_cycles_or_bad_types.Given as goal

-- The rows of the parents passed have gone out.
abbrev pub invariant-loop-i : goal.invariant-loop-i
invariant-loop-i l =
    Emits l.initial.out l.out (each (λ (q : Parent). rows (off l.l.count (more l.path l.t)) l.l (more l.path l.t) q.place) (tab (λ k. parent_at l.l l.t k) l.i))

-- the types off the path, which fall at each call
abbrev pub decreases-find_cycles_or_bad_types : goal.decreases-find_cycles_or_bad_types
decreases-find_cycles_or_bad_types l = off l.l.now.count l.path
