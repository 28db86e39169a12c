use Rattle.order_placed.specs.Placing.{Joined}
use Rattle.order_placed.proofs.place_more.Given as goal

-- The types passed that were free have joined.
abbrev pub invariant-loop-t : goal.invariant-loop-t
invariant-loop-t l = Joined l.l l.t l.from l.out
