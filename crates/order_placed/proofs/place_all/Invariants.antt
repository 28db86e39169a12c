use Rattle.order_placed.specs.Placing.{off, Sound, Passed}
use Rattle.order_placed.proofs.place_all.Given as goal

-- What has joined is placed by some round, and the types left become fewer.
abbrev pub invariant-loop-next : goal.invariant-loop-next
invariant-loop-next l = Sound l.l l.out × Passed l.l l.out l.next

abbrev pub decreases-loop-next : goal.decreases-loop-next
decreases-loop-next l = off l.l.count l.out
