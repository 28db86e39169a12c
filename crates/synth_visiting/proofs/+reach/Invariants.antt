use Rattle.synth_visiting.specs.Ranks.{rank_of}
use Rattle.synth_visiting.specs.Going.{Going}
use Rattle.synth_visiting.proofs.+reach.Given as goal

-- The parents passed were tried. The place in the order falls at each call.
abbrev pub invariant-loop-i : goal.invariant-loop-i
invariant-loop-i l = Going l.l l.t l.initial.trail l.i l.trail l.flags

abbrev pub decreases-reach : goal.decreases-reach
decreases-reach l = rank_of l.l.now l.t
