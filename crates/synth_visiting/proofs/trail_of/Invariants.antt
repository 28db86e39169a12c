use Rattle.synth_visiting.specs.Going.{Trying}
use Rattle.synth_visiting.proofs.trail_of.Given as goal

abbrev pub invariant-loop-t : goal.invariant-loop-t
invariant-loop-t l = Trying l.l l.t l.trail
