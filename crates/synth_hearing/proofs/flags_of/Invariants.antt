use Rattle.synth_hearing.specs.Hearing.{FlagsTo}
use Rattle.synth_hearing.proofs.flags_of.Given as goal

abbrev pub invariant-loop-i : goal.invariant-loop-i
invariant-loop-i l = FlagsTo l.l l.t l.fresh l.ok l.i l.flags
