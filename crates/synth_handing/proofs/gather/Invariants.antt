use Rattle.definitions.specs.Bits.{bits_of}
use Rattle.synth_handing.specs.Steps.{Gathering}
use Rattle.synth_handing.proofs.gather.Given as goal

abbrev pub invariant-loop-i : goal.invariant-loop-i
invariant-loop-i l = Gathering l.l (bits_of l.s) l.notes l.store l.t l.flags l.i l.out
