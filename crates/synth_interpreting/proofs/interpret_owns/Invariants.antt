use Prim.Native.Nat.{◌*◌}
use lib.ListN.{take}
use Rattle.synth_interpreting.specs.Annotations.{plain_of, Added}
use Rattle.synth_interpreting.proofs.interpret_owns.Given as goal

abbrev pub invariant-loop-a : goal.invariant-loop-a
invariant-loop-a l = Added l.t l.place (λ ns. plain_of (take l.a-index l.a-items)) (15 * l.a-index) l.initial.p l.initial.out l.p l.out
