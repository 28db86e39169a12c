use mathlib.Core.Path.{◌≡◌}
use lib.ListN.{length}
use Rattle.synth_inheritance.specs.OwnLaws.{WithFirst}
use Rattle.synth_inheritance.proofs.doms_with.Given as goal

abbrev pub invariant-loop-w : goal.invariant-loop-w
invariant-loop-w l = (length l.out ≡ 200) × WithFirst l.initial.out l.fn.a.info.words l.fn.a.info.doms l.out (length l.yielded)
