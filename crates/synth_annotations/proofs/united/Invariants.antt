use lib.ListN.{length}
use Rattle.synth_annotations.specs.Laws.{Unites}
use Rattle.synth_annotations.proofs.united.Given as goal

abbrev pub invariant-loop-v : goal.invariant-loop-v
invariant-loop-v l = Unites l.initial.out l.w l.fn.y.words l.fn.y.doms l.out (length l.yielded)
