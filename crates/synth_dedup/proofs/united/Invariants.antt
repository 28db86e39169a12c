use mathlib.Core.Path.{◌≡◌}
use lib.ListN.{length}
use Rattle.synth_dedup.specs.JoinLaws.{Upto}
use Rattle.synth_dedup.proofs.united.Given as goal

abbrev pub invariant-loop-w : goal.invariant-loop-w
invariant-loop-w l = (length l.out ≡ 200) × Upto l.doms l.given l.out l.w
