use Rattle.rows.specs.RowLaws.{Small}
use Rattle.synth_inheritance.specs.OwnLaws.{Holds}
use Rattle.synth_inheritance.proofs.words_of.Given as goal

abbrev pub invariant-loop-w : goal.invariant-loop-w
invariant-loop-w l = Small l.row × Holds l.w-items l.row l.w-index
