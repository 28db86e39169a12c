use Rattle.synth_associates.specs.Step.{begun, reached}
use Rattle.synth_classes.specs.Numbers.{numbers_left}
use Rattle.synth_interpreting.specs.EntryLaws.{Going}
use Rattle.synth_interpreting.proofs.interpret_associate.Given as goal

abbrev pub invariant-loop-word : goal.invariant-loop-word
invariant-loop-word l = Going l.fn.t l.place l.fn.e l.doms (begun l.initial.made) l.initial.out (numbers_left _ l.word-iterator) (reached l.standing l.made) l.out
