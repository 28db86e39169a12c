use Rattle.synth_classes.specs.Numbers.{numbers_left}
use Rattle.synth_same.specs.MarkLaws.{Seeking}
use Rattle.synth_same.proofs.mark_bit.Given as goal

abbrev pub invariant-loop-dom : goal.invariant-loop-dom
invariant-loop-dom l = Seeking l.t l.fn.doms l.site.word l.i (numbers_left 201 l.dom-iterator) l.left
