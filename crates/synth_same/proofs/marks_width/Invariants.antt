use Rattle.synth_classes.specs.Numbers.{numbers_left}
use Rattle.synth_same.specs.MarkLaws.{Counting}
use Rattle.synth_same.proofs.marks_width.Given as goal

abbrev pub invariant-loop-dom : goal.invariant-loop-dom
invariant-loop-dom l = Counting l.t l.fn.doms l.site.word (numbers_left 201 l.dom-iterator) l.n
