use Rattle.synth_classes.specs.Numbers.{numbers_left}
use Rattle.synth_interpretation.specs.JudgedLaws.{Written}
use Rattle.synth_interpretation.proofs.unknown_rows.Given as goal

abbrev pub invariant-loop-dom : goal.invariant-loop-dom
invariant-loop-dom l = Written l.t l.site.place l.fn.doms l.site.word (numbers_left 201 l.dom-iterator) l.initial.out l.out
