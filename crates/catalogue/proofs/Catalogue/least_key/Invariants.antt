use Rattle.catalogue.specs.DomLaws.{Found}
use Rattle.catalogue.proofs.Catalogue.least_key.Given as goal

abbrev pub invariant-loop-c : goal.invariant-loop-c
invariant-loop-c l = Found l.self l.set l.c-iterator.left l.best
