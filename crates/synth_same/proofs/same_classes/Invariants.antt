use mathlib.Core.Path.{◌≡◌}
use Rattle.lists.specs.Lists.{same_list}
use Rattle.rows.specs.Rows.{has}
use Rattle.rows.specs.Lists.{below}
use Rattle.bitsets.specs.Bitsets.{members}
use Rattle.synth_classes.specs.Numbers.{numbers_left}
use Rattle.synth_same.specs.Same.{class_of}
use Rattle.synth_same.proofs.same_classes.Given as goal

abbrev pub invariant-loop-dom : goal.invariant-loop-dom
invariant-loop-dom l =
    same_list (class_of l.t) (numbers_left 201 l.dom-iterator) (members l.places.left) ≡ same_list (class_of l.t) (below (has l.fn.doms) 201) (members l.types)
