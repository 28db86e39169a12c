use Rattle.definitions.specs.Bits.{bits_of}
use Rattle.item_notes.specs.NoteLaws.{AnnotationsTo}
use Rattle.item_notes.proofs.gather.Given as goal

abbrev pub invariant-loop-left : goal.invariant-loop-left
invariant-loop-left l = AnnotationsTo l.t l.resources (bits_of l.s) l.at l.g l.left

abbrev pub decreases-loop-left : goal.decreases-loop-left
decreases-loop-left l = l.left
