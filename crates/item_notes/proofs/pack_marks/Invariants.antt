use Rattle.definitions.specs.Bits.{bits_of}
use Rattle.item_notes.specs.NoteLaws.{MarksTo}
use Rattle.item_notes.proofs.pack_marks.Given as goal

abbrev pub invariant-loop-left : goal.invariant-loop-left
invariant-loop-left l = MarksTo (bits_of l.s) l.at l.out l.next l.left

abbrev pub decreases-loop-left : goal.decreases-loop-left
decreases-loop-left l = l.left
