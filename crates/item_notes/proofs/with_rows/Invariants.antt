use Rattle.definitions.specs.Bits.{bits_of}
use Rattle.sheet_records.specs.Kinds.{number_of}
use Rattle.item_notes.specs.NoteLaws.{RowsTo}
use Rattle.item_notes.proofs.with_rows.Given as goal

abbrev pub invariant-loop-left : goal.invariant-loop-left
invariant-loop-left l = RowsTo l.t l.resources (number_of l.kind) l.n (bits_of l.s) (record { classes = l.initial.out; at = l.initial.next }) l.next l.left l.out

abbrev pub decreases-loop-left : goal.decreases-loop-left
decreases-loop-left l = l.left
