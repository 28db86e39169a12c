use Rattle.definitions.specs.Bits.{bits_of}
use Rattle.item_draft.specs.Parts.{NotesPut}
use Rattle.item_draft.proofs.put_notes.Given as goal

abbrev pub invariant-loop-a : goal.invariant-loop-a
invariant-loop-a l = NotesPut (bits_of l.s) l.x.draft.now l.x.entries.now l.a l.initial.t l.t l.given l.lost
