use Rattle.std.proofs.Common.{◌≡◌, length, refl, subst, arith, rules}
use Rattle.definitions.specs.Bits.{bits_of}
use Rattle.sheet_draft.specs.declared.DraftRow.{DraftRow}
use Rattle.item_notes.specs.Notes.{NotesGathered}
use Rattle.item_draft.specs.PartLaws.{notes-more}
use Rattle.item_draft.proofs.put_notes.Goals as goal

pub loop-a-preserved : goal.loop-a-preserved
loop-a-preserved c =
    let s = c.args in
    let l = c.loop-a in
    let x = c.gather_notes-notes in
    let few = c.requires.notes_ready.few in
    let own : length l.t.own ≡ 64 = search rules in
    let marks : length l.t.marks ≡ 64 = search rules in
    let given : length l.given ≡ 64 = search rules in
    notes-more (bits_of s.s.now) s.x.draft.now s.x.entries.now s.t.now s.x.read.count l.a s.t.now.resources s.t.now.childed l.t l.given l.lost c.is_lost-lost.result x.result c.loop-a-test.true (omega arith) (omega arith) (omega arith)
    c.requires.notes_ready refl refl
    (subst (λ (row : DraftRow). NotesGathered l.t s.t.now.resources (bits_of s.s.now) row.place x.result) c.row.ensures x.ensures) c.is_lost-lost.ensures l.invariant
