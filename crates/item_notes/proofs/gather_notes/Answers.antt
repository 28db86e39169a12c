use Rattle.definitions.specs.Bits.{bits_of}
use Rattle.item_notes.specs.NoteLaws.{annotations-at, marks-at, notes-all, notes-none}
use Rattle.item_notes.proofs.gather_notes.Goals as goal

pub returns-then-peek-eq0 : goal.returns-then-peek-eq0
returns-then-peek-eq0 c =
    let s = c.args in
    rw c.none.ensures (notes-none s.t.now s.resources (bits_of s.s.now) s.at c.peek.ensures c.if-peek-eq0.true)

pub gather-g-requires-clause-annotations_at : goal.gather-g-requires-clause-annotations_at
gather-g-requires-clause-annotations_at c =
    let s = c.args in
    annotations-at s.t.now s.resources (bits_of s.s.now) s.at c.requires.notes_at

pub pack_marks-marks-requires-clause-marks_at : goal.pack_marks-marks-requires-clause-marks_at
pack_marks-marks-requires-clause-marks_at c =
    let s = c.args in
    marks-at s.t.now s.resources (bits_of s.s.now) s.at c.gather-g.result c.requires.notes_at c.gather-g.ensures

pub returns : goal.returns
returns c =
    let s = c.args in
    notes-all s.t.now s.resources (bits_of s.s.now) s.at c.gather-g.result c.pack_marks-marks.result c.gather-g.ensures c.pack_marks-marks.ensures
