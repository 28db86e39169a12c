use Rattle.fields.specs.FieldLaws.{err_was}
use Rattle.sheet_notes.specs.NoteLaws.{notes-steps}
use Rattle.sheet_notes.proofs.skip_lists.Goals as goal

pub returns-in_err-next : goal.returns-in_err-next
returns-in_err-next c =
    rw (err_was _ c.in_err-next.field-0.0 c.from_residual.ensures.1, notes-steps _ _ _, ← c.skip_annotations.ensures, c.in_err-next.was)

pub returns : goal.returns
returns c = rw (notes-steps _ _ _, ← c.skip_annotations.ensures, c.in_ok-next.was) c.skip_marks.ensures
