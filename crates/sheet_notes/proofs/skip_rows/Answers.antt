use Rattle.std.proofs.Common.{sym, ap}
use Rattle.fields.specs.FieldLaws.{err_was}
use Rattle.sheet_records.specs.Annotations.{rows_for}
use Rattle.sheet_records.specs.AnnotationLaws.{rows_nothing, rows_names}
use Rattle.sheet_notes.specs.Notes.{forget}
use Rattle.sheet_notes.specs.NoteLaws.{word-steps, tag-steps}
use Rattle.sheet_notes.proofs.skip_rows.Goals as goal

pub returns-in-Associate : goal.returns-in-Associate
returns-in-Associate c = rw (rows_names _ _ _ c.in-Associate.is) c.skip_names.ensures

pub returns-in-MakeList : goal.returns-in-MakeList
returns-in-MakeList c = sym (ap forget (rows_nothing _ _ _ c.in-MakeList.is))

pub returns-in_err-next-in-Alias : goal.returns-in_err-next-in-Alias
unfolding rows_for
returns-in_err-next-in-Alias c =
    rw (err_was _ c.in_err-next-in-Alias.field-0.0 c.from_residual.ensures.1, c.in-Alias.is, word-steps _ _, ← c.read_word_field.ensures, c.in_err-next-in-Alias.was)

pub returns-in_ok-next-in-Alias : goal.returns-in_ok-next-in-Alias
unfolding rows_for
returns-in_ok-next-in-Alias c = rw (c.in-Alias.is, word-steps _ _, ← c.read_word_field.ensures, c.in_ok-next-in-Alias.was)

pub returns-in_err-next-in-Derive : goal.returns-in_err-next-in-Derive
unfolding rows_for
returns-in_err-next-in-Derive c =
    rw (err_was _ c.in_err-next-in-Derive.field-0.0 c.from_residual-in_err-next-in-Derive.ensures.1, c.in-Derive.is, tag-steps _, ← c.read_tag.ensures, c.in_err-next-in-Derive.was)

pub returns-in_ok-next-in-Derive : goal.returns-in_ok-next-in-Derive
unfolding rows_for
returns-in_ok-next-in-Derive c = rw (c.in-Derive.is, tag-steps _, ← c.read_tag.ensures, c.in_ok-next-in-Derive.was)
