use Rattle.definitions.specs.Reading.{annotation}
use Rattle.fields.specs.FieldLaws.{err_was}
use Rattle.sheet_notes.specs.NoteLaws.{counted-steps}
use Rattle.sheet_notes.proofs.skip_annotations.Goals as goal

pub returns-in_err-n : goal.returns-in_err-n
returns-in_err-n c =
    let a = c.args in
    rw (err_was _ c.in_err-n.field-0.0 c.from_residual.ensures.1, counted-steps (annotation a.s.words a.single) 4 0 12 _, ← c.read_between.ensures, c.in_err-n.was)

pub returns : goal.returns
returns c =
    let a = c.args in
    rw (counted-steps (annotation a.s.words a.single) 4 0 12 _, ← c.read_between.ensures, c.in_ok-n.was) c.skip_each_annotation.ensures
