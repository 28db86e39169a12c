use Rattle.fields.specs.FieldLaws.{err_was, between_in}
use Rattle.std.proofs.Common.{sym, ap, ◌∙◌}
use Rattle.definitions.specs.Bits.{bits_of}
use Rattle.fields.specs.Fields.{of_field}
use Rattle.sheet_records.specs.AnnotationLaws.{annotation-rows, with-kind-is}
use Rattle.sheet_records.proofs.read_annotation.Goals as goal

pub returns-in_err-number : goal.returns-in_err-number
returns-in_err-number c =
    rw (err_was _ c.in_err-number.field-0.0 c.from_residual.ensures.1, annotation-rows _ _ _, ← c.read_between.ensures, c.in_err-number.was)

pub of-kind-requires : goal.of-kind-requires
of-kind-requires c = (between_in _ _ _ _ _ _ (sym c.read_between.ensures ∙ ap (of_field (bits_of c.args.s.bytes.now)) c.in_ok-number.was)).1

pub returns-then-is_nested_in_two : goal.returns-then-is_nested_in_two
returns-then-is_nested_in_two c =
    rw (
      annotation-rows _ _ _,
      ← c.read_between.ensures,
      c.in_ok-number.was,
      ← c.of-kind.ensures,
      ← c.is_nested_in_two.ensures,
      c.if-is_nested_in_two.true,
    )

pub returns-in_err-rows : goal.returns-in_err-rows
returns-in_err-rows c =
    rw (
      err_was _ c.in_err-rows.field-0.0 c.from_residual-in_err-rows.ensures.1,
      annotation-rows _ _ _,
      ← c.read_between.ensures,
      c.in_ok-number.was,
      ← c.of-kind.ensures,
      ← c.is_nested_in_two.ensures,
      c.if-is_nested_in_two.false,
      ← c.read_rows.ensures,
      c.in_err-rows.was,
    )

pub returns : goal.returns
returns c =
    rw (
      c.with_kind.ensures,
      with-kind-is c.of-kind.result c.in_ok-rows.rows,
      annotation-rows _ _ _,
      ← c.read_between.ensures,
      c.in_ok-number.was,
      ← c.of-kind.ensures,
      ← c.is_nested_in_two.ensures,
      c.if-is_nested_in_two.false,
      ← c.read_rows.ensures,
      c.in_ok-rows.was,
    )
