use mathlib.Core.Path.{refl, sym, ap, ◌∙◌}
use native.Mathlib.Omega.{arith}
use Rattle.definitions.specs.Bits.{bits_of}
use lib.ListN.{drop}
use Rattle.definitions.specs.Reading.{annotation}
use Rattle.fields.specs.Fields.{of_parsed, fault_of}
use Rattle.fields.specs.FieldLaws.{err_was}
use Rattle.fields.specs.ParseLaws.{repeat-none, repeat-next, repeat-refused}
use Rattle.sheet_records.specs.Annotations.{annotation_of, of_annotations}
use Rattle.sheet_records.specs.AnnotationLaws.{annotations_more}
use Rattle.sheet_records.proofs.read_each_annotation.Goals as goal

pub returns-in_err-annotation : goal.returns-in_err-annotation
returns-in_err-annotation c =
    let l = c.loop in
    let a = c.args in
    let r = c.in_err-annotation.field-0.0 in
    let bs = bits_of a.s.bytes.now in
    rw (err_was _ r c.from_residual.ensures.1)
    (sym (l.invariant.1 ∙ repeat-refused (of_annotations l.annotations) (annotation a.s.words a.single) _ (drop l.next.at bs) (fault_of r) (omega arith)
    (sym c.read_annotation.ensures ∙ ap (of_parsed annotation_of bs) c.in_err-annotation.was)))

pub loop-preserved : goal.loop-preserved
loop-preserved c =
    let l = c.loop in
    let a = c.args in
    let v = c.in_ok-annotation in
    let bs = bits_of a.s.bytes.now in (
      omega (arith, c.push.ensures.1),
      l.invariant.1
          ∙ repeat-next (of_annotations l.annotations) (annotation a.s.words a.single) a.n l.counter (drop l.next.at bs) (annotation_of v.annotation) (drop v.end.at bs) (omega arith)
          (sym c.read_annotation.ensures ∙ ap (of_parsed annotation_of bs) v.was)
          ∙ rw (annotations_more l.annotations c.push.new.self v.annotation c.push.ensures.0) refl,
    )

pub returns : goal.returns
returns c =
    let l = c.loop in
    let a = c.args in
    sym (l.invariant.1 ∙ repeat-none (of_annotations l.annotations) (annotation a.s.words a.single) _ (drop l.next.at (bits_of a.s.bytes.now)) (omega arith))
