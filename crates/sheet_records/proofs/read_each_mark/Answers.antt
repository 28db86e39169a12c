use mathlib.Core.Path.{refl, sym, ap, ◌∙◌}
use native.Mathlib.Omega.{arith}
use Rattle.definitions.specs.Bits.{bits_of}
use lib.ListN.{drop}
use Rattle.definitions.specs.Reading.{mark}
use Rattle.fields.specs.Fields.{of_parsed, fault_of}
use Rattle.fields.specs.FieldLaws.{err_was}
use Rattle.fields.specs.ParseLaws.{repeat-none, repeat-next, repeat-refused}
use Rattle.sheet_records.specs.Marks.{mark_of, of_marks}
use Rattle.sheet_records.specs.MarkLaws.{marks_more}
use Rattle.sheet_records.proofs.read_each_mark.Goals as goal

pub returns-in_err-mark : goal.returns-in_err-mark
returns-in_err-mark c =
    let l = c.loop in
    let a = c.args in
    let r = c.in_err-mark.field-0.0 in
    let bs = bits_of a.s.now in
    rw (err_was _ r c.from_residual.ensures.1)
    (sym (l.invariant.1 ∙ repeat-refused (of_marks l.marks) mark _ (drop l.next.at bs) (fault_of r) (omega arith)
    (sym c.read_mark.ensures ∙ ap (of_parsed mark_of bs) c.in_err-mark.was)))

pub loop-preserved : goal.loop-preserved
loop-preserved c =
    let l = c.loop in
    let a = c.args in
    let v = c.in_ok-mark in
    let bs = bits_of a.s.now in (
      omega (arith, c.push.ensures.1),
      l.invariant.1
          ∙ repeat-next (of_marks l.marks) mark a.n l.counter (drop l.next.at bs) (mark_of v.mark) (drop v.end.at bs) (omega arith)
          (sym c.read_mark.ensures ∙ ap (of_parsed mark_of bs) v.was)
          ∙ rw (marks_more l.marks c.push.new.self v.mark c.push.ensures.0) refl,
    )

pub returns : goal.returns
returns c =
    let l = c.loop in
    let a = c.args in
    sym (l.invariant.1 ∙ repeat-none (of_marks l.marks) mark _ (drop l.next.at (bits_of a.s.now)) (omega arith))
