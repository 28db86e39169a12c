use Rattle.sheet_types.specs.RowLaws.{no_name, no_top, no-parents, row_read, done-here}
use Rattle.sheet_types.specs.Rows.{of_top}
use Rattle.sheet_keys.specs.Keys.{of_key_read, of_names}
use Rattle.fields.specs.FieldLaws.{err_was}
use Rattle.definitions.specs.Bits.{bits_of}
use mathlib.Core.Path.{refl, sym, ap, ◌∙◌}
use Rattle.sheet_types.proofs.read_type.Goals as goal

pub returns-in_err-key : goal.returns-in_err-key
returns-in_err-key c =
    let a = c.args in
    let bs = bits_of a.s.bytes.now in
    let e = sym (ap (of_key_read bs) c.in_err-key.was) ∙ c.read_key.ensures in
    rw (err_was _ c.in_err-key.field-0.0 c.from_residual.ensures.1) (no_name a.s.words bs a.c.at _ e, tt)

pub returns-in_err-h : goal.returns-in_err-h
returns-in_err-h c =
    let a = c.args in
    let bs = bits_of a.s.bytes.now in
    let e = sym (ap (of_key_read bs) c.in_ok-key.was) ∙ c.read_key.ensures in
    let f = sym (ap (of_top bs) c.in_err-h.was) ∙ c.read_top.ensures.0 in
    rw (err_was _ c.in_err-h.field-0.0 c.from_residual-in_err-h.ensures.1) (no_top a.s.words bs a.c.at _ c.in_ok-key.c1.at e _ f, tt)

pub returns-in_err-next : goal.returns-in_err-next
returns-in_err-next c =
    let r = c.read_each_key in
    let a = c.args in
    let bs = bits_of a.s.bytes.now in
    let s = rw c.in_ok-h.was at c.read_top.ensures.1 in
    let e = sym (ap (of_key_read bs) c.in_ok-key.was) ∙ c.read_key.ensures in
    let f = sym (ap (of_top bs) c.in_ok-h.was) ∙ c.read_top.ensures.0 in
    let g = sym (ap (of_names bs r.new.out) c.in_err-next.was) ∙ r.ensures.0 in
    rw (err_was _ c.in_err-next.field-0.0 c.from_residual-in_err-next.ensures.1)
    (no-parents a.s.words bs a.c.at _ c.in_ok-key.c1.at e _ c.in_ok-h.c2.at f s.1 _ g, tt)

pub returns : goal.returns
returns c =
    let r = c.read_each_key in
    let a = c.args in
    let bs = bits_of a.s.bytes.now in
    let s = rw c.in_ok-h.was at c.read_top.ensures.1 in
    let e = sym (ap (of_key_read bs) c.in_ok-key.was) ∙ c.read_key.ensures in
    let f = sym (ap (of_top bs) c.in_ok-h.was) ∙ c.read_top.ensures.0 in
    let g = sym (ap (of_names bs r.new.out) c.in_ok-next.was) ∙ r.ensures.0 in
    let row = record a.row.now { key = c.in_ok-key.key; head = c.in_ok-h.h; place = c.in_ok-next.next.at; parents = r.new.out } in (
      row_read a.s.words bs a.c.at _ c.in_ok-key.c1.at e _ c.in_ok-h.c2.at f s.1 row _ c.skip_notes.result refl refl g c.skip_notes.ensures,
      done-here a.s.words bs row c.skip_notes.result c.skip_notes.ensures,
    )
