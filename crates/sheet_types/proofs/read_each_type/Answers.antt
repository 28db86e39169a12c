use Rattle.sheet_types.specs.Rows.{NotesRead, row_type}
use Rattle.sheet_types.specs.RowLaws.{types-none, types_more, read_none, read_more}
use Rattle.sheet_draft.specs.Draft.{types_in}
use Rattle.fields.specs.FieldLaws.{err_was}
use Rattle.fields.specs.ParseLaws.{repeat-none, repeat-next, repeat-refused}
use Rattle.definitions.specs.Reading.{type_info}
use Rattle.definitions.specs.Parse.{done}
use Rattle.definitions.specs.Bits.{bits_of}
use Rattle.fields.specs.Fields.{fault_of}
use lib.ListN.{drop}
use native.Mathlib.Nat.{sub-zero}
use Prim.Native.Nat.{ℕ}
use mathlib.Core.Path.{◌≡◌, refl, sym, ap, ◌∙◌, subst}
use native.Mathlib.Omega.{arith}
use Rattle.std.proofs.Common.{rules}
use Rattle.sheet_types.proofs.read_each_type.Goals as goal

pub loop-i-init : goal.loop-i-init
loop-i-init c =
    let a = c.args in
    (read_none _ _ _, rw (sub-zero a.n, types-none a.s.words (bits_of a.s.bytes.now) a.d.now) refl)

pub returns-in_err-next : goal.returns-in_err-next
returns-in_err-next c =
    let l = c.loop-i in
    let a = c.args in
    let e = c.read_type.ensures in
    let bs = bits_of a.s.bytes.now in
    let r = c.in_err-next.field-0.0 in
    rw (err_was _ r c.from_residual.ensures.1) (
      sym (l.invariant.1 ∙ repeat-refused (types_in a.s.words bs l.d l.i) (type_info a.s.words) _ (drop l.next.at bs) (fault_of r) (omega arith)
          (sym e.0 ∙ rw c.in_err-next.was refl)),
      tt,
    )

pub loop-i-preserved : goal.loop-i-preserved
loop-i-preserved c =
    let l = c.loop-i in
    let a = c.args in
    let e = c.read_type.ensures in
    let bs = bits_of a.s.bytes.now in
    let v = c.in_ok-next in
    let u = c.read_type.new.row in (
      read_more a.s.words bs l.i l.d u (search rules) (rw v.was at e.1) l.invariant.0,
      l.invariant.1
          ∙ repeat-next (types_in a.s.words bs l.d l.i) (type_info a.s.words) a.n l.i (drop l.next.at bs) (row_type a.s.words bs u) (drop v.next.at bs) (omega arith)
          (sym e.0 ∙ rw v.was refl)
          ∙ rw (types_more a.s.words bs l.i l.d u (search rules)) refl,
    )

pub returns : goal.returns
returns c =
    let l = c.loop-i in
    let a = c.args in
    let bs = bits_of a.s.bytes.now in
    let q : l.i ≡ a.n = omega arith in (
      ap (λ (k : ℕ). done (types_in a.s.words bs l.d k) (drop l.next.at bs)) (sym q)
          ∙ sym (l.invariant.1 ∙ repeat-none (types_in a.s.words bs l.d l.i) (type_info a.s.words) _ (drop l.next.at bs) (omega arith)),
      (c.requires, subst (NotesRead a.s.words bs l.d) q l.invariant.0),
    )
