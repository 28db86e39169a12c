use Rattle.sheet_decode.specs.ListLaws.{no-types, no-extensions, records-read}
use Rattle.sheet_decode.specs.Lists.{telling_in}
use Rattle.fields.specs.FieldLaws.{err_was}
use Rattle.definitions.specs.Bits.{bits_of}
use lib.ListN.{drop}
use mathlib.Core.Path.{refl}
use Rattle.sheet_decode.proofs.read_records.Goals as goal

pub returns-in_err-types : goal.returns-in_err-types
returns-in_err-types c =
    let a = c.args in
    let bs = bits_of a.s.now in
    let x = c.read_types.ensures in
    let g = rw c.in_err-types.was at x.0 in
    rw (err_was _ c.in_err-types.field-0.0 c.from_residual.ensures.1)
    (no-types (telling_in a.w) (drop a.w.at bs) _ g, tt)

pub returns-in_err-records : goal.returns-in_err-records
returns-in_err-records c =
    let a = c.args in
    let bs = bits_of a.s.now in
    let x = c.read_types.ensures in
    let y = c.read_extensions.ensures in
    let g = rw c.in_ok-types.was at x.0 in
    let h = rw c.in_err-records.was at y.0 in
    rw (err_was _ c.in_err-records.field-0.0 c.from_residual-in_err-records.ensures.1)
    (no-extensions (telling_in a.w) (drop a.w.at bs) _ (drop c.in_ok-types.next.at bs) g _ h, tt)

pub returns : goal.returns
returns c =
    let a = c.args in
    let bs = bits_of a.s.now in
    let x = c.read_types.ensures in
    let y = c.read_extensions.ensures in
    let u = c.in_ok-types in
    let v = c.in_ok-records in
    let g = rw u.was at x.0 in
    let h = rw v.was at y.0 in
    let k = rw u.was at x.1 in (
      records-read (telling_in a.w) (drop a.w.at bs) _ (drop u.next.at bs) g _ (drop v.end.at bs) h,
      (record { width = c.requires.1; count = k.0; extensions = rw v.was at y.1; notes = k.1 }, refl),
    )
