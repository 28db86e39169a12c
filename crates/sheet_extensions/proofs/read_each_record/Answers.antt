use Rattle.sheet_extensions.specs.RecordLaws.{records-none, records-more}
use Rattle.sheet_extensions.specs.Records.{record_of, records_in}
use Rattle.fields.specs.FieldLaws.{err_was}
use Rattle.fields.specs.ParseLaws.{repeat-none, repeat-next, repeat-refused}
use Rattle.definitions.specs.Reading.{extension}
use Rattle.definitions.specs.Parse.{done}
use Rattle.definitions.specs.Bits.{bits_of}
use Rattle.fields.specs.Fields.{fault_of, of_parsed}
use lib.ListN.{length, drop}
use Rattle.std.proofs.Common.{rules}
use native.Mathlib.Nat.{sub-zero}
use Prim.Native.Nat.{ℕ}
use mathlib.Core.Path.{◌≡◌, refl, sym, ap, ◌∙◌}
use native.Mathlib.Omega.{arith}
use Rattle.sheet_extensions.proofs.read_each_record.Goals as goal

pub loop-e-init : goal.loop-e-init
loop-e-init c =
    let a = c.args in
    rw (sub-zero a.n, records-none a.t.now) refl

pub returns-in_err-read : goal.returns-in_err-read
returns-in_err-read c =
    let l = c.loop-e in
    let a = c.args in
    let x = c.read_record.ensures in
    let bs = bits_of a.s.bytes.now in
    let r = c.in_err-read.field-0.0 in
    rw (err_was _ r c.from_residual.ensures.1) (
      sym (l.invariant ∙ repeat-refused (records_in l.t l.e) (extension a.s.words) _ (drop l.next.at bs) (fault_of r) (omega arith)
          (sym x ∙ ap (of_parsed record_of bs) c.in_err-read.was)),
      tt,
    )

pub loop-e-preserved : goal.loop-e-preserved
loop-e-preserved c =
    let l = c.loop-e in
    let a = c.args in
    let x = c.read_record.ensures in
    let bs = bits_of a.s.bytes.now in
    let v = c.in_ok-read in
    let few : length l.t.extensions ≡ 32 = search rules in
    l.invariant
    ∙ repeat-next (records_in l.t l.e) (extension a.s.words) a.n l.e (drop l.next.at bs) (record_of v.read) (drop v.behind.at bs) (omega arith)
    (sym x ∙ ap (of_parsed record_of bs) v.was)
    ∙ rw (records-more l.t l.e v.read (omega (arith, few, c.requires))) refl

pub returns : goal.returns
returns c =
    let l = c.loop-e in
    let a = c.args in
    let bs = bits_of a.s.bytes.now in
    let q : l.e ≡ a.n = omega arith in (
      ap (λ (k : ℕ). done (records_in l.t k) (drop l.next.at bs)) (sym q)
          ∙ sym (l.invariant ∙ repeat-none (records_in l.t l.e) (extension a.s.words) _ (drop l.next.at bs) (omega arith)),
      c.requires,
    )
