use native.Mathlib.Omega.{arith}
use native.Mathlib.Nat.{sub-zero}
use mathlib.Core.Path.{◌≡◌, refl, sym, ap, ◌∙◌}
use Prim.Native.Nat.{ℕ}
use Rattle.std.proofs.Common.{length-set}
use lib.ListN.{drop}
use Rattle.definitions.specs.Bits.{bits_of}
use Rattle.definitions.specs.Parse.{done}
use Rattle.definitions.specs.Reading.{name}
use Rattle.fields.specs.Fields.{fault_of}
use Rattle.fields.specs.FieldLaws.{err_was}
use Rattle.fields.specs.ParseLaws.{repeat-none, repeat-next, repeat-refused}
use Rattle.sheet_keys.specs.Keys.{name_of_key, of_key_read, names_in}
use Rattle.sheet_keys.specs.KeyLaws.{names-none, names_more}
use Rattle.sheet_keys.proofs.read_each_key.Goals as goal

pub loop-i-init : goal.loop-i-init
loop-i-init c =
    let a = c.args in
    (refl, rw (sub-zero a.n, names-none a.out.now) refl)

pub returns-in_err-key : goal.returns-in_err-key
returns-in_err-key c =
    let l = c.loop-i in
    let a = c.args in
    let r = c.in_err-key.field-0.0 in
    let bs = bits_of a.s.bytes.now in
    rw (err_was _ r c.from_residual.ensures.1) (
      sym (l.invariant.1 ∙ repeat-refused (names_in l.out l.i) (name a.s.words) _ (drop l.next.at bs) (fault_of r) (omega arith)
          (sym c.read_key.ensures ∙ ap (of_key_read bs) c.in_err-key.was)),
      l.invariant.0,
      tt,
    )

pub loop-i-preserved : goal.loop-i-preserved
loop-i-preserved c =
    let l = c.loop-i in
    let a = c.args in
    let v = c.in_ok-key in
    let bs = bits_of a.s.bytes.now in
    let h = l.invariant.0 in (
      length-set l.out l.i v.key ∙ h,
      l.invariant.1
          ∙ repeat-next (names_in l.out l.i) (name a.s.words) a.n l.i (drop l.next.at bs) (name_of_key v.key) (drop v.end.at bs) (omega arith)
          (sym c.read_key.ensures ∙ ap (of_key_read bs) v.was)
          ∙ rw (names_more l.out l.i v.key (omega arith)) refl,
    )

pub returns : goal.returns
returns c =
    let l = c.loop-i in
    let a = c.args in
    let e : l.i ≡ a.n = omega arith in (
      ap (λ (k : ℕ). done (names_in l.out k) (drop l.next.at (bits_of a.s.bytes.now))) (sym e)
          ∙ sym (l.invariant.1 ∙ repeat-none (names_in l.out l.i) (name a.s.words) _ (drop l.next.at (bits_of a.s.bytes.now)) (omega arith)),
      l.invariant.0,
      omega arith,
    )
