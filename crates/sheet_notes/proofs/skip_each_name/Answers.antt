use native.Mathlib.Omega.{arith}
use Rattle.std.proofs.Common.{rules, length, refl}
use Rattle.definitions.specs.Bits.{bits_of}
use Rattle.definitions.specs.Reading.{name}
use Prim.Native.Nat.{ℕ, ◌-◌}
use Rattle.fields.specs.FieldLaws.{err_was}
use Rattle.sheet_notes.specs.NoteLaws.{ranged, folded, ended}
use Rattle.sheet_notes.proofs.skip_each_name.Goals as goal

pub returns : goal.returns
returns c =
    let a = c.args in
    let bs = bits_of a.s.bytes.now in
    let m = name a.s.words in
    let h = c.try_fold.ensures.ran in
    let l = ranged h.0 _ h.4.0 h.4.1 (omega arith) in
    let f = λ (k : ℕ). folded m bs _ _ (λ p q x r e. search rules) h.0 _ _ k refl h.5 in
    ended m bs a.n h.1 _ a.c h.3 (length h.0) (h.4.0.end - h.4.0.start) h.4.0.start c.try_fold.new.self.start _ h.2 _ h.4.2.1 h.6 f (omega (arith, l.0, l.1, l.2)) (λ x z e. (z.2.0, err_was _ _ z.5.1, search rules))
