-- Laws of fields that are there.
use Rattle.std.specs.Prelude.{Bool, List, ◌≡◌, ℕ, ◌+◌, ◌%◌, ◌≤◌, ◌<◌, length, drop}
use Rattle.std.proofs.Math.Path.{refl, sym, ap}
use Rattle.std.proofs.Common.{◌∙◌, mod-eq_of_lt, arith}
use borrow.Author.Tests.{le-leb, lt-leb, lt-ltb, le-ltb}
use Rattle.definitions.specs.Bits.{num}
use Rattle.definitions.specs.Parse.{done, refused, allowed, between, not_allowed}
use Rattle.definitions.specs.Reading.{word_field}
use Rattle.bits.specs.NumberLaws.{num-lt}
use Rattle.sheet_window.specs.WindowLaws.{field_in}

module _ (bs : List Bool) (p n v : ℕ) (some : 0 < n) (l : p + n ≤ length bs) (e : v ≡ num n (drop p bs)) where
  pub between-low : (least most : ℕ) → v < least → refused not_allowed ≡ between n least most (drop p bs)
  unfolding allowed
  between-low least most h = sym (rw (field_in bs p n (p + n) some refl l, ← e, lt-leb least v h))

  pub between-high : (least most : ℕ) → least ≤ v → most < v → refused not_allowed ≡ between n least most (drop p bs)
  unfolding allowed
  between-high least most h k = sym (rw (field_in bs p n (p + n) some refl l, ← e, le-leb least v h, lt-leb v most k))

  pub between_is : (least most : ℕ) → least ≤ v → v ≤ most → done v (drop (p + n) bs) ≡ between n least most (drop p bs)
  unfolding allowed
  between_is least most h k = sym (rw (field_in bs p n (p + n) some refl l, ← e, le-leb least v h, le-leb v most k))

module _ (bs : List Bool) (p v W : ℕ) (l : p + 8 ≤ length bs) (e : v ≡ num 8 (drop p bs)) where
  pub word-there : v < W → done (v % 256) (drop (p + 8) bs) ≡ word_field W (drop p bs)
  unfolding allowed word_field
  word-there h =
      let q : v < 256 = rw e (num-lt 8 (drop p bs)) in
      ap (λ (x : ℕ). done x (drop (p + 8) bs)) (mod-eq_of_lt q) ∙ sym (rw (field_in bs p 8 (p + 8) (omega arith) refl l, ← e, lt-ltb v W h))

  pub word-large : W ≤ v → refused not_allowed ≡ word_field W (drop p bs)
  unfolding allowed word_field
  word-large h = sym (rw (field_in bs p 8 (p + 8) (omega arith) refl l, ← e, le-ltb v W h))
