-- Laws of keys and of tables of keys.
use Rattle.std.specs.Prelude.{Bool, true, false, cond, List, [], ◌∷◌, ◌++◌, ◌≡◌, ℕ, ◌+◌, ◌*◌, ◌-◌, ◌/◌, ◌%◌, ◌≤◌, ◌<◌, eqb, length, drop, get_or, set}
use Rattle.std.proofs.Math.Path.{refl, sym}
use Rattle.std.proofs.Common.{ap}
use native.Mathlib.Omega.{arith}
use borrow.Author.Tests.{ne_eqb, eqb-true, eqb-false, lt-ltb, le-ltb}
use Rattle.std.proofs.Math.Seq
use Rattle.lists.specs.Tabulating.{tabulate, tabulate-set}
use Rattle.definitions.specs.Bits.{num}
use Rattle.definitions.specs.Parse.{done, refused, allowed, not_allowed}
use Rattle.definitions.specs.Reading.{word_field, word_if_flag, name}
use Rattle.bits.specs.NumberLaws.{num-lt}
use Rattle.sheet_window.specs.WindowLaws.{field_in, split}
use Rattle.fields.specs.declared.Name.{Name}
use Rattle.fields.specs.Fields.{two_words, name_of}
use Rattle.fields.specs.Keys.{key_of}
use Rattle.sheet_keys.specs.Keys.{name_of_key, names_in}

-- the key of two words
pub key-words : (a b : ℕ) → a < 256 → b < 256 → name_of_key (a * 256 + (b + 1) % 256) ≡ two_words a b
unfolding name_of_key
key-words a b h k =
    let q : (a * 256 + (b + 1) % 256) / 256 ≡ a = omega arith in
    let r : (a * 256 + (b + 1) % 256) % 256 ≡ (b + 1) % 256 = omega arith in
    rw (q, r) (ap (λ (l : List ℕ). a ∷ l) (second (eqb b 255) refl))
  where
    second : (t : Bool) → eqb b 255 ≡ t → cond (eqb ((b + 1) % 256) 0) [] (((b + 1) % 256 - 1) ∷ []) ≡ cond t [] (b ∷ [])
    second true e = let q : (b + 1) % 256 ≡ 0 = omega (arith, eqb-true b 255 e) in rw q
    second false e =
        let n : b ≡ 255 → ⊥ = eqb-false b 255 e in
        let q : (b + 1) % 256 ≡ b + 1 = omega (arith, n) in
        let z : b + 1 - 1 ≡ b = omega arith in
        rw (q, ne_eqb (b + 1) 0 (λ w. omega arith), z)

-- the key of a name
pub named : (n : Name) → n.first < 256 → n.second < 256 → name_of_key (key_of n) ≡ name_of n
named n h k = key-words n.first n.second h k

-- ---- a name out of 17 bits

module _ (bs : List Bool) (p W w : ℕ) (l : p + 17 ≤ length bs) (few : W ≤ 255) (e : w ≡ num 17 (drop p bs)) where
  digits : num 17 (drop p bs) ≡ num 8 (drop p bs) * 512 + num 1 (drop (p + 8) bs) * 256 + num 8 (drop (p + 9) bs)
  digits =
      let a : num 17 (drop p bs) ≡ num 8 (drop p bs) * 512 + num 9 (drop (p + 8) bs) = split bs p 8 9 (p + 8) refl in
      let b : num 9 (drop (p + 8) bs) ≡ num 1 (drop (p + 8) bs) * 256 + num 8 (drop (p + 9) bs) = split bs (p + 8) 1 8 (p + 9) (omega arith) in
      omega (arith, a, b)

  word : num 8 (drop p bs) ≡ w / 512
  word = omega (arith, e, digits, num-lt 1 (drop (p + 8) bs), num-lt 8 (drop (p + 9) bs))

  second : num 8 (drop (p + 9) bs) ≡ w % 256
  second = omega (arith, e, digits, num-lt 1 (drop (p + 8) bs), num-lt 8 (drop (p + 9) bs))

  flagged : num 1 (drop (p + 8) bs) ≡ w / 256 % 2
  flagged =
      let q : w / 256 ≡ num 8 (drop p bs) * 2 + num 1 (drop (p + 8) bs) = omega (arith, e, digits, num-lt 1 (drop (p + 8) bs), num-lt 8 (drop (p + 9) bs)) in
      omega (arith, q, num-lt 1 (drop (p + 8) bs))

  pub first-large : W ≤ w / 512 → refused not_allowed ≡ name W (drop p bs)
  unfolding name word_field allowed
  first-large h = sym (rw (field_in bs p 8 (p + 8) (omega arith) refl (omega arith), word, le-ltb (w / 512) W h))

  pub one-word : w / 512 < W → w / 256 % 2 ≡ 0 → done (name_of_key (w / 512 * 256)) (drop (p + 9) bs) ≡ name W (drop p bs)
  unfolding name word_field word_if_flag allowed name_of_key
  one-word h z =
      let a : w / 512 * 256 / 256 ≡ w / 512 = omega arith in
      let b : w / 512 * 256 % 256 ≡ 0 = omega arith in
      sym (rw (
        field_in bs p 8 (p + 8) (omega arith) refl (omega arith),
        word,
        lt-ltb (w / 512) W h,
        field_in bs (p + 8) 1 (p + 9) (omega arith) (omega arith) (omega arith),
        flagged,
        z,
        a,
        b,
      ))

  module _ (h : w / 512 < W) (z : w / 256 % 2 ≡ 1) where
    pub second-large : W ≤ w % 256 → refused not_allowed ≡ name W (drop p bs)
    unfolding name word_field word_if_flag allowed
    second-large k =
        sym (rw (
          field_in bs p 8 (p + 8) (omega arith) refl (omega arith),
          word,
          lt-ltb (w / 512) W h,
          field_in bs (p + 8) 1 (p + 9) (omega arith) (omega arith) (omega arith),
          flagged,
          z,
          field_in bs (p + 9) 8 (p + 17) (omega arith) (omega arith) (omega arith),
          second,
          le-ltb (w % 256) W k,
        ))

    pub two-words : w % 256 < W → done (name_of_key (w / 512 * 256 + w % 256 + 1)) (drop (p + 17) bs) ≡ name W (drop p bs)
    unfolding name word_field word_if_flag allowed name_of_key
    two-words k =
        let a : (w / 512 * 256 + w % 256 + 1) / 256 ≡ w / 512 = omega arith in
        let b : (w / 512 * 256 + w % 256 + 1) % 256 ≡ w % 256 + 1 = omega arith in
        let c : w % 256 + 1 - 1 ≡ w % 256 = omega arith in
        sym (rw (
          field_in bs p 8 (p + 8) (omega arith) refl (omega arith),
          word,
          lt-ltb (w / 512) W h,
          field_in bs (p + 8) 1 (p + 9) (omega arith) (omega arith) (omega arith),
          flagged,
          z,
          field_in bs (p + 9) 8 (p + 17) (omega arith) (omega arith) (omega arith),
          second,
          lt-ltb (w % 256) W k,
          a,
          b,
          ne_eqb (w % 256 + 1) 0 (λ q. omega arith),
          c,
        ))

-- ---- tables

pub names-none : (l : List ℕ) → names_in l 0 ≡ []
unfolding tabulate
names-none l = refl

-- one name more
pub names_more : (l : List ℕ) (n k : ℕ) → n < length l → names_in (set l n k) (n + 1) ≡ names_in l n ++ (name_of_key k ∷ [])
names_more l n k h =
    tabulate-set (λ j. name_of_key (get_or l j 0)) (λ j. name_of_key (get_or (set l n k) j 0)) n (name_of_key k)
    (λ j s. ap name_of_key (Seq.get_or-set_other l n j k 0 (λ e. omega arith)))
    (ap name_of_key (Seq.get_or-set_same l n k 0 h))
