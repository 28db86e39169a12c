-- Laws of bytes in a list of bits, and of the parser of a word.
use Rattle.std.specs.Prelude.{Bool, true, false, ◌&&◌, cond, ◌≡◌, eqb, leb, get_or, drop}
use mathlib.Core.List.{List, [], ◌∷◌, ◌++◌, append_assoc, append-nil}
use Rattle.std.proofs.Math.Path.{refl, sym}
use Rattle.std.proofs.Common.{ap, ◌∙◌, sub-one}
use Prim.Native.Nat.{ℕ, zero, suc, ◌+◌, ◌*◌, ◌-◌, ◌/◌, ◌≤◌, ◌<◌}
use native.Mathlib.Nat.{zero-add, suc-add, sub-zero, suc-sub-suc, mod-eq_of_lt}
use native.Mathlib.Omega.{arith}
use borrow.Author.Tests.{le-leb, leb-true, leb-false, eqb-true}
use Rattle.std.proofs.Math.ListN.{length, length-drop}
use Rattle.std.proofs.Math.Seq
use Rattle.lists.specs.Lists.{all}
use Rattle.lists.specs.Tests.{by, or_elim, and_left, and_right}
use Rattle.definitions.specs.Bits.{num, to_bits, pack_to}
use Rattle.definitions.specs.Parse.{Parsed, done, refused, next, ◌>>=◌, pure, allowed, between, repeat_onto, repeat, past, not_allowed}
use Rattle.definitions.specs.Reading.{is_first_byte, is_word_byte, word}
use Rattle.bits.specs.NumberLaws.{pad, pad-add, num-lt, to_bits-num, num-to_bits, length-to_bits}
use Rattle.fields.specs.ParseLaws.{repeat-done, repeat-refused}
use Rattle.sheet_window.specs.WindowLaws.{field_in, field_past}
use Rattle.sheet_words.specs.Bytes.{may_stand, is_word}
use Rattle.sheet_words.specs.Words.{word_bytes}

-- ---- bytes

pub bytes-split : (j k : ℕ) (bs : List Bool) → pack_to (j + k) bs ≡ pack_to j bs ++ pack_to k (drop (8 * j) bs)
unfolding pack_to
bytes-split zero k bs = rw zero-add
bytes-split (suc j) k bs =
    let e : 8 + 8 * j ≡ 8 * suc j = omega arith in
    rw (suc-add, bytes-split j k (drop 8 bs), Seq.drop-drop (8 * j) 8 bs, e)

pub bytes_drop : (j n : ℕ) (bs : List Bool) → drop j (pack_to n bs) ≡ pack_to (n - j) (drop (8 * j) bs)
unfolding pack_to
bytes_drop zero n bs = rw (sub-zero n)
bytes_drop (suc j) zero bs = rw (native.Mathlib.Nat.zero-sub (suc j))
bytes_drop (suc j) (suc n) bs =
    let e : 8 + 8 * j ≡ 8 * suc j = omega arith in
    rw (bytes_drop j n (drop 8 bs), suc-sub-suc, Seq.drop-drop (8 * j) 8 bs, e)

pub byte-is : (n i : ℕ) (bs : List Bool) → i < n → get_or (pack_to n bs) i 0 ≡ num 8 (drop (8 * i) bs)
unfolding pack_to
byte-is zero i bs h = absurd (omega arith)
byte-is (suc n) zero bs h = refl
byte-is (suc n) (suc i) bs h =
    let e : 8 + 8 * i ≡ 8 * suc i = omega arith in
    byte-is n i (drop 8 bs) (omega arith) ∙ rw (Seq.drop-drop (8 * i) 8 bs, e)

-- the first byte of bits that zeros were put behind
first-pad : (xs ys : List Bool) → num 8 (pad 8 xs ++ ys) ≡ num 8 xs
first-pad xs ys = ap (λ (l : List Bool). num 8 (l ++ ys)) (sym (to_bits-num 8 xs)) ∙ num-to_bits 8 (num 8 xs) ys ∙ mod-eq_of_lt (num-lt 8 xs)

eight-pad : (xs : List Bool) → length (pad 8 xs) ≡ 8
eight-pad xs = ap length (sym (to_bits-num 8 xs)) ∙ length-to_bits 8 (num 8 xs)

bytes-pad : (n : ℕ) (bs : List Bool) → pack_to n (pad (8 * n) bs) ≡ pack_to n bs
unfolding pack_to
bytes-pad zero bs = refl
bytes-pad (suc n) bs =
    let e : 8 * suc n ≡ 8 + 8 * n = omega arith in
    rw (e, pad-add 8 (8 * n) bs, first-pad bs (pad (8 * n) (drop 8 bs)), Seq.drop_at (pad 8 bs) (pad (8 * n) (drop 8 bs)) 8 (eight-pad bs), bytes-pad n (drop 8 bs))

-- the bytes of a number that was read are those that stand there
pub bytes-num : (n : ℕ) (bs : List Bool) → pack_to n (to_bits (8 * n) (num (8 * n) bs)) ≡ pack_to n bs
bytes-num n bs = ap (pack_to n) (to_bits-num (8 * n) bs) ∙ bytes-pad n bs

-- ---- a byte of a word

first-small : (b : ℕ) → is_first_byte b ≡ true → (0 < b) × (b < 128)
unfolding is_first_byte
first-small b e =
    or_elim (leb 65 b && leb b 90) _ e (range 65 90 (omega arith) (omega arith))
    (λ f. or_elim (leb 97 b && leb b 122) _ f (range 97 122 (omega arith) (omega arith))
    (λ g. or_elim (leb 48 b && leb b 57) _ g (range 48 57 (omega arith) (omega arith)) (λ h. let q : b ≡ 95 = eqb-true b 95 h in (omega arith, omega arith))))
  where
    range : (l m : ℕ) → 0 < l → m < 128 → (leb l b && leb b m) ≡ true → (0 < b) × (b < 128)
    range l m p q h =
        let x = leb-true l b (and_left (leb l b) (leb b m) h) in
        let y = leb-true b m (and_right (leb l b) (leb b m) h) in
        (omega arith, omega arith)

pub letter-small : (b : ℕ) → is_word_byte b ≡ true → (0 < b) × (b < 128)
unfolding is_word_byte
letter-small b e =
    or_elim (is_first_byte b) (eqb b 45) e (first-small b) (λ h. let q : b ≡ 45 = eqb-true b 45 h in (omega arith, omega arith))

pub may-small : (inner : Bool) (b : ℕ) → may_stand inner b ≡ true → b < 128
may-small true b e = (letter-small b e).1
may-small false b e = (first-small b e).1

first-letter : (b : ℕ) → is_first_byte b ≡ true → is_word_byte b ≡ true
unfolding is_word_byte
first-letter b e = rw e refl

-- bytes without a hyphen are those of a word, and a word's are letters
pub plain-letters : (l : List ℕ) → all is_first_byte l ≡ true → all is_word_byte l ≡ true
plain-letters [] e = refl
plain-letters (x ∷ l) e =
    rw (first-letter x (and_left (is_first_byte x) (all is_first_byte l) e)) (plain-letters l (and_right (is_first_byte x) (all is_first_byte l) e))

pub plain-word : (l : List ℕ) → all is_first_byte l ≡ true → is_word l ≡ true
plain-word [] e = refl
plain-word (x ∷ l) e =
    rw (and_left (is_first_byte x) (all is_first_byte l) e) (plain-letters l (and_right (is_first_byte x) (all is_first_byte l) e))

pub word-letters : (l : List ℕ) → is_word l ≡ true → all is_word_byte l ≡ true
word-letters [] e = refl
word-letters (x ∷ l) e =
    rw (first-letter x (and_left (is_first_byte x) (all is_word_byte l) e)) (and_right (is_first_byte x) (all is_word_byte l) e)

-- ---- the parser

module _ (ok : ℕ → Bool) where
  allowed-in : (bs : List Bool) → 8 ≤ length bs → allowed 8 ok bs ≡ cond (ok (num 8 bs)) (done (num 8 bs) (drop 8 bs)) (refused not_allowed)
  unfolding allowed
  allowed-in bs h = rw (field_in bs 0 8 8 (omega arith) refl h) (by (ok (num 8 bs)) (λ e. rw e refl) (λ e. rw e refl))

  allowed-past : (bs : List Bool) → length bs < 8 → allowed 8 ok bs ≡ refused past
  unfolding allowed
  allowed-past bs h = rw (field_past bs 0 8 (omega arith) h)

  -- n bytes that are there
  pub bytes-in : (n : ℕ) (xs : List ℕ) (bs : List Bool) → 8 * n ≤ length bs →
      repeat_onto xs (allowed 8 ok) n bs ≡ cond (all ok (pack_to n bs)) (done (xs ++ pack_to n bs) (drop (8 * n) bs)) (refused not_allowed)
  unfolding repeat_onto pack_to
  bytes-in zero xs bs h = rw append-nil refl
  bytes-in (suc n) xs bs h =
      let f : 8 + 8 * n ≡ 8 * suc n = omega arith in
      by (ok (num 8 bs))
      (λ e. repeat-done xs (allowed 8 ok) (suc n) bs (num 8 bs) (drop 8 bs) (omega arith) (allowed-in bs (omega arith) ∙ rw e refl)
      ∙ rw (sub-one (suc n), bytes-in n (xs ++ (num 8 bs ∷ [])) (drop 8 bs) (omega (arith, length-drop 8 bs)), e, append_assoc xs, Seq.drop-drop (8 * n) 8 bs, f) refl)
      (λ e. repeat-refused xs (allowed 8 ok) (suc n) bs not_allowed (omega arith) (allowed-in bs (omega arith) ∙ rw e refl) ∙ rw e refl)

  -- n bytes that pass the end
  pub bytes_past : (n : ℕ) (xs : List ℕ) (bs : List Bool) → length bs < 8 * n →
      repeat_onto xs (allowed 8 ok) n bs ≡ refused (cond (all ok (pack_to (length bs / 8) bs)) past not_allowed)
  unfolding pack_to
  bytes_past zero xs bs h = absurd (omega arith)
  bytes_past (suc n) xs bs h =
      by (leb 8 (length bs))
      (λ t. let l : 8 ≤ length bs = leb-true 8 (length bs) t in
      let z : length bs / 8 ≡ suc (length (drop 8 bs) / 8) = omega (arith, length-drop 8 bs) in
      by (ok (num 8 bs))
      (λ e. repeat-done xs (allowed 8 ok) (suc n) bs (num 8 bs) (drop 8 bs) (omega arith) (allowed-in bs l ∙ rw e refl)
      ∙ rw (sub-one (suc n), bytes_past n (xs ++ (num 8 bs ∷ [])) (drop 8 bs) (omega (arith, length-drop 8 bs)), z, e) refl)
      (λ e. repeat-refused xs (allowed 8 ok) (suc n) bs not_allowed (omega arith) (allowed-in bs l ∙ rw e refl) ∙ rw (z, e) refl))
      (λ t. let l : length bs < 8 = leb-false 8 (length bs) t in
      let z : length bs / 8 ≡ 0 = omega arith in
      repeat-refused xs (allowed 8 ok) (suc n) bs past (omega arith) (allowed-past bs l) ∙ rw z refl)

-- ---- a word

-- its bytes, where they are there
pub word-in : (n : ℕ) (bs : List Bool) → 0 < n → 8 * n ≤ length bs →
    word_bytes n bs ≡ cond (is_word (pack_to n bs)) (done (pack_to n bs) (drop (8 * n) bs)) (refused not_allowed)
unfolding pack_to
word-in zero bs s h = absurd (omega arith)
word-in (suc m) bs s h =
    let f : 8 + 8 * m ≡ 8 * suc m = omega arith in
    by (is_first_byte (num 8 bs))
    (λ e. by (all is_word_byte (pack_to m (drop 8 bs)))
    (λ g. rw (allowed-in is_first_byte bs (omega arith), e, sub-one (suc m), bytes-in is_word_byte m [] (drop 8 bs) (omega (arith, length-drop 8 bs)), g, Seq.drop-drop (8 * m) 8 bs, f) refl)
    (λ g. rw (allowed-in is_first_byte bs (omega arith), e, sub-one (suc m), bytes-in is_word_byte m [] (drop 8 bs) (omega (arith, length-drop 8 bs)), g) refl))
    (λ e. rw (allowed-in is_first_byte bs (omega arith), e) refl)

-- and where they pass the end
pub word_past : (n : ℕ) (bs : List Bool) → length bs < 8 * n → word_bytes n bs ≡ refused (cond (is_word (pack_to (length bs / 8) bs)) past not_allowed)
unfolding pack_to
word_past zero bs h = absurd (omega arith)
word_past (suc m) bs h =
    by (leb 8 (length bs))
    (λ t. let l : 8 ≤ length bs = leb-true 8 (length bs) t in
    let z : length bs / 8 ≡ suc (length (drop 8 bs) / 8) = omega (arith, length-drop 8 bs) in
    by (is_first_byte (num 8 bs))
    (λ e. rw (allowed-in is_first_byte bs l, e, sub-one (suc m), bytes_past is_word_byte m [] (drop 8 bs) (omega (arith, length-drop 8 bs)), z, e) refl)
    (λ e. rw (allowed-in is_first_byte bs l, e, z, e) refl))
    (λ t. let l : length bs < 8 = leb-false 8 (length bs) t in
    let z : length bs / 8 ≡ 0 = omega arith in
    rw (allowed-past is_first_byte bs l, z) refl)

module _ (bs : List Bool) (p n : ℕ) where
  pub no_length : length bs < p + 5 → refused past ≡ word (drop p bs)
  unfolding word allowed
  no_length h = sym (rw (field_past bs p 5 (omega arith) h))

  module _ (there : p + 5 ≤ length bs) (e : n ≡ num 5 (drop p bs)) where
    pub word-empty : n ≡ 0 → refused not_allowed ≡ word (drop p bs)
    unfolding word allowed
    word-empty z = sym (rw (field_in bs p 5 (p + 5) (omega arith) refl there, ← e, z))

    pub word_some : 0 < n → word_bytes n (drop (p + 5) bs) ≡ word (drop p bs)
    unfolding word allowed
    word_some h =
        let l : n < 32 = rw e (num-lt 5 (drop p bs)) in
        sym (rw (field_in bs p 5 (p + 5) (omega arith) refl there, ← e, le-leb 1 n h, le-leb n 31 (omega arith)))

-- a word that was read has a byte
pub word-some : (bs : List Bool) (w : List ℕ) (rest : List Bool) → word bs ≡ done w rest → 0 < length w
unfolding word
word-some bs w rest e = counted (between 5 1 31 bs) e
  where
    joined : (b : ℕ) (y : Parsed (List ℕ)) → next y (λ l. pure (b ∷ l)) ≡ done w rest → 0 < length w
    joined b (done l r) e = let q : b ∷ l ≡ w = cc in rw (← q) (omega arith)
    joined b (refused f) e = let z : ◌≡◌ {A = ℕ} 0 1 = cc in absurd (omega arith)

    begun : (n : ℕ) (y : Parsed ℕ) → next y (λ b. repeat (allowed 8 is_word_byte) (n - 1) >>= λ l. pure (b ∷ l)) ≡ done w rest → 0 < length w
    begun n (done b r) e = joined b (repeat (allowed 8 is_word_byte) (n - 1) r) e
    begun n (refused f) e = let z : ◌≡◌ {A = ℕ} 0 1 = cc in absurd (omega arith)

    counted : (y : Parsed ℕ) → next y (λ n. word_bytes n) ≡ done w rest → 0 < length w
    counted (done n r) e = begun n (allowed 8 is_first_byte r) e
    counted (refused f) e = let z : ◌≡◌ {A = ℕ} 0 1 = cc in absurd (omega arith)
