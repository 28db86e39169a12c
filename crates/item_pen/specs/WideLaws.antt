-- Eight bytes written at once: the bits before a field and the bytes behind it are as they were.
use Rattle.std.specs.Prelude.{Bool, ◌≡◌, refl, ℕ, zero, suc, ◌+◌, ◌*◌, ◌-◌, ◌/◌, ◌%◌, ◌^◌, ◌≤◌, ◌<◌, length, get_or, take}
use mathlib.Core.List.{List, [], ◌∷◌, ◌++◌, append_assoc, append-nil}
use Rattle.std.proofs.Common.{sym, ◌∙◌, mod-lt, mod-eq_of_lt, add_assoc, zero-add, zero-mul, one-mul, arith, length-append, length-drop, take-append-drop}
use Rattle.std.proofs.Math.Path.{ap, ap₂}
use Rattle.std.proofs.Math.Nat.{zero-div}
use Rattle.std.proofs.Math.Arith.{digits_lt}
use Rattle.std.specs.Int.{w16, w64, byte_at as digit, bytes_high_first, from_be_bytes, to_be_bytes}
use Rattle.std.specs.Int.Bits.{bit_and}
use Rattle.std.proofs.lemmas.Nat.Bits.{and_high}
use Rattle.std.proofs.Math.ListN.{drop}
use Rattle.std.proofs.Math.Pow
use Rattle.std.proofs.Math.Seq
use Rattle.definitions.specs.Bits.{odd, to_bits, bits_of, num, pack_to, size, pack}
use Rattle.bits.specs.Writing.{put}
use Rattle.bits.specs.NumberLaws.{pad-take, bits_of-append, length-to_bits, num-to_bits, num-split, num-prefix, num-nil, to_bits-split, to_bits-low, to_bits-num, length-bits_of, drop-bits_of, num-byte}
use Rattle.bits.specs.WriteLaws.{put-shift, put_first, put_byte, put-pack}
use Rattle.item_pen.specs.Pen.{Merged}

-- ---- bytes in and out

-- the first byte of the bits from a byte on
pub byte_at : (s : List ℕ) (i r : ℕ) → get_or s i 0 < 256 → num (8 + r) (drop (8 * i) (bits_of s)) ≡ get_or s i 0 * 2 ^ r + num r (drop (8 * (i + 1)) (bits_of s))
byte_at s i r h =
    let e : get_or (drop i s) 0 0 ≡ get_or s i 0 = Seq.get_or-drop i s 0 0 ∙ ap (λ (j : ℕ). get_or s j 0) (omega arith) in
    let m : get_or (drop i s) 0 0 % 256 ≡ get_or s i 0 = omega (arith, e) in
    rw (drop-bits_of i s, num-byte r (drop i s), m, Seq.drop-drop 1 i s, drop-bits_of (i + 1) s)

pub four_are : (s : List ℕ) (i a b c d : ℕ) → a ≡ get_or s i 0 → b ≡ get_or s (i + 1) 0 → c ≡ get_or s (i + 2) 0 → d ≡ get_or s (i + 3) 0 → ((j : ℕ) → get_or s j 0 < 256) →
    num 32 (drop (8 * i) (bits_of s)) ≡ a * 16777216 + (b * 65536 + (c * 256 + d))
unfolding num
four_are s i a b c d p q r t h =
    omega (
      arith,
      byte_at s i 24 (h i),
      byte_at s (i + 1) 16 (h (i + 1)),
      byte_at s (i + 2) 8 (h (i + 2)),
      byte_at s (i + 3) 0 (h (i + 3)),
      ap (λ (j : ℕ). num 16 (drop (8 * j) (bits_of s))) (add_assoc i 1 1),
      ap (λ (j : ℕ). num 8 (drop (8 * j) (bits_of s))) (add_assoc i 2 1),
    )

pub eight_are : (s : List ℕ) (i : ℕ) → num 64 (drop (8 * i) (bits_of s)) ≡ num 32 (drop (8 * i) (bits_of s)) * 4294967296 + num 32 (drop (8 * (i + 4)) (bits_of s))
eight_are s i =
    let e : 8 * i + 32 ≡ 8 * (i + 4) = omega arith in
    rw (num-split 32 32 (drop (8 * i) (bits_of s)), Seq.drop-drop 32 (8 * i) (bits_of s), e)

-- as the library's method makes it
pub from-be : (s : List ℕ) (i : ℕ) → ((j : ℕ) → get_or s j 0 < 256) →
    from_be_bytes w64 (get_or s i 0 ∷ get_or s (i + 1) 0 ∷ get_or s (i + 2) 0 ∷ get_or s (i + 3) 0 ∷ get_or s (i + 4) 0 ∷ get_or s (i + 5) 0 ∷ get_or s (i + 6) 0 ∷ get_or s (i + 7) 0 ∷ [])
    ≡ num 64 (drop (8 * i) (bits_of s))
from-be s i h =
    let at : (j : ℕ) → get_or s (i + (4 + j)) 0 ≡ get_or s (i + 4 + j) 0 = λ j. ap (λ (k : ℕ). get_or s k 0) (sym (add_assoc i 4 j)) in
    omega (
      arith,
      eight_are s i,
      four_are s i (get_or s i 0) (get_or s (i + 1) 0) (get_or s (i + 2) 0) (get_or s (i + 3) 0) refl refl refl refl h,
      four_are s (i + 4) (get_or s (i + 4) 0) (get_or s (i + 5) 0) (get_or s (i + 6) 0) (get_or s (i + 7) 0) refl (at 1) (at 2) (at 3) h,
    )

pow-256 : (k : ℕ) → 256 ^ k ≡ 2 ^ (8 * k)
pow-256 zero = refl
pow-256 (suc k) =
    let e : 8 * suc k ≡ 8 + 8 * k = omega arith in
    rw (e, Pow.pow-add 2 8 (8 * k), ← pow-256 k) (omega arith)

byte-of : (k x : ℕ) → digit k x ≡ x / 2 ^ (8 * k) % 256
byte-of zero x = omega arith
byte-of (suc k) x = ap (λ (p : ℕ). x / p % 256) (pow-256 (suc k))

-- the bytes of a number are its bits, packed
packed-be : (k x : ℕ) → pack_to k (to_bits (8 * k) x) ≡ bytes_high_first k x
unfolding pack_to
packed-be zero x = refl
packed-be (suc k) x =
    let e : 8 * suc k ≡ 8 + 8 * k = omega arith in
    let y = to_bits (8 * k) x in
    rw (e, to_bits-split 8 (8 * k) x, num-to_bits 8 (x / 2 ^ (8 * k)) y, Seq.drop_at (to_bits 8 (x / 2 ^ (8 * k))) y 8 (length-to_bits 8 (x / 2 ^ (8 * k))), packed-be k x, byte-of k x)

-- bits behind whole bytes
pub put-over : (i p : ℕ) (buf : List ℕ) (bs : List Bool) → i ≤ length buf → put buf (8 * i + p) bs ≡ take i buf ++ put (drop i buf) p bs
put-over zero p buf bs h = ap (λ (q : ℕ). put buf q bs) (zero-add p)
put-over (suc i) p [] bs h = absurd (omega arith)
put-over (suc i) p (x ∷ buf) bs h =
    let e : 8 * suc i + p ≡ 8 + (8 * i + p) = omega arith in
    rw (e, put-shift x buf (8 * i + p) bs, put-over i p buf bs (omega arith))

-- they are written where the bits are
pub put-bytes : (k : ℕ) (buf : List ℕ) (i x : ℕ) → i + k ≤ length buf → take i buf ++ (bytes_high_first k x ++ drop k (drop i buf)) ≡ put buf (8 * i) (to_bits (8 * k) x)
unfolding pack
put-bytes k buf i x h =
    let l : size (length (to_bits (8 * k) x)) ≡ k = ap size (length-to_bits (8 * k) x) ∙ omega arith in
    let e : 8 * i + 0 ≡ 8 * i = omega arith in
    let t : put (drop i buf) 0 (to_bits (8 * k) x) ≡ bytes_high_first k x ++ drop k (drop i buf) =
    put-pack (drop i buf) (to_bits (8 * k) x) (omega (arith, l, length-drop i buf))
    ∙ ap (λ (j : ℕ). pack_to j (to_bits (8 * k) x) ++ drop j (drop i buf)) l
    ∙ ap (λ (b : List ℕ). b ++ drop k (drop i buf)) (packed-be k x) in
    ap (λ (s : List ℕ). take i buf ++ s) (sym t)
    ∙ sym (put-over i 0 buf (to_bits (8 * k) x) (omega (arith, h, l, length-to_bits (8 * k) x)))
    ∙ ap (λ (p : ℕ). put buf p (to_bits (8 * k) x)) e

-- two bytes, and eight
pub put-two : (buf : List ℕ) (i x : ℕ) → i + 2 ≤ length buf → take i buf ++ (to_be_bytes w16 x ++ drop 2 (drop i buf)) ≡ put buf (8 * i) (to_bits 16 x)
put-two buf i x h = put-bytes 2 buf i x h

pub put-be : (buf : List ℕ) (i x : ℕ) → i + 8 ≤ length buf → take i buf ++ (to_be_bytes w64 x ++ drop 8 (drop i buf)) ≡ put buf (8 * i) (to_bits 64 x)
put-be buf i x h = put-bytes 8 buf i x h

-- ---- one number

-- the ones behind the first o bits, but for the last k
pub all-shifted : (o : ℕ) → o < 8 → 18446744073709551615 / 2 ^ o ≡ 2 ^ (64 - o) - 1
all-shifted o h =
    let e : 64 ≡ 64 - o + o = omega arith in
    let s : 2 ^ 64 - 1 ≡ (2 ^ (64 - o) - 1) * 2 ^ o + (2 ^ o - 1) = ap (λ (j : ℕ). 2 ^ j - 1) e ∙ Pow.ones_split (64 - o) o in
    ap (λ (x : ℕ). x / 2 ^ o) s ∙ Pow.high (2 ^ (64 - o) - 1) o (Pow.ones_lt o)

-- what is left of a number where those are taken out
pub taken_out : (old j k : ℕ) → old - bit_and old (2 ^ (j + k) - 2 ^ k) ≡ old / 2 ^ (j + k) * 2 ^ (j + k) + old % 2 ^ k
taken_out old j k =
    omega (arith, and_high old j k, Pow.split old (j + k), Pow.mod-pow-add old j k)

-- it is no more than 64 bits
pub merged-fits : (o n z k hi v lo : ℕ) → hi < 2 ^ o → v < 2 ^ n → lo < 2 ^ k →
    hi * 2 ^ (n + (z + k)) + (v * 2 ^ (z + k) + lo) < 2 ^ (o + (n + (z + k)))
merged-fits o n z k hi v lo h l m =
    let s : lo < 2 ^ (z + k) = omega (arith, m, Pow.pow_mono {i = k} {j = z + k} (omega arith)) in
    rw (Pow.pow-add 2 o (n + (z + k))) (digits_lt h (rw (Pow.pow-add 2 n (z + k)) (digits_lt l s)))

-- as the code makes it
module _ (old o n v : ℕ) (small : old < 18446744073709551616) (some : 0 < n) (most : n ≤ 56) (few : o < 8) (low : v < 2 ^ n) where
  abbrev k : ℕ
  k = (64 - o - n) / 8 * 8

  abbrev j : ℕ
  j = 64 - o - k

  parts-of : j + k ≡ 64 - o
  parts-of = omega arith

  one_shifted : 1 * 2 ^ k % 18446744073709551616 ≡ 2 ^ k
  one_shifted = Pow.shl_exact {a = 1} 1 k 64 (omega arith) (omega arith) ∙ one-mul (2 ^ k)

  k-below : 2 ^ k ≤ 2 ^ (64 - o)
  k-below = Pow.pow_mono {i = k} {j = 64 - o} (omega arith)

  pub hole-one : 1 ≤ 1 * 2 ^ k % 18446744073709551616
  hole-one = rw one_shifted (Pow.pow_pos k)

  pub hole-under : 1 * 2 ^ k % 18446744073709551616 - 1 ≤ 18446744073709551615 / 2 ^ o
  hole-under = rw (one_shifted, all-shifted o few) (omega (arith, k-below))

  abbrev hole : ℕ
  hole = 18446744073709551615 / 2 ^ o - (1 * 2 ^ k % 18446744073709551616 - 1)

  hole-is : hole ≡ 2 ^ (j + k) - 2 ^ k
  hole-is =
      let p = Pow.pow_pos k in
      let e : 2 ^ (64 - o) ≡ 2 ^ (j + k) = ap (λ (x : ℕ). 2 ^ x) (sym parts-of) in
      rw (one_shifted, all-shifted o few) (omega (arith, k-below, e))

  pub merged-is : Merged old o n v (old - bit_and old hole + v * 2 ^ (64 - o - n) % 18446744073709551616)
  merged-is =
      let e : v * 2 ^ (64 - o - n) % 18446744073709551616 ≡ v * 2 ^ (64 - o - n) = Pow.shl_exact {a = v} n (64 - o - n) 64 low (omega arith) in
      let t : old - bit_and old hole ≡ old / 2 ^ (64 - o) * 2 ^ (64 - o) + old % 2 ^ k =
      ap (λ (h : ℕ). old - bit_and old h) hole-is ∙ taken_out old j k ∙ ap (λ (x : ℕ). old / 2 ^ x * 2 ^ x + old % 2 ^ k) parts-of in
      record { is = omega (arith, e, t) }

  pub merged-small : old - bit_and old hole + v * 2 ^ (64 - o - n) % 18446744073709551616 < 18446744073709551616
  merged-small =
      let z = 64 - o - n - k in
      let p : n + (z + k) ≡ 64 - o = omega arith in
      let q : z + k ≡ 64 - o - n = omega arith in
      let w : o + (n + (z + k)) ≡ 64 = omega arith in
      let hi = old / 2 ^ (n + (z + k)) in
      let h : hi < 2 ^ o = Pow.shr_lt o (n + (z + k)) (rw w small) in
      let f = merged-fits o n z k hi v (old % 2 ^ k) h low (mod-lt old (Pow.pow_pos k)) in
      let s : hi * 2 ^ (n + (z + k)) + (v * 2 ^ (z + k) + old % 2 ^ k) < 2 ^ 64 = rw w at f in
      let t : hi * 2 ^ (n + (z + k)) + (v * 2 ^ (z + k) + old % 2 ^ k) ≡ old / 2 ^ (64 - o) * 2 ^ (64 - o) + (v * 2 ^ (64 - o - n) + old % 2 ^ k) = rw (p, q) in
      omega (arith, merged-is.is, s, t)

-- its bits: the old ones, the field, zeros, the old ones
pub merged-bits : (o n z k hi v lo : ℕ) → v < 2 ^ n → lo < 2 ^ k →
    to_bits (o + (n + (z + k))) (hi * 2 ^ (n + (z + k)) + (v * 2 ^ (z + k) + lo)) ≡ to_bits o hi ++ (to_bits n v ++ (to_bits z 0 ++ to_bits k lo))
merged-bits o n z k hi v lo l m =
    let s : lo < 2 ^ (z + k) = omega (arith, m, Pow.pow_mono {i = k} {j = z + k} (omega arith)) in
    let x = v * 2 ^ (z + k) + lo in
    let t : x < 2 ^ (n + (z + k)) = rw (Pow.pow-add 2 n (z + k)) (digits_lt l s) in
    let e : 0 * 2 ^ k + lo ≡ lo = rw (zero-mul (2 ^ k), zero-add lo) in
    let q : lo / 2 ^ k ≡ 0 = ap (λ (y : ℕ). y / 2 ^ k) (sym e) ∙ Pow.high 0 k m in
    rw (
      to_bits-split o (n + (z + k)) (hi * 2 ^ (n + (z + k)) + x),
      Pow.high hi (n + (z + k)) t,
      to_bits-low (n + (z + k)) hi x t,
      to_bits-split n (z + k) x,
      Pow.high v (z + k) s,
      to_bits-low (z + k) v lo s,
      to_bits-split z k lo,
      q,
    )

-- ---- packed bytes

pub pack_to-append : (j k : ℕ) (xs ys : List Bool) → length xs ≡ 8 * j → pack_to (j + k) (xs ++ ys) ≡ pack_to j xs ++ pack_to k ys
unfolding pack_to
pack_to-append zero k [] ys e = rw (zero-add k)
pack_to-append zero k (x ∷ xs) ys e = absurd (omega (arith, e))
pack_to-append (suc j) k xs ys e =
    let t : suc j + k ≡ suc (j + k) = omega arith in
    let d : drop 8 (xs ++ ys) ≡ drop 8 xs ++ ys = Seq.drop-append-le 8 xs ys (omega (arith, e)) in
    let l : length (drop 8 xs) ≡ 8 * j = omega (arith, e, length-drop 8 xs) in
    rw (t, num-prefix 8 xs ys (omega (arith, e)), d, pack_to-append j k (drop 8 xs) ys l)

-- zeros behind the bits change nothing
num-zeros : (n z : ℕ) (xs : List Bool) → num n (xs ++ to_bits z 0) ≡ num n xs
unfolding num to_bits odd
num-zeros zero z xs = refl
num-zeros (suc n) zero [] = refl
num-zeros (suc n) (suc z) [] = rw (zero-div (2 ^ z), num-zeros n z [], num-nil n, zero-mul (2 ^ n))
num-zeros (suc n) z (x ∷ xs) = rw (num-zeros n z xs)

drop-zeros : (k z : ℕ) (xs : List Bool) → (y : ℕ) × (drop k (xs ++ to_bits z 0) ≡ drop k xs ++ to_bits y 0)
unfolding to_bits
drop-zeros zero z xs = (z, refl)
drop-zeros (suc k) zero [] = (0, refl)
drop-zeros (suc k) (suc z) [] = let r = drop-zeros k z [] in (r.0, r.1 ∙ ap (λ (l : List Bool). l ++ to_bits r.0 0) (Seq.drop-nil {A = Bool} k))
drop-zeros (suc k) z (x ∷ xs) = drop-zeros k z xs

pub pack_to-zeros : (k z : ℕ) (xs : List Bool) → pack_to k (xs ++ to_bits z 0) ≡ pack_to k xs
unfolding pack_to
pack_to-zeros zero z xs = refl
pack_to-zeros (suc k) z xs =
    let r = drop-zeros 8 z xs in
    rw (num-zeros 8 z xs, r.1, pack_to-zeros k r.0 (drop 8 xs))

-- bytes are packed of their bits
pub pack_to-bits_of : (s : List ℕ) (bs : List Bool) → ((j : ℕ) → get_or s j 0 < 256) → pack_to (length s) (bits_of s ++ bs) ≡ s
unfolding pack_to bits_of
pack_to-bits_of [] bs h = refl
pack_to-bits_of (x ∷ s) bs h =
    let e : x % 2 ^ 8 ≡ x = mod-eq_of_lt (h 0) in
    let rest = bits_of s ++ bs in
    let a : to_bits 8 x ++ bits_of s ++ bs ≡ to_bits 8 x ++ rest = append_assoc (to_bits 8 x) (bits_of s) bs in
    rw (a, num-to_bits 8 x rest, e, Seq.drop_at (to_bits 8 x) rest 8 (length-to_bits 8 x), pack_to-bits_of s bs (λ j. h (suc j)))

-- ---- a field in eight bytes

-- bits from inside the first byte on: those before them are written again
first-bits : (x : ℕ) (buf : List ℕ) (o : ℕ) → o < 8 → take o (bits_of (x ∷ buf)) ≡ take o (to_bits 8 x)
unfolding bits_of
first-bits x buf o h = Seq.take-append-le o (to_bits 8 x) (bits_of buf) (omega (arith, length-to_bits 8 x))

put-again : (x : ℕ) (buf : List ℕ) (A : List Bool) (o : ℕ) (b : Bool) (bs : List Bool) → o < 8 → take o (to_bits 8 x) ≡ A → length A ≡ o →
    put (x ∷ buf) o (b ∷ bs) ≡ put (x ∷ buf) 0 (A ++ b ∷ bs)
put-again x buf [] o b bs h e k = ap (λ (p : ℕ). put (x ∷ buf) p (b ∷ bs)) (sym k)
put-again x buf (c ∷ A) o b bs h e k =
    let t : 7 ≡ length A + (8 - o) = omega (arith, k) in
    let r : suc (7 - o) ≡ 8 - o = omega arith in
    let d : drop 7 (A ++ b ∷ bs) ≡ drop (8 - o) (b ∷ bs) = ap (λ (j : ℕ). drop j (A ++ b ∷ bs)) t ∙ Seq.drop-append-add A (b ∷ bs) (8 - o) in
    put_first (7 - o) o x buf b bs (omega arith)
    ∙ ap₂ (λ (l : List Bool) (j : ℕ). num 8 (l ++ b ∷ bs) ∷ put buf 0 (drop j (b ∷ bs))) e r
    ∙ ap (λ (l : List Bool). num 8 (c ∷ A ++ b ∷ bs) ∷ put buf 0 l) (sym d)
    ∙ sym (put_byte x buf c (A ++ b ∷ bs))

put-inside : (buf : List ℕ) (o : ℕ) (b : Bool) (bs : List Bool) → o < 8 → 0 < length buf → put buf o (b ∷ bs) ≡ put buf 0 (take o (bits_of buf) ++ b ∷ bs)
put-inside [] o b bs h l = absurd (omega arith)
put-inside (x ∷ buf) o b bs h l =
    let n : length (take o (to_bits 8 x)) ≡ o = Seq.length-take-le o (to_bits 8 x) (omega (arith, length-to_bits 8 x)) in
    put-again x buf (take o (to_bits 8 x)) o b bs h refl n ∙ ap (λ (A : List Bool). put (x ∷ buf) 0 (A ++ b ∷ bs)) (sym (first-bits x buf o h))

-- ---- the whole

bytes_take : (n : ℕ) (s : List ℕ) → ((j : ℕ) → get_or s j 0 < 256) → (j : ℕ) → get_or (take n s) j 0 < 256
bytes_take zero s h j = omega arith
bytes_take (suc n) [] h j = omega arith
bytes_take (suc n) (x ∷ s) h zero = h 0
bytes_take (suc n) (x ∷ s) h (suc j) = bytes_take n s (λ j. h (suc j)) j

bytes_drop : (n : ℕ) (s : List ℕ) → ((j : ℕ) → get_or s j 0 < 256) → (j : ℕ) → get_or (drop n s) j 0 < 256
bytes_drop n s h j = rw (Seq.get_or-drop n s j 0) (h (n + j))

some_bits : (n v : ℕ) → 0 < n → (b : Bool) × (bs : List Bool) × (to_bits n v ≡ b ∷ bs)
unfolding to_bits
some_bits zero v h = absurd (omega arith)
some_bits (suc n) v h = (odd (v / 2 ^ n), to_bits n v, refl)

module _ (buf : List ℕ) (i o n z k v w r : ℕ) (bytes : (j : ℕ) → get_or buf j 0 < 256) (room : i + 8 ≤ length buf) (few : o < 8) (some : 0 < n) (low : v < 2 ^ n)
    (whole : o + (n + (z + k)) ≡ 64) (c : ℕ) (kept : k ≡ 8 * c) (fill : z < 8) (old : w ≡ num 64 (drop (8 * i) (bits_of buf)))
    (is : r ≡ w / 2 ^ (n + (z + k)) * 2 ^ (n + (z + k)) + (v * 2 ^ (z + k) + w % 2 ^ k)) where
  abbrev B : List ℕ
  B = drop i buf

  abbrev eight : List Bool
  eight = bits_of (take 8 B)

  long : 8 ≤ length B
  long = omega (arith, length-drop i buf)

  eight-long : length eight ≡ 64
  eight-long = omega (arith, length-bits_of (take 8 B), Seq.length-take-le 8 B long)

  parts : B ≡ take 8 B ++ drop 8 B
  parts = sym (take-append-drop 8 B)

  B-bits : take 64 (bits_of B) ≡ eight
  B-bits = ap (λ (s : List ℕ). take 64 (bits_of s)) parts ∙ ap (take 64) (bits_of-append (take 8 B) (drop 8 B)) ∙ Seq.take_at eight (bits_of (drop 8 B)) 64 eight-long

  -- the bits of the old number
  w-bits : to_bits 64 w ≡ eight
  w-bits =
      ap (to_bits 64) (old ∙ ap (num 64) (drop-bits_of i buf))
      ∙ to_bits-num 64 (bits_of B)
      ∙ pad-take 64 (bits_of B) (omega (arith, length-bits_of B, long))
      ∙ B-bits

  -- its first bits and its last ones
  w-first : to_bits o (w / 2 ^ (n + (z + k))) ≡ take o (bits_of B)
  w-first =
      let q = n + (z + k) in
      sym (Seq.take_at (to_bits o (w / 2 ^ q)) (to_bits q w) o (length-to_bits o (w / 2 ^ q)))
      ∙ ap (take o) (sym (to_bits-split o q w) ∙ ap (λ (j : ℕ). to_bits j w) whole ∙ w-bits ∙ sym B-bits)
      ∙ Seq.take-take o 64 (bits_of B) (omega arith)

  w-last : to_bits k (w % 2 ^ k) ≡ bits_of (drop (8 - c) (take 8 B))
  w-last =
      let e : 8 * (8 - c) + k ≡ 64 = omega arith in
      let a = to_bits (8 * (8 - c)) (w / 2 ^ k) in
      sym (to_bits-low k (w / 2 ^ k) (w % 2 ^ k) (mod-lt w (Pow.pow_pos k)))
      ∙ ap (to_bits k) (Pow.split w k)
      ∙ sym (Seq.drop_at a (to_bits k w) (8 * (8 - c)) (length-to_bits (8 * (8 - c)) (w / 2 ^ k)))
      ∙ ap (drop (8 * (8 - c))) (sym (to_bits-split (8 * (8 - c)) k w) ∙ ap (λ (j : ℕ). to_bits j w) e ∙ w-bits)
      ∙ drop-bits_of (8 - c) (take 8 B)

  -- the bits up to the end of the field
  abbrev X : List Bool
  X = to_bits o (w / 2 ^ (n + (z + k))) ++ to_bits n v

  X-long : length X ≡ o + n
  X-long = simp (length-append, length-to_bits)

  X-size : size (length X) ≡ 8 - c
  X-size = ap size X-long ∙ omega arith

  r-bits : to_bits 64 r ≡ (X ++ to_bits z 0) ++ to_bits k (w % 2 ^ k)
  r-bits =
      ap₂ to_bits (sym whole) is
      ∙ merged-bits o n z k (w / 2 ^ (n + (z + k))) v (w % 2 ^ k) low (mod-lt w (Pow.pow_pos k))
      ∙ sym (append_assoc (to_bits o (w / 2 ^ (n + (z + k)))) (to_bits n v) (to_bits z 0 ++ to_bits k (w % 2 ^ k)))
      ∙ sym (append_assoc X (to_bits z 0) (to_bits k (w % 2 ^ k)))

  -- the eight bytes
  r-bytes : pack_to 8 (to_bits 64 r) ≡ pack_to (8 - c) X ++ drop (8 - c) (take 8 B)
  r-bytes =
      let e : 8 ≡ (8 - c) + c = omega arith in
      let t = drop (8 - c) (take 8 B) in
      let l : length (X ++ to_bits z 0) ≡ 8 * (8 - c) = rw (length-append X (to_bits z 0), X-long, length-to_bits z 0) (omega arith) in
      let s : length t ≡ c = omega (arith, length-drop (8 - c) (take 8 B), Seq.length-take-le 8 B long) in
      ap₂ pack_to e r-bits
      ∙ pack_to-append (8 - c) c (X ++ to_bits z 0) (to_bits k (w % 2 ^ k)) l
      ∙ ap₂ (λ (a b : List ℕ). a ++ b) (pack_to-zeros (8 - c) z X)
      (ap₂ pack_to (sym s) (w-last ∙ sym (append-nil (bits_of t))) ∙ pack_to-bits_of t [] (bytes_drop (8 - c) (take 8 B) (bytes_take 8 B (bytes_drop i buf bytes))))

  -- what is written is the field alone
  field-bytes : put B o (to_bits n v) ≡ pack_to (8 - c) X ++ drop (8 - c) B
  unfolding pack
  field-bytes =
      let f = some_bits n v some in
      ap (put B o) f.2
      ∙ put-inside B o f.0 f.1 few (omega (arith, long))
      ∙ ap₂ (λ (a b : List Bool). put B 0 (a ++ b)) (sym w-first) (sym f.2)
      ∙ put-pack B X (omega (arith, X-size, long))
      ∙ ap (λ (j : ℕ). pack_to j X ++ drop j B) X-size

  eight-bytes : put B 0 (to_bits 64 r) ≡ pack_to (8 - c) X ++ drop (8 - c) B
  unfolding pack
  eight-bytes =
      let l : size (length (to_bits 64 r)) ≡ 8 = ap size (length-to_bits 64 r) in
      put-pack B (to_bits 64 r) (omega (arith, l, long))
      ∙ ap (λ (j : ℕ). pack_to j (to_bits 64 r) ++ drop j B) l
      ∙ ap (λ (a : List ℕ). a ++ drop 8 B) r-bytes
      ∙ append_assoc (pack_to (8 - c) X) (drop (8 - c) (take 8 B)) (drop 8 B)
      ∙ ap (λ (a : List ℕ). pack_to (8 - c) X ++ a)
      (sym (Seq.drop-append-le (8 - c) (take 8 B) (drop 8 B) (omega (arith, Seq.length-take-le 8 B long))) ∙ ap (drop (8 - c)) (sym parts))

  pub put-merged : put buf (8 * i) (to_bits 64 r) ≡ put buf (8 * i + o) (to_bits n v)
  put-merged =
      let e : 8 * i ≡ 8 * i + 0 = omega arith in
      ap (λ (p : ℕ). put buf p (to_bits 64 r)) e
      ∙ put-over i 0 buf (to_bits 64 r) (omega (arith, room))
      ∙ ap (λ (s : List ℕ). take i buf ++ s) (eight-bytes ∙ sym field-bytes)
      ∙ sym (put-over i o buf (to_bits n v) (omega (arith, room)))

-- eight bytes with a field in them are written where the field is
pub put-wide-is : (buf : List ℕ) (at n v w r : ℕ) → ((j : ℕ) → get_or buf j 0 < 256) → at / 8 + 8 ≤ length buf → 0 < n → n ≤ 56 → v < 2 ^ n
    → w ≡ num 64 (drop (8 * (at / 8)) (bits_of buf)) → Merged w (at % 8) n v r → put buf (8 * (at / 8)) (to_bits 64 r) ≡ put buf at (to_bits n v)
put-wide-is buf at n v w r bytes room some most low old m =
    let o = at % 8 in
    let k = (64 - o - n) / 8 * 8 in
    let z = 64 - o - n - k in
    let e : 8 * (at / 8) + o ≡ at = omega arith in
    let p : 64 - o ≡ n + (z + k) = omega arith in
    let q : 64 - o - n ≡ z + k = omega arith in
    let is : r ≡ w / 2 ^ (n + (z + k)) * 2 ^ (n + (z + k)) + (v * 2 ^ (z + k) + w % 2 ^ k) =
    m.is ∙ ap₂ (λ (x y : ℕ). w / 2 ^ x * 2 ^ x + (v * 2 ^ y + w % 2 ^ k)) p q in
    put-merged buf (at / 8) o n z k v w r bytes room (omega arith) some low (omega arith) ((64 - o - n) / 8) (omega arith) (omega arith) old is
    ∙ ap (λ (p : ℕ). put buf p (to_bits n v)) e
