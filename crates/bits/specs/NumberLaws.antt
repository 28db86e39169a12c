-- Laws of bits and numbers.
use Rattle.std.specs.Prelude.{Bool, true, false, List, [], ◌∷◌, ◌++◌, ◌≡◌, refl, ℕ, zero, suc, ◌+◌, ◌*◌, ◌-◌, ◌/◌, ◌%◌, ◌^◌, ◌≤◌, ◌<◌, eqb, length, get_or, take, drop, replicate}
use Rattle.std.proofs.Common.{append_assoc, sym, ap, ◌∙◌, mod-lt, add_assoc, add_comm, add-zero, zero-add, add-suc, suc-add, mul_assoc, add-mul, one-mul, zero-mul, add-one, one-add, arith, length-append}
use Rattle.std.proofs.Math.Nat.{mod-one, zero-div, pow-succ', mod-mod, sub-zero, suc-sub-suc}
use Rattle.std.proofs.Math.Arith.{digits_lt}
use Rattle.std.proofs.Math.Pow
use Rattle.std.proofs.Math.Seq
use Rattle.definitions.specs.Bits.{bit, odd, to_bits, bits_of, num, pack_to, size, pack}

-- the first n bits; past the end of the list they are 0
unfoldable pub pad : ℕ → List Bool → List Bool
pad zero bs = []
pad (suc n) [] = false ∷ pad n []
pad (suc n) (b ∷ bs) = b ∷ pad n bs

-- ---- bits and numbers
pub bit-lt : (b : Bool) → bit b < 2
bit-lt true = omega arith
bit-lt false = omega arith

pub bit-odd : (v : ℕ) → bit (odd v) ≡ v % 2
unfolding odd
bit-odd v = go (v % 2) (mod-lt v (omega arith))
  where
    go : (r : ℕ) → r < 2 → bit (eqb r 1) ≡ r
    go zero h = refl
    go (suc zero) h = refl
    go (suc (suc r)) h = absurd (omega arith)

pub odd-bit : (b : Bool) → odd (bit b) ≡ b
unfolding odd
odd-bit true = refl
odd-bit false = refl

-- the parity goes by the last bit
pub odd-mod : (v : ℕ) → odd (v % 2) ≡ odd v
unfolding odd
odd-mod v = ap (λ (r : ℕ). eqb r 1) (mod-mod v 2)

pub length-to_bits : (n v : ℕ) → length (to_bits n v) ≡ n
unfolding to_bits
length-to_bits zero v = refl
length-to_bits (suc n) v = ap suc (length-to_bits n v)

-- a number of n bits is below 2 ^ n
pub num-lt : (n : ℕ) (bs : List Bool) → num n bs < 2 ^ n
unfolding num
num-lt zero bs = omega arith
num-lt (suc n) [] = Pow.pow_pos (suc n)
num-lt (suc n) (b ∷ bs) = rw (pow-succ' 2 n) (digits_lt (bit-lt b) (num-lt n bs))

-- what was written is read
pub num-to_bits : (n v : ℕ) (bs : List Bool) → num n (to_bits n v ++ bs) ≡ v % 2 ^ n
unfolding num to_bits
num-to_bits zero v bs = sym (mod-one v)
num-to_bits (suc n) v bs = rw (bit-odd, num-to_bits n v bs, ← one-add n) (sym (Pow.mod-pow-add v 1 n))

pub num-nil : (n : ℕ) → num n [] ≡ 0
unfolding num
num-nil zero = refl
num-nil (suc n) = refl

-- the first a bits, and the r behind them
pub num-split : (a r : ℕ) (bs : List Bool) → num (a + r) bs ≡ num a bs * 2 ^ r + num r (drop a bs)
unfolding num
num-split zero r bs = simp (zero-add, zero-mul)
num-split (suc a) r [] = simp (suc-add, num-nil, zero-mul, zero-add)
num-split (suc a) r (b ∷ bs) =
    rw (suc-add, num-split a r bs, Pow.pow-add 2 a r, add-mul, mul_assoc, add_assoc)

-- the n bits behind o bits, out of a number that holds k more
pub num-window : (o n k : ℕ) (bs : List Bool) → num (o + (n + k)) bs / 2 ^ k % 2 ^ n ≡ num n (drop o bs)
num-window o n k bs =
    rw (
      num-split o (n + k) bs,
      num-split n k (drop o bs),
      Pow.pow-add 2 n k,
      ← mul_assoc,
      ← add_assoc,
      ← add-mul,
      Pow.high (num o bs * 2 ^ n + num n (drop o bs)) k (num-lt k (drop n (drop o bs))),
    )
    (Pow.low (num o bs) n (num-lt n (drop o bs)))

-- only the first n bits count
pub num-prefix : (n : ℕ) (xs ys : List Bool) → n ≤ length xs → num n (xs ++ ys) ≡ num n xs
unfolding num
num-prefix zero xs ys h = refl
num-prefix (suc n) [] ys h = absurd (omega arith)
num-prefix (suc n) (x ∷ xs) ys h = ap (λ (m : ℕ). bit x * 2 ^ n + m) (num-prefix n xs ys (omega arith))

pub to_bits-split : (o r v : ℕ) → to_bits (o + r) v ≡ to_bits o (v / 2 ^ r) ++ to_bits r v
unfolding to_bits
to_bits-split zero r v = rw zero-add refl
to_bits-split (suc o) r v = rw (suc-add, to_bits-split o r v, Pow.shr-shr v r o, add_comm r o)

odd_low : (k y : ℕ) → odd (y % 2 ^ suc k) ≡ odd y
unfolding odd
odd_low k y = rw (← add-one k) (ap (λ (r : ℕ). eqb r 1) (Pow.mod-mod-pow y k 1))

-- the last n bits go by the remainder
to_bits-mod : (n k v : ℕ) → to_bits n (v % 2 ^ (k + n)) ≡ to_bits n v
unfolding to_bits
to_bits-mod zero k v = refl
to_bits-mod (suc n) k v =
    rw (add-suc k n, ← suc-add k n, Pow.field v (suc k) n, odd_low, to_bits-mod n (suc k) v)

pub to_bits-low : (n h v : ℕ) → v < 2 ^ n → to_bits n (h * 2 ^ n + v) ≡ to_bits n v
to_bits-low n h v l =
    sym (to_bits-mod n 0 (h * 2 ^ n + v)) ∙ ap (to_bits n) (rw (zero-add n) (Pow.low h n l))

-- the number's bits are the list's
pub to_bits-num : (n : ℕ) (bs : List Bool) → to_bits n (num n bs) ≡ pad n bs
unfolding to_bits num pad odd
to_bits-num zero bs = refl
to_bits-num (suc n) [] = rw (zero-div (2 ^ n), ← num-nil n, to_bits-num n [])
to_bits-num (suc n) (b ∷ bs) =
    rw (to_bits-low n (bit b) (num n bs) (num-lt n bs), to_bits-num n bs, Pow.high (bit b) n (num-lt n bs)) (ap (λ (x : Bool). x ∷ pad n bs) (odd-bit b))

-- ---- lists of bytes
pub length-bits_of : (s : List ℕ) → length (bits_of s) ≡ 8 * length s
unfolding bits_of
length-bits_of [] = refl
length-bits_of (x ∷ s) = rw (length-append, length-to_bits, length-bits_of s) (omega arith)

pub bits_of-append : (s t : List ℕ) → bits_of (s ++ t) ≡ bits_of s ++ bits_of t
unfolding bits_of
bits_of-append [] t = refl
bits_of-append (x ∷ s) t = rw (bits_of-append s t, append_assoc (to_bits 8 x) (bits_of s) (bits_of t))

-- past whole bytes
pub drop-bits_of : (i : ℕ) (s : List ℕ) → drop (8 * i) (bits_of s) ≡ bits_of (drop i s)
unfolding bits_of
drop-bits_of zero s = refl
drop-bits_of (suc i) [] = Seq.drop-nil (8 * suc i)
drop-bits_of (suc i) (x ∷ s) = rw (eight x i, Seq.drop-append-add (to_bits 8 x)) (drop-bits_of i s)
  where
    eight : (x i : ℕ) → 8 * suc i ≡ length (to_bits 8 x) + 8 * i
    eight x i = omega (arith, length-to_bits 8 x)

-- the first byte, and the bits behind it
pub num-byte : (r : ℕ) (s : List ℕ) → num (8 + r) (bits_of s) ≡ get_or s 0 0 % 256 * 2 ^ r + num r (bits_of (drop 1 s))
unfolding bits_of
num-byte r [] = simp (num-nil, zero-mul)
num-byte r (x ∷ s) = rw (num-split 8 r, num-to_bits, Seq.drop_at (to_bits 8 x) (bits_of s) 8 (length-to_bits 8 x))

-- three bytes as one number
pub num-three : (s : List ℕ) → num 24 (bits_of s) ≡ get_or s 0 0 % 256 * 65536 + get_or s 1 0 % 256 * 256 + get_or s 2 0 % 256
unfolding num
num-three s =
    let t = drop 1 s in
    omega (
      arith,
      num-byte 16 s,
      num-byte 8 t,
      num-byte 0 (drop 1 t),
      Seq.get_or-drop 1 s 0 0,
      Seq.get_or-drop 1 t 0 0,
      Seq.get_or-drop 1 s 1 0,
    )

-- the same from byte b on, of bytes that were read
pub num-three-at : (s : List ℕ) (b x y z : ℕ) → (x ≡ get_or s b 0) × (x < 256) → (y ≡ get_or s (b + 1) 0) × (y < 256) →
    (z ≡ get_or s (b + 2) 0) × (z < 256) → x * 65536 + y * 256 + z ≡ num 24 (bits_of (drop b s))
num-three-at s b x y z hx hy hz =
    omega (
      arith,
      num-three (drop b s),
      Seq.get_or-drop b s 0 0,
      Seq.get_or-drop b s 1 0,
      Seq.get_or-drop b s 2 0,
      ap (λ (i : ℕ). get_or s i 0) (add-zero b),
    )

-- a field out of the three bytes that hold it
pub field_of : (s : List ℕ) (p n w : ℕ) → n ≤ 16 → w ≡ num 24 (bits_of (drop (p / 8) s)) →
    w / 2 ^ (24 - p % 8 - n) % 2 ^ n ≡ num n (drop p (bits_of s))
field_of s p n w h e =
    let o = p % 8 in
    let k = 24 - o - n in
    let t : 24 ≡ o + (n + k) = omega arith in
    let q : 8 * (p / 8) + o ≡ p = omega arith in
    let d : drop o (bits_of (drop (p / 8) s)) ≡ drop p (bits_of s) = rw (← drop-bits_of (p / 8) s, Seq.drop-drop, q) refl in
    rw (e ∙ ap (λ (m : ℕ). num m (bits_of (drop (p / 8) s))) t, num-window o n k, d)

-- ---- a shift of one
pub shl_one : (n : ℕ) → n ≤ 16 → 1 * 2 ^ n % 2 ^ 64 ≡ 2 ^ n
shl_one n h = Pow.shl_exact {a = 1} 1 n 64 (omega arith) (omega arith) ∙ one-mul (2 ^ n)

-- only the n bits count
pub num-take : (n : ℕ) (bs : List Bool) → num n (take n bs) ≡ num n bs
unfolding num
num-take zero bs = refl
num-take (suc n) [] = refl
num-take (suc n) (b ∷ bs) = ap (λ (m : ℕ). bit b * 2 ^ n + m) (num-take n bs)

-- ---- the bits of bytes that were packed

pub take-pad : (n : ℕ) (xs : List Bool) → length xs ≤ n → take (length xs) (pad n xs) ≡ xs
unfolding pad
take-pad zero [] h = refl
take-pad (suc n) [] h = refl
take-pad zero (x ∷ xs) h = absurd (omega arith)
take-pad (suc n) (x ∷ xs) h = ap (λ (l : List Bool). x ∷ l) (take-pad n xs (omega arith))

pub pad-take : (n : ℕ) (xs : List Bool) → n ≤ length xs → pad n xs ≡ take n xs
unfolding pad
pad-take zero xs h = refl
pad-take (suc n) [] h = absurd (omega arith)
pad-take (suc n) (x ∷ xs) h = ap (λ (l : List Bool). x ∷ l) (pad-take n xs (omega arith))

pub pad-add : (a b : ℕ) (xs : List Bool) → pad (a + b) xs ≡ pad a xs ++ pad b (drop a xs)
unfolding pad
pad-add zero b xs = rw zero-add
pad-add (suc a) b [] = rw (suc-add, pad-add a b [], Seq.drop-nil {A = Bool} a)
pad-add (suc a) b (x ∷ xs) = rw (suc-add, pad-add a b xs)

pub pad-fill : (n : ℕ) (xs : List Bool) → length xs ≤ n → pad n xs ≡ xs ++ replicate (n - length xs) false
unfolding pad
pad-fill zero [] h = refl
pad-fill (suc n) [] h = rw (pad-fill n [] (omega arith), sub-zero n, sub-zero (suc n))
pad-fill zero (x ∷ xs) h = absurd (omega arith)
pad-fill (suc n) (x ∷ xs) h = rw (pad-fill n xs (omega arith), suc-sub-suc)

pub bits_of-pack_to : (k : ℕ) (bs : List Bool) → bits_of (pack_to k bs) ≡ pad (8 * k) bs
unfolding bits_of pack_to pad
bits_of-pack_to zero bs = refl
bits_of-pack_to (suc k) bs =
    let e : 8 * suc k ≡ 8 + 8 * k = omega arith in
    rw (e, pad-add 8 (8 * k) bs, bits_of-pack_to k (drop 8 bs), to_bits-num 8 bs)

pub length-pack_to : (k : ℕ) (bs : List Bool) → length (pack_to k bs) ≡ k
unfolding pack_to
length-pack_to zero bs = refl
length-pack_to (suc k) bs = ap suc (length-pack_to k (drop 8 bs))

-- the bits of packed bytes: those packed, and zeros
pub bits_of-pack : (bs : List Bool) → bits_of (pack bs) ≡ bs ++ replicate (8 * size (length bs) - length bs) false
unfolding pack
bits_of-pack bs = bits_of-pack_to (size (length bs)) bs ∙ pad-fill (8 * size (length bs)) bs (omega arith)
