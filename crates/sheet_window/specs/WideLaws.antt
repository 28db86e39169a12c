-- Laws of a window of eight bytes.
use Rattle.std.specs.Prelude.{List, [], ◌∷◌, ◌≡◌, refl, ℕ, ◌+◌, ◌*◌, ◌-◌, ◌/◌, ◌%◌, ◌^◌, ◌≤◌, ◌<◌, drop, get_or}
use Rattle.std.proofs.Common.{sym, ap, ◌∙◌, add_assoc, add-mul, mul_assoc, arith}
use Rattle.std.specs.Int.{w64, from_be_bytes}
use Rattle.std.proofs.Math.Pow
use Rattle.std.proofs.Math.Seq
use Rattle.definitions.specs.Bits.{bits_of, num}
use Rattle.bits.specs.NumberLaws.{num-lt, num-split, drop-bits_of}
use Rattle.sheet_window.specs.WindowLaws.{num-four-at}

-- two numbers of four bytes are one of eight
pub num-eight-at : (s : List ℕ) (b x y : ℕ) → x ≡ num 32 (bits_of (drop b s)) → y ≡ num 32 (bits_of (drop (b + 4) s)) → x * 4294967296 + y ≡ num 64 (bits_of (drop b s))
num-eight-at s b x y e f =
    let d : drop 32 (bits_of (drop b s)) ≡ bits_of (drop (b + 4) s) = drop-bits_of 4 (drop b s) ∙ ap bits_of (Seq.drop-drop 4 b s) in
    sym (num-split 32 32 (bits_of (drop b s)) ∙ rw (d, ← e, ← f) refl)

-- eight bytes that were read are one number
pub num-eight-of : (s : List ℕ) (b x y z w x' y' z' w' : ℕ) → (x ≡ get_or s b 0) × (x < 256) → (y ≡ get_or s (b + 1) 0) × (y < 256) →
    (z ≡ get_or s (b + 2) 0) × (z < 256) → (w ≡ get_or s (b + 3) 0) × (w < 256) → (x' ≡ get_or s (b + 4) 0) × (x' < 256) →
    (y' ≡ get_or s (b + 5) 0) × (y' < 256) → (z' ≡ get_or s (b + 6) 0) × (z' < 256) → (w' ≡ get_or s (b + 7) 0) × (w' < 256) →
    from_be_bytes w64 (x ∷ y ∷ z ∷ w ∷ x' ∷ y' ∷ z' ∷ w' ∷ []) ≡ num 64 (bits_of (drop b s))
num-eight-of s b x y z w x' y' z' w' hx hy hz hw hx' hy' hz' hw' =
    let at : (j : ℕ) → get_or s (b + (4 + j)) 0 ≡ get_or s (b + 4 + j) 0 = λ j. ap (λ (k : ℕ). get_or s k 0) (sym (add_assoc b 4 j)) in
    let low = num-four-at s (b + 4) x' y' z' w' hx' (hy'.0 ∙ at 1, hy'.1) (hz'.0 ∙ at 2, hz'.1) (hw'.0 ∙ at 3, hw'.1) in
    omega (arith, num-eight-at s b _ _ (num-four-at s b x y z w hx hy hz hw) low)

-- a number shifted to the left and back loses its first o of 64 bits and all behind the next n
shifted : (o n k a b c : ℕ) → o + (n + k) ≡ 64 → b < 2 ^ n → c < 2 ^ k → (a * 2 ^ (n + k) + (b * 2 ^ k + c)) * 2 ^ o % 2 ^ 64 / 2 ^ (64 - n) ≡ b
shifted o n k a b c e h l =
    let m : 64 - n ≡ o + k = omega arith in
    let t : 64 ≡ (n + k) + o = omega arith in
    let r : b * 2 ^ k + c < 2 ^ (n + k) = rw (Pow.pow-add 2 n k) (lib.Arith.digits_lt h l) in
    let u : (a * 2 ^ (n + k) + (b * 2 ^ k + c)) * 2 ^ o ≡ a * 2 ^ 64 + (b * 2 ^ k + c) * 2 ^ o =
    add-mul (a * 2 ^ (n + k)) (b * 2 ^ k + c) (2 ^ o) ∙ ap (λ (x : ℕ). x + (b * 2 ^ k + c) * 2 ^ o) (mul_assoc a (2 ^ (n + k)) (2 ^ o) ∙ ap (λ (x : ℕ). a * x) (sym (Pow.pow-add 2 (n + k) o) ∙ ap (λ (x : ℕ). 2 ^ x) (sym t))) in
    let v : (b * 2 ^ k + c) * 2 ^ o < 2 ^ 64 = rw (ap (λ (x : ℕ). 2 ^ x) t) (Pow.shl_lt (n + k) o r) in
    ap (λ (x : ℕ). x % 2 ^ 64 / 2 ^ (64 - n)) u
    ∙ ap (λ (x : ℕ). x / 2 ^ (64 - n)) (Pow.low a 64 v)
    ∙ ap (λ (x : ℕ). (b * 2 ^ k + c) * 2 ^ o / 2 ^ x) m
    ∙ sym (Pow.shr-shr ((b * 2 ^ k + c) * 2 ^ o) o k)
    ∙ ap (λ (x : ℕ). x / 2 ^ k) (Pow.shl-shr (b * 2 ^ k + c) o)
    ∙ Pow.high b k l

pub wide_of : (s : List ℕ) (p n w : ℕ) → n ≤ 57 → w ≡ num 64 (bits_of (drop (p / 8) s)) → w * 2 ^ (p % 8) % 2 ^ 64 / 2 ^ (64 - n) ≡ num n (drop p (bits_of s))
wide_of s p n w h e =
    let o = p % 8 in
    let k = 64 - o - n in
    let B = bits_of (drop (p / 8) s) in
    let t : 64 ≡ o + (n + k) = omega arith in
    let q : 8 * (p / 8) + o ≡ p = omega arith in
    let d : drop o B ≡ drop p (bits_of s) = rw (← drop-bits_of (p / 8) s, Seq.drop-drop, q) refl in
    let x : w ≡ num o B * 2 ^ (n + k) + (num n (drop o B) * 2 ^ k + num k (drop n (drop o B))) =
    e ∙ ap (λ (m : ℕ). num m B) t ∙ num-split o (n + k) B ∙ ap (λ (m : ℕ). num o B * 2 ^ (n + k) + m) (num-split n k (drop o B)) in
    ap (λ (m : ℕ). m * 2 ^ o % 2 ^ 64 / 2 ^ (64 - n)) x
    ∙ shifted o n k (num o B) (num n (drop o B)) (num k (drop n (drop o B))) (sym t) (num-lt n (drop o B)) (num-lt k (drop n (drop o B)))
    ∙ ap (num n) d
