-- What stands in a row that is made of two.
use Rattle.std.specs.Prelude.{Bool, true, false, ◌&&◌, ◌||◌, not, ◌≡◌, refl, ℕ, zero, suc, ◌+◌, ◌*◌, ◌/◌, ◌%◌, ◌^◌, ◌<◌, ◌≤◌, min, max}
use Rattle.std.proofs.Common.{sym, ap, ◌∙◌, arith}
use native.Mathlib.Nat.{not-suc-le-zero, le_of_suc-le-suc, pow-suc}
use borrow.Author.Tests.{eq-eqb, ne_eqb, eqb-true, eqb-false}
use lib.Bits.{bit_and, bit_or, bit_xor, differ, and_step, or_step, xor_step, and_le_l}
use lib.Dec.{eqb}
use Rattle.lists.specs.Tests.{by, never, and_left, and_right, eqb-suc}
use Rattle.rows.specs.declared.Row.{Row}
use Rattle.rows.specs.Rows.{common, without, either, none, bit, has_bit, limb, has, lone, single}

bit-lt : (n k : ℕ) → bit n k < 2
bit-lt n zero = omega arith
bit-lt n (suc k) = bit-lt (n / 2) k

bit-zero : (k : ℕ) → bit 0 k ≡ 0
bit-zero zero = refl
bit-zero (suc k) = bit-zero k

bit-and : (a b k : ℕ) → bit (bit_and a b) k ≡ min (bit a k) (bit b k)
bit-and a b zero = omega (arith, and_step a b)
bit-and a b (suc k) = let e : bit_and a b / 2 ≡ bit_and (a / 2) (b / 2) = omega (arith, and_step a b) in rw e (bit-and (a / 2) (b / 2) k)

bit-or : (a b k : ℕ) → bit (bit_or a b) k ≡ max (bit a k) (bit b k)
bit-or a b zero = omega (arith, or_step a b)
bit-or a b (suc k) = let e : bit_or a b / 2 ≡ bit_or (a / 2) (b / 2) = omega (arith, or_step a b) in rw e (bit-or (a / 2) (b / 2) k)

differ-lt : (x y : ℕ) → x < 2 → y < 2 → differ x y < 2
differ-lt zero y p q = q
differ-lt (suc x) zero p q = p
differ-lt (suc x) (suc y) p q = differ-lt x y (omega arith) (omega arith)

bit-xor : (a b k : ℕ) → bit (bit_xor a b) k ≡ differ (bit a k) (bit b k)
bit-xor a b zero = omega (arith, xor_step a b, differ-lt (a % 2) (b % 2) (omega arith) (omega arith))
bit-xor a b (suc k) =
    let e : bit_xor a b / 2 ≡ bit_xor (a / 2) (b / 2) = omega (arith, xor_step a b, differ-lt (a % 2) (b % 2) (omega arith) (omega arith)) in
    rw e (bit-xor (a / 2) (b / 2) k)

-- a digit is 0 or 1
digit : {C : Type 0} (x : ℕ) → x < 2 → (x ≡ 0 → C) → (x ≡ 1 → C) → C
digit zero h f g = f refl
digit (suc zero) h f g = g refl
digit (suc (suc x)) h f g = absurd (not-suc-le-zero (le_of_suc-le-suc (le_of_suc-le-suc h)))

one-and : (a b k : ℕ) → eqb (bit (bit_and a b) k) 1 ≡ (eqb (bit a k) 1 && eqb (bit b k) 1)
one-and a b k =
    rw (bit-and a b k)
    (digit (bit a k) (bit-lt a k)
    (λ p. digit (bit b k) (bit-lt b k) (λ q. rw (p, q)) (λ q. rw (p, q)))
    (λ p. digit (bit b k) (bit-lt b k) (λ q. rw (p, q)) (λ q. rw (p, q))))

one-or : (a b k : ℕ) → eqb (bit (bit_or a b) k) 1 ≡ (eqb (bit a k) 1 || eqb (bit b k) 1)
one-or a b k =
    rw (bit-or a b k)
    (digit (bit a k) (bit-lt a k)
    (λ p. digit (bit b k) (bit-lt b k) (λ q. rw (p, q)) (λ q. rw (p, q)))
    (λ p. digit (bit b k) (bit-lt b k) (λ q. rw (p, q)) (λ q. rw (p, q))))

one_less : (a b k : ℕ) → eqb (bit (bit_xor a (bit_and a b)) k) 1 ≡ (eqb (bit a k) 1 && not (eqb (bit b k) 1))
one_less a b k =
    rw (bit-xor a (bit_and a b) k, bit-and a b k)
    (digit (bit a k) (bit-lt a k)
    (λ p. digit (bit b k) (bit-lt b k) (λ q. rw (p, q)) (λ q. rw (p, q)))
    (λ p. digit (bit b k) (bit-lt b k) (λ q. rw (p, q)) (λ q. rw (p, q))))

pub bit-either : (a b k : ℕ) → has_bit (bit_or a b) k ≡ (has_bit a k || has_bit b k)
unfolding has_bit
bit-either a b k = one-or a b k

pub bit-without : (a b k : ℕ) → has_bit (bit_xor a (bit_and a b)) k ≡ (has_bit a k && not (has_bit b k))
unfolding has_bit
bit-without a b k = one_less a b k

-- by the four limbs
limb-common : (x y : Row) (j : ℕ) → limb (common x y) j ≡ bit_and (limb x j) (limb y j)
unfolding common
limb-common x y zero = refl
limb-common x y (suc zero) = refl
limb-common x y (suc (suc zero)) = refl
limb-common x y (suc (suc (suc zero))) = refl
limb-common x y (suc (suc (suc (suc j)))) = refl

limb-without : (x y : Row) (j : ℕ) → limb (without x y) j ≡ bit_xor (limb x j) (bit_and (limb x j) (limb y j))
unfolding without
limb-without x y zero = refl
limb-without x y (suc zero) = refl
limb-without x y (suc (suc zero)) = refl
limb-without x y (suc (suc (suc zero))) = refl
limb-without x y (suc (suc (suc (suc j)))) = refl

limb-either : (x y : Row) (j : ℕ) → limb (either x y) j ≡ bit_or (limb x j) (limb y j)
unfolding either
limb-either x y zero = refl
limb-either x y (suc zero) = refl
limb-either x y (suc (suc zero)) = refl
limb-either x y (suc (suc (suc zero))) = refl
limb-either x y (suc (suc (suc (suc j)))) = refl

-- ---- what stands in a row of two rows

pub has-common : (x y : Row) (k : ℕ) → has (common x y) k ≡ (has x k && has y k)
unfolding has
has-common x y k = rw (limb-common x y (k / 64)) (one-and (limb x (k / 64)) (limb y (k / 64)) (k % 64))

pub has-without : (x y : Row) (k : ℕ) → has (without x y) k ≡ (has x k && not (has y k))
unfolding has
has-without x y k = rw (limb-without x y (k / 64)) (one_less (limb x (k / 64)) (limb y (k / 64)) (k % 64))

pub has_either : (x y : Row) (k : ℕ) → has (either x y) k ≡ (has x k || has y k)
unfolding has
has_either x y k = rw (limb-either x y (k / 64)) (one-or (limb x (k / 64)) (limb y (k / 64)) (k % 64))

or_parts : (a b : ℕ) → bit_or a b ≡ 0 → (a ≡ 0) × (b ≡ 0)
or_parts a b e = (omega (arith, lib.Bits.or_add_and a b, lib.Bits.and_le_r a b, lib.Bits.and_le_l a b, e), omega (arith, lib.Bits.or_add_and a b, lib.Bits.and_le_l a b, lib.Bits.and_le_r a b, e))

pub all-zero : (x : Row) → none x ≡ true → (j : ℕ) → limb x j ≡ 0
unfolding none
all-zero x e j =
    let p = or_parts (bit_or (bit_or x.a x.b) x.c) x.d (eqb-true _ _ e) in
    let q = or_parts (bit_or x.a x.b) x.c p.0 in
    let r = or_parts x.a x.b q.0 in
    pick x r.0 r.1 q.1 p.1 j
  where
    pick : (x : Row) → x.a ≡ 0 → x.b ≡ 0 → x.c ≡ 0 → x.d ≡ 0 → (j : ℕ) → limb x j ≡ 0
    pick x a b c d zero = a
    pick x a b c d (suc zero) = b
    pick x a b c d (suc (suc zero)) = c
    pick x a b c d (suc (suc (suc zero))) = d
    pick x a b c d (suc (suc (suc (suc j)))) = refl

pub has-none : (x : Row) (k : ℕ) → none x ≡ true → has x k ≡ false
unfolding has
has-none x k e = rw (all-zero x e (k / 64), bit-zero (k % 64))

-- ---- a row that is not empty has something

pub record Small (x : Row) : Type 0 where
  pub a : x.a < 2 ^ 64
  pub b : x.b < 2 ^ 64
  pub c : x.c < 2 ^ 64
  pub d : x.d < 2 ^ 64

pub record Bit (n j : ℕ) : Type 0 where
  pub at : ℕ
  pub below : at < j
  pub one : bit n at ≡ 1

some-bit : (j n : ℕ) → n < 2 ^ j → (n ≡ 0 → ⊥) → Bit n j
some-bit zero n h e = absurd (e (omega arith))
some-bit (suc j) n h e =
    digit (n % 2) (omega arith)
    (λ z. let s = some-bit j (n / 2) (omega (arith, pow-suc 2 j)) (λ q. e (omega arith)) in record { at = suc s.at; below = omega arith; one = s.one })
    (λ o. record { at = zero; below = omega arith; one = o })

pub record Some (x : Row) : Type 0 where
  pub at : ℕ
  pub there : has x at ≡ true

some_of : (x : Row) (j : ℕ) → limb x j < 2 ^ 64 → (limb x j ≡ 0 → ⊥) → j < 4 → Some x
unfolding has
some_of x j h e l =
    let s = some-bit 64 (limb x j) h e in
    let p : (j * 64 + s.at) / 64 ≡ j = omega arith in
    let q : (j * 64 + s.at) % 64 ≡ s.at = omega arith in
    record { at = j * 64 + s.at; there = rw (p, q, s.one) refl }

pub some-there : (x : Row) → Small x → none x ≡ false → Some x
unfolding none
some-there x s e =
    by (eqb x.a 0) (λ a. by (eqb x.b 0) (λ b. by (eqb x.c 0) (λ c. by (eqb x.d 0)
    (λ d. never {b = none x} (rw (eqb-true x.a 0 a, eqb-true x.b 0 b, eqb-true x.c 0 c, eqb-true x.d 0 d) refl) e)
    (λ d. some_of x 3 s.d (eqb-false _ _ d) (omega arith)))
    (λ c. some_of x 2 s.c (eqb-false _ _ c) (omega arith)))
    (λ b. some_of x 1 s.b (eqb-false _ _ b) (omega arith)))
    (λ a. some_of x 0 s.a (eqb-false _ _ a) (omega arith))

pub small-common : (x y : Row) → Small x → Small (common x y)
unfolding common
small-common x y s =
    record { a = omega (arith, s.a, and_le_l x.a y.a); b = omega (arith, s.b, and_le_l x.b y.b); c = omega (arith, s.c, and_le_l x.c y.c); d = omega (arith, s.d, and_le_l x.d y.d) }

less-lt : (a b : ℕ) → a < 2 ^ 64 → bit_xor a (bit_and a b) < 2 ^ 64
less-lt a b h = lib.Bits.xor_lt 64 a (bit_and a b) h (omega (arith, and_le_l a b))

pub small-without : (x y : Row) → Small x → Small (without x y)
unfolding without
small-without x y s = record { a = less-lt _ _ s.a; b = less-lt _ _ s.b; c = less-lt _ _ s.c; d = less-lt _ _ s.d }

-- ---- the row of one number

bit-pow : (j k : ℕ) → eqb (bit (2 ^ j) k) 1 ≡ eqb j k
bit-pow zero zero = refl
bit-pow zero (suc k) = rw (bit-zero k) (sym (ne_eqb 0 (suc k) (λ q. absurd (omega arith))))
bit-pow (suc j) zero = let e : 2 ^ suc j % 2 ≡ 0 = omega (arith, pow-suc 2 j) in rw e (sym (ne_eqb (suc j) 0 (λ q. absurd (omega arith))))
bit-pow (suc j) (suc k) = let e : 2 ^ suc j / 2 ≡ 2 ^ j = omega (arith, pow-suc 2 j) in rw e (bit-pow j k ∙ sym (eqb-suc j k))

-- a power of two has one bit, and zero has none
pub bit-one : (j k : ℕ) → has_bit (2 ^ j) k ≡ eqb j k
unfolding has_bit
bit-one j k = bit-pow j k

pub bit-none : (k : ℕ) → has_bit 0 k ≡ false
unfolding has_bit
bit-none k = rw (bit-zero k)

abbrev pick_n : Bool → ℕ → ℕ
pick_n true n = n
pick_n false n = 0

limb-lone : (i j n : ℕ) → i < 4 → limb (lone i n) j ≡ pick_n (eqb i j) n
limb-lone zero zero n h = refl
limb-lone zero (suc zero) n h = refl
limb-lone zero (suc (suc zero)) n h = refl
limb-lone zero (suc (suc (suc zero))) n h = refl
limb-lone zero (suc (suc (suc (suc j)))) n h = rw (ne_eqb 0 (suc (suc (suc (suc j)))) (λ q. absurd (omega arith))) refl
limb-lone (suc zero) zero n h = refl
limb-lone (suc zero) (suc zero) n h = refl
limb-lone (suc zero) (suc (suc zero)) n h = refl
limb-lone (suc zero) (suc (suc (suc zero))) n h = refl
limb-lone (suc zero) (suc (suc (suc (suc j)))) n h = rw (ne_eqb 1 (suc (suc (suc (suc j)))) (λ q. absurd (omega arith))) refl
limb-lone (suc (suc zero)) zero n h = refl
limb-lone (suc (suc zero)) (suc zero) n h = refl
limb-lone (suc (suc zero)) (suc (suc zero)) n h = refl
limb-lone (suc (suc zero)) (suc (suc (suc zero))) n h = refl
limb-lone (suc (suc zero)) (suc (suc (suc (suc j)))) n h = rw (ne_eqb 2 (suc (suc (suc (suc j)))) (λ q. absurd (omega arith))) refl
limb-lone (suc (suc (suc zero))) zero n h = refl
limb-lone (suc (suc (suc zero))) (suc zero) n h = refl
limb-lone (suc (suc (suc zero))) (suc (suc zero)) n h = refl
limb-lone (suc (suc (suc zero))) (suc (suc (suc zero))) n h = refl
limb-lone (suc (suc (suc zero))) (suc (suc (suc (suc j)))) n h = rw (ne_eqb 3 (suc (suc (suc (suc j)))) (λ q. absurd (omega arith))) refl
limb-lone (suc (suc (suc (suc i)))) j n h = absurd (omega arith)

-- w alone stands in it
pub has-single : (w k : ℕ) → w < 256 → has (single w) k ≡ eqb w k
unfolding has single
has-single w k h =
    rw (limb-lone (w / 64) (k / 64) (2 ^ (w % 64)) (omega arith))
    (by (eqb (w / 64) (k / 64))
    (λ e.
    let q : w / 64 ≡ k / 64 = eqb-true (w / 64) (k / 64) e in
    rw (e, bit-pow (w % 64) (k % 64))
    (by (eqb (w % 64) (k % 64))
    (λ f. let r : w % 64 ≡ k % 64 = eqb-true (w % 64) (k % 64) f in rw f (sym (eq-eqb w k (omega arith))))
    (λ f. rw f (sym (ne_eqb w k (λ z. eqb-false (w % 64) (k % 64) f (ap (λ (x : ℕ). x % 64) z)))))))
    (λ e. rw (e, bit-zero (k % 64)) (sym (ne_eqb w k (λ z. eqb-false (w / 64) (k / 64) e (ap (λ (x : ℕ). x / 64) z))))))

small-lone : (i n : ℕ) → n < 2 ^ 64 → Small (lone i n)
small-lone zero n h = record { a = h; b = omega arith; c = omega arith; d = omega arith }
small-lone (suc zero) n h = record { a = omega arith; b = h; c = omega arith; d = omega arith }
small-lone (suc (suc zero)) n h = record { a = omega arith; b = omega arith; c = h; d = omega arith }
small-lone (suc (suc (suc i))) n h = record { a = omega arith; b = omega arith; c = omega arith; d = h }

pub small-single : (w : ℕ) → Small (single w)
unfolding single
small-single w = small-lone (w / 64) (2 ^ (w % 64)) (lib.Pow.pow-lt {j = 64} (omega arith))

pub one_shifted : (j : ℕ) → j < 64 → 1 * 2 ^ j % 2 ^ 64 ≡ 2 ^ j
one_shifted j h = lib.Pow.shl_exact {a = 1} 1 j 64 (omega arith) (omega arith) ∙ native.Mathlib.Nat.one-mul (2 ^ j)

-- the bit that the code tests
pub bit_is : (n k : ℕ) → bit n k ≡ n / 2 ^ k % 2
bit_is n zero = rw (native.Mathlib.Nat.div-one n)
bit_is n (suc k) = bit_is (n / 2) k ∙ ap (λ (x : ℕ). x % 2) (native.Mathlib.Nat.div-div-eq-div-mul n 2 (2 ^ k) ∙ ap (λ (x : ℕ). n / x) (sym (native.Mathlib.Nat.pow-succ' 2 k)))

-- ---- rows of words, which are below 200

bit_high : (n k j : ℕ) → n < 2 ^ k → k ≤ j → bit n j ≡ 0
bit_high n k j h l =
    let z : n / 2 ^ j ≡ 0 = native.Mathlib.Nat.div-eq_of_lt (omega (arith, lib.Pow.pow_mono {i = k} {j = j} l)) in
    bit_is n j ∙ rw z

pub words-below : (x : Row) → x.d < 2 ^ 8 → (w : ℕ) → has x w ≡ true → w < 200
unfolding has
words-below x h w e =
    by (lib.Dec.ltb w 200)
    (λ t. borrow.Author.Tests.ltb-true w 200 t)
    (λ t.
    let g : 200 ≤ w = borrow.Author.Tests.ltb-false w 200 t in
    never e (rw (high (w / 64) (w % 64) (omega arith) (λ q. omega arith)) refl))
  where
    high : (i j : ℕ) → 3 ≤ i → (i ≡ 3 → 8 ≤ j) → bit (limb x i) j ≡ 0
    high zero j p q = absurd (omega arith)
    high (suc zero) j p q = absurd (omega arith)
    high (suc (suc zero)) j p q = absurd (omega arith)
    high (suc (suc (suc zero))) j p q = bit_high x.d 8 j h (q refl)
    high (suc (suc (suc (suc i)))) j p q = bit-zero j

-- two rows are equal if their parts are
pub rows-equal : (x y : Row) → x.a ≡ y.a → x.b ≡ y.b → x.c ≡ y.c → x.d ≡ y.d → x ≡ y
rows-equal x y p q r s =
    ap (λ (z : ℕ). record { a = z; b = x.b; c = x.c; d = x.d }) p
    ∙ ap (λ (z : ℕ). record { a = y.a; b = z; c = x.c; d = x.d }) q
    ∙ ap (λ (z : ℕ). record { a = y.a; b = y.b; c = z; d = x.d }) r
    ∙ ap (λ (z : ℕ). record { a = y.a; b = y.b; c = y.c; d = z }) s

-- what `==` tests
pub same_rows : (x y : Row) → (eqb x.a y.a && (eqb x.b y.b && (eqb x.c y.c && eqb x.d y.d))) ≡ true → x ≡ y
same_rows x y e =
    let f = and_right (eqb x.a y.a) (eqb x.b y.b && (eqb x.c y.c && eqb x.d y.d)) e in
    let g = and_right (eqb x.b y.b) (eqb x.c y.c && eqb x.d y.d) f in
    rows-equal x y
    (eqb-true x.a y.a (and_left (eqb x.a y.a) (eqb x.b y.b && (eqb x.c y.c && eqb x.d y.d)) e))
    (eqb-true x.b y.b (and_left (eqb x.b y.b) (eqb x.c y.c && eqb x.d y.d) f))
    (eqb-true x.c y.c (and_left (eqb x.c y.c) (eqb x.d y.d) g))
    (eqb-true x.d y.d (and_right (eqb x.c y.c) (eqb x.d y.d) g))

pub part-past : (x : Row) (j : ℕ) → 4 ≤ j → limb x j ≡ 0
part-past x zero h = absurd (omega arith)
part-past x (suc zero) h = absurd (omega arith)
part-past x (suc (suc zero)) h = absurd (omega arith)
part-past x (suc (suc (suc zero))) h = absurd (omega arith)
part-past x (suc (suc (suc (suc j)))) h = refl

pub small-either : (x y : Row) → Small x → Small y → Small (either x y)
unfolding either
small-either x y s t =
    record {
      a = lib.Bits.or_lt 64 x.a y.a s.a t.a;
      b = lib.Bits.or_lt 64 x.b y.b s.b t.b;
      c = lib.Bits.or_lt 64 x.c y.c s.c t.c;
      d = lib.Bits.or_lt 64 x.d y.d s.d t.d;
    }

pub small-empty : Small Rattle.rows.specs.Rows.empty
small-empty = record { a = omega arith; b = omega arith; c = omega arith; d = omega arith }
