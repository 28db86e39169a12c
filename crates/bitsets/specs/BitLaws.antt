-- What stands in a set that is made of others, and the walk over a set: `left & (left - 1)` drops the lowest bit and no other.
use Rattle.std.specs.Prelude.{Bool, true, false, ◌&&◌, ◌||◌, not, [], ◌∷◌, ◌≡◌, refl, ℕ, zero, suc, ◌+◌, ◌-◌, ◌/◌, ◌%◌, ◌^◌, ◌≤◌, ◌<◌, min, eqb, ltb}
use Rattle.std.proofs.Math.Bool.{and-true, and-false}
use Rattle.std.proofs.Common.{append-nil, ⊎_elim, sym, ap, ◌∙◌, subst, pow-suc, eq-or-lt_of_le, le_of_suc-le-suc, arith, eq-eqb, ne_eqb, eqb-true, ltb-true, ltb-false, lt-ltb, le-ltb}
use Rattle.std.proofs.lemmas.Bool.{eqb-false}
use Rattle.std.specs.Int.Bits.{bit_and, and_step}
use Rattle.std.proofs.lemmas.Nat.{and_le_r, trailing_le}
use Rattle.std.specs.Int.Count.{count_trailing_zeros}
use Rattle.lists.specs.Lists.{In}
use Rattle.lists.specs.Tests.{by, never, any-in, any_of}
use Rattle.rows.specs.Rows.{bit, has_bit}
use Rattle.rows.specs.RowLaws.{bit-either, bit-without, bit-none, bit-one, bit_is}
use Rattle.rows.specs.Next.{NextBit}
use Rattle.rows.specs.NextLaws.{next-zeros}
use Rattle.order_form.specs.Lists.{below, below_in, below-is, below_none}
use Rattle.bitsets.specs.Bitsets.{members, Lowest, Rest, more, less, first_bits}

-- ---- bits

bit-lt : (n k : ℕ) → bit n k < 2
bit-lt n k = omega (arith, bit_is n k)

bit-and : (a b k : ℕ) → bit (bit_and a b) k ≡ min (bit a k) (bit b k)
bit-and a b zero = omega (arith, and_step a b)
bit-and a b (suc k) = let e : bit_and a b / 2 ≡ bit_and (a / 2) (b / 2) = omega (arith, and_step a b) in rw e (bit-and (a / 2) (b / 2) k)

-- a digit is 0 or 1
digit : {C : Type 0} (x : ℕ) → x < 2 → (x ≡ 0 → C) → (x ≡ 1 → C) → C
digit zero h f g = f refl
digit (suc zero) h f g = g refl
digit (suc (suc x)) h f g = absurd (omega arith)

-- ---- sets that are made of others

-- what stands in both
pub bit-both : (a b k : ℕ) → has_bit (bit_and a b) k ≡ (has_bit a k && has_bit b k)
unfolding has_bit
bit-both a b k =
    rw (bit-and a b k)
    (digit (bit a k) (bit-lt a k)
    (λ p. digit (bit b k) (bit-lt b k) (λ q. rw (p, q)) (λ q. rw (p, q)))
    (λ p. digit (bit b k) (bit-lt b k) (λ q. rw (p, q)) (λ q. rw (p, q))))

-- what stands in one and not in the other
pub bit-less : (a b k : ℕ) → has_bit (less a b) k ≡ (has_bit a k && not (has_bit b k))
unfolding less
bit-less a b k = bit-without a b k

-- one more
pub bit-more : (a j k : ℕ) → has_bit (more a j) k ≡ (has_bit a k || eqb j k)
unfolding more
bit-more a j k = bit-either a (2 ^ j) k ∙ ap (λ b. has_bit a k || b) (bit-one j k)

-- the ones below j
ones : (j k : ℕ) → has_bit (2 ^ j - 1) k ≡ ltb k j
unfolding has_bit
ones zero k = bit-none k ∙ sym (le-ltb k 0 (omega arith))
ones (suc j) zero =
    let e : (2 ^ suc j - 1) % 2 ≡ 1 = omega (arith, pow-suc 2 j, lib.Pow.pow_pos j) in
    rw e (sym (lt-ltb 0 (suc j) (omega arith)))
ones (suc j) (suc k) =
    let e : (2 ^ suc j - 1) / 2 ≡ 2 ^ j - 1 = omega (arith, pow-suc 2 j, lib.Pow.pow_pos j) in
    rw e (ones j k ∙ step j k)
  where
    step : (j k : ℕ) → ltb k j ≡ ltb (suc k) (suc j)
    step j k = by (ltb k j) (λ t. t ∙ sym (lt-ltb (suc k) (suc j) (omega (arith, ltb-true k j t)))) (λ t. t ∙ sym (le-ltb (suc k) (suc j) (omega (arith, ltb-false k j t))))

pub bit-first : (count k : ℕ) → has_bit (first_bits count) k ≡ ltb k (min count 64)
unfolding first_bits
bit-first count k = ones (min count 64) k

-- a number that is not 0 has a bit
pub some-bit : (j n : ℕ) → n < 2 ^ j → (n ≡ 0 → ⊥) → (k : ℕ) × (k < j) × (bit n k ≡ 1)
some-bit zero n h e = absurd (e (omega arith))
some-bit (suc j) n h e =
    digit (n % 2) (omega arith)
    (λ z. let s = some-bit j (n / 2) (omega (arith, pow-suc 2 j)) (λ q. e (omega arith)) in (suc s.0, omega (arith, s.1), s.2))
    (λ o. (zero, omega arith, o))

-- and a number below 2 ^ j has none from j on
pub bit_past : (j n a : ℕ) → n < 2 ^ j → j ≤ a → has_bit n a ≡ false
unfolding has_bit
bit_past zero n a h k = let z : n ≡ 0 = omega arith in ap (λ (x : ℕ). has_bit x a) z ∙ bit-none a
bit_past (suc j) n zero h k = absurd (omega arith)
bit_past (suc j) n (suc a) h k = bit_past j (n / 2) a (omega (arith, pow-suc 2 j)) (omega arith)

-- ---- the lowest number

-- a number with a bit is not 0
above_zero : (x k : ℕ) → bit x k ≡ 1 → 0 < x
unfolding has_bit
above_zero zero k e = never (eq-eqb (bit 0 k) 1 e) (bit-none k)
above_zero (suc x) k e = omega arith

-- at the lowest bit k of x, and at every other
at-lowest : (k x : ℕ) → bit x k ≡ 1 → ((i : ℕ) → i < k → bit x i ≡ 0) → min (bit x k) (bit (x - 1) k) ≡ 0
at-lowest zero x e z = omega arith
at-lowest (suc k) x e z =
    let even : x % 2 ≡ 0 = z zero (omega arith) in
    let some : 0 < x = above_zero x (suc k) e in
    let h : (x - 1) / 2 ≡ x / 2 - 1 = omega arith in
    rw h (at-lowest k (x / 2) e (λ i l. z (suc i) (omega arith)))

at_other : (k x : ℕ) → bit x k ≡ 1 → ((i : ℕ) → i < k → bit x i ≡ 0) → (j : ℕ) → (j ≡ k → ⊥) → min (bit x j) (bit (x - 1) j) ≡ bit x j
at_other zero x e z zero n = absurd (n refl)
at_other zero x e z (suc j) n = let h : (x - 1) / 2 ≡ x / 2 = omega arith in rw h (omega arith)
at_other (suc k) x e z zero n = let even : x % 2 ≡ 0 = z zero (omega arith) in omega arith
at_other (suc k) x e z (suc j) n =
    let even : x % 2 ≡ 0 = z zero (omega arith) in
    let some : 0 < x = above_zero x (suc k) e in
    let h : (x - 1) / 2 ≡ x / 2 - 1 = omega arith in
    rw h (at_other k (x / 2) e (λ i l. z (suc i) (omega arith)) j (λ q. n (ap suc q)))

without-lowest : (k x : ℕ) → has_bit x k ≡ true → ((i : ℕ) → i < k → has_bit x i ≡ false) → (j : ℕ) → has_bit (bit_and x (x - 1)) j ≡ (has_bit x j && not (eqb j k))
unfolding has_bit
without-lowest k x e z j =
    let one : bit x k ≡ 1 = eqb-true (bit x k) 1 e in
    let none : (i : ℕ) → i < k → bit x i ≡ 0 = λ i l. omega (arith, eqb-false (bit x i) 1 (z i l), bit-lt x i) in
    rw (bit-and x (x - 1) j)
    (by (eqb j k)
    (λ q. let w = eqb-true j k q in rw (q, w, at-lowest k x one none) (sym (and-false (eqb (bit x k) 1))))
    (λ q. rw (q, at_other k x one none j (eqb-false j k q)) (sym (and-true (eqb (bit x j) 1)))))

-- the zeros below the lowest bit of a number that is not 0
pub lowest-is : (x : ℕ) → 0 < x → x < 2 ^ 64 → Lowest x (count_trailing_zeros 64 x)
unfolding has_bit
lowest-is x h l =
    let k = count_trailing_zeros 64 x in
    let e : x / 2 ^ 0 ≡ x = omega arith in
    let a : 0 + k ≡ k = omega arith in
    let q : 0 + count_trailing_zeros 64 (x / 2 ^ 0) ≡ k = ap (λ (y : ℕ). 0 + count_trailing_zeros 64 y) e ∙ a in
    let n : NextBit x 0 k = subst (NextBit x 0) q (next-zeros x 0 (omega (arith, trailing_le 64 (x / 2 ^ 0)))) in
    by (ltb k 64)
    (λ t. let p = ltb-true k 64 t in record { place = p; there = n.some p; none = λ i q. n.none i (omega arith) q })
    (λ t.
    let b = some-bit 64 x l (λ z. absurd (omega arith)) in
    never (eq-eqb (bit x b.0) 1 b.2) (n.none b.0 (omega arith) (omega (arith, b.1, ltb-false k 64 t))))

pub rest-is : (x : ℕ) → 0 < x → Rest x (bit_and x (x - 1))
rest-is x h = record { less = omega (arith, and_le_r x (x - 1)); bits = λ k w j. without-lowest k x w.there w.none j }

-- ---- the numbers of a set

pub below_of : (f : ℕ → Bool) (n : ℕ) {x : ℕ} → In x (below f n) → (x < n) × (f x ≡ true)
below_of f n {x} i = below-is f n x (any-in (eqb x) i (eq-eqb x x refl))

pub in-below : (f : ℕ → Bool) (n : ℕ) {x : ℕ} → x < n → f x ≡ true → In x (below f n)
in-below f n {x} h e = let r = any_of (eqb x) (below f n) (below_in f n x h e) in subst (λ y. In y (below f n)) (sym (eqb-true x r.0 r.2)) r.1

pub members-of : (set : ℕ) {x : ℕ} → In x (members set) → (x < 64) × (has_bit set x ≡ true)
unfolding members
members-of set i = below_of (has_bit set) 64 i

pub in_members : (set : ℕ) {x : ℕ} → x < 64 → has_bit set x ≡ true → In x (members set)
unfolding members
in_members set h e = in-below (has_bit set) 64 h e

-- a test of which k is the first number, and one without k
below-first : (f g : ℕ → Bool) (k n : ℕ) → f k ≡ true → ((i : ℕ) → i < k → f i ≡ false) → ((j : ℕ) → g j ≡ (f j && not (eqb j k))) → k < n → below f n ≡ k ∷ below g n
below-first f g k zero e z w h = absurd (omega arith)
below-first f g k (suc n) e z w h =
    ⊎_elim
    (λ (q : k ≡ n).
    let a : below f n ≡ [] = below_none f n (λ x l. z x (omega arith)) in
    let b : below g n ≡ [] = below_none g n (λ x l. w x ∙ ap (λ c. c && not (eqb x k)) (z x (omega arith))) in
    let c : f n ≡ true = subst (λ x. f x ≡ true) q e in
    let d : g n ≡ false = w n ∙ ap (λ c. f n && not c) (eq-eqb n k (sym q)) ∙ and-false (f n) in
    rw (a, b, c, d) (ap (λ (x : ℕ). x ∷ []) (sym q)))
    (λ (l : k < n).
    let d : g n ≡ f n = w n ∙ ap (λ c. f n && not c) (ne_eqb n k (λ q. omega arith)) ∙ and-true (f n) in
    rw (below-first f g k n e z w l, d))
    (eq-or-lt_of_le (le_of_suc-le-suc h))

-- a set is its lowest number and the rest; 0 has none
pub members-next : (set k r : ℕ) → Lowest set k → Rest set r → members set ≡ k ∷ members r
unfolding members
members-next set k r l t = below-first (has_bit set) (has_bit r) k 64 l.there l.none (t.bits k l) l.place

pub members-none : (set : ℕ) → set ≡ 0 → members set ≡ []
unfolding members
members-none set e = below_none (has_bit set) 64 (λ x h. ap (λ (y : ℕ). has_bit y x) e ∙ bit-none x)

-- a set without a number from n on
below-past : (f : ℕ → Bool) (n d : ℕ) → ((x : ℕ) → n ≤ x → f x ≡ false) → below f (d + n) ≡ below f n
below-past f n zero z = let e : 0 + n ≡ n = omega arith in ap (below f) e
below-past f n (suc d) z =
    let e : suc d + n ≡ suc (d + n) = omega arith in
    rw (e, z (d + n) (omega arith), append-nil) (below-past f n d z)

pub members-below : (set n : ℕ) → n ≤ 64 → ((x : ℕ) → n ≤ x → has_bit set x ≡ false) → members set ≡ below (has_bit set) n
unfolding members
members-below set n h z = let e : 64 ≡ (64 - n) + n = omega arith in ap (below (has_bit set)) e ∙ below-past (has_bit set) n (64 - n) z
