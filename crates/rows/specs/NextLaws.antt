-- What the zeros below the lowest bit say of the next number, and what a walk from one number to the next passes.
use Rattle.std.specs.Prelude.{Bool, true, false, [], ◌∷◌, ◌++◌, ◌≡◌, refl, ℕ, zero, suc, ◌+◌, ◌-◌, ◌*◌, ◌/◌, ◌%◌, ◌^◌, ◌<◌, ◌≤◌, eqb, ltb}
use Rattle.std.proofs.Common.{append-nil, append_assoc, sym, ap, ◌∙◌, arith, shr-shr, ltb-true, ltb-false}
use Rattle.std.specs.Int.Count.{count_trailing_zeros, under}
use Rattle.lists.specs.Lists.{filter}
use Rattle.lists.specs.Tests.{by}
use Rattle.rows.specs.declared.Row.{Row}
use Rattle.rows.specs.Lists.{between, below}
use Rattle.rows.specs.Rows.{bit, has_bit, limb, has}
use Rattle.rows.specs.RowLaws.{bit_is}
use Rattle.rows.specs.Next.{First, Next, NextBit}

-- ---- the zeros below the lowest bit

zeros-below : (d n i : ℕ) → i < count_trailing_zeros d n → bit n i ≡ 0
unfolding count_trailing_zeros
zeros-below zero n i h = absurd (omega arith)
zeros-below (suc d) n i h = go (n % 2) refl i (λ j. zeros-below d (n / 2) j) h
  where
    go : (r : ℕ) → n % 2 ≡ r → (i : ℕ) → ((j : ℕ) → j < count_trailing_zeros d (n / 2) → bit (n / 2) j ≡ 0) → i < under r (count_trailing_zeros d (n / 2)) → bit n i ≡ 0
    go zero e zero f h = e
    go zero e (suc i) f h = f i (omega arith)
    go (suc r) e i f h = absurd (omega arith)

one-there : (d n : ℕ) → count_trailing_zeros d n < d → bit n (count_trailing_zeros d n) ≡ 1
unfolding count_trailing_zeros
one-there zero n h = absurd (omega arith)
one-there (suc d) n h = go (n % 2) refl (one-there d (n / 2)) h
  where
    go : (r : ℕ) → n % 2 ≡ r → (count_trailing_zeros d (n / 2) < d → bit (n / 2) (count_trailing_zeros d (n / 2)) ≡ 1) → under r (count_trailing_zeros d (n / 2)) < suc d
        → bit n (under r (count_trailing_zeros d (n / 2))) ≡ 1
    go zero e f h = f (omega arith)
    go (suc r) e f h = omega arith

bit_shifted : (n k i : ℕ) → bit (n / 2 ^ k) i ≡ bit n (k + i)
bit_shifted n k i = bit_is (n / 2 ^ k) i ∙ ap (λ (x : ℕ). x % 2) (shr-shr n k i) ∙ sym (bit_is n (k + i))

-- the zeros of the row from `from` on lead to its next number
pub next-zeros : (n from : ℕ) → from + count_trailing_zeros 64 (n / 2 ^ from) ≤ 64 → NextBit n from (from + count_trailing_zeros 64 (n / 2 ^ from))
unfolding has_bit
next-zeros n from l =
    let t = count_trailing_zeros 64 (n / 2 ^ from) in
    record {
      least = omega arith;
      most = l;
      none = λ i p q.
          let e : from + (i - from) ≡ i = omega arith in
          let z : bit n (from + (i - from)) ≡ 0 = sym (bit_shifted n from (i - from)) ∙ zeros-below 64 (n / 2 ^ from) (i - from) (omega arith) in
          ap (λ (x : ℕ). eqb x 1) (ap (bit n) (sym e) ∙ z);
      some = λ p. ap (λ (x : ℕ). eqb x 1) (sym (bit_shifted n from t) ∙ one-there 64 (n / 2 ^ from) (omega arith));
    }

-- where they lead to its end or past it, there is none
pub next-none : (n from : ℕ) → from ≤ 64 → 64 ≤ from + count_trailing_zeros 64 (n / 2 ^ from) → NextBit n from 64
unfolding has_bit
next-none n from f l =
    record {
      least = f;
      most = omega arith;
      none = λ i p q.
          let e : from + (i - from) ≡ i = omega arith in
          let z : bit n (from + (i - from)) ≡ 0 = sym (bit_shifted n from (i - from)) ∙ zeros-below 64 (n / 2 ^ from) (i - from) (omega arith) in
          ap (λ (x : ℕ). eqb x 1) (ap (bit n) (sym e) ∙ z);
      some = λ p. absurd (omega arith);
    }

pub next-end : (n : ℕ) → NextBit n 64 64
next-end n = record { least = omega arith; most = omega arith; none = λ i p q. absurd (omega arith); some = λ p. absurd (omega arith) }

-- ---- the four parts of a row

-- number k of part i is number i * 64 + k of the row
has_part : (r : Row) (i k : ℕ) → k < 64 → has r (i * 64 + k) ≡ has_bit (limb r i) k
unfolding has has_bit
has_part r i k h =
    let p : (i * 64 + k) / 64 ≡ i = omega arith in
    let q : (i * 64 + k) % 64 ≡ k = omega arith in
    rw (p, q)

-- none of the row from `from` on stands below i
pub record Passed (f : ℕ → Bool) (from i : ℕ) : Type 0 where
  pub none : (k : ℕ) → from ≤ k → k < i → f k ≡ false

-- what the next of part i says of the row
part_none : (r : Row) (i j k n : ℕ) → NextBit (limb r i) j k → i * 64 + j ≤ n → n < i * 64 + k → has r n ≡ false
part_none r i j k n h p q =
    let e : i * 64 + (n - i * 64) ≡ n = omega arith in
    ap (has r) (sym e) ∙ has_part r i (n - i * 64) (omega (arith, h.most)) ∙ h.none (n - i * 64) (omega arith) (omega arith)

pub passed_start : (r : Row) (from : ℕ) → Passed (has r) from (from / 64 * 64 + from % 64)
passed_start r from = record { none = λ k p q. absurd (omega arith) }

pub passed-part : (r : Row) (from i j : ℕ) → Passed (has r) from (i * 64 + j) → NextBit (limb r i) j 64 → Passed (has r) from ((i + 1) * 64 + 0)
passed-part r from i j s h =
    record {
      none = λ k p q.
          by (ltb k (i * 64 + j)) (λ e. s.none k p (ltb-true _ _ e)) (λ e. part_none r i j 64 k h (ltb-false _ _ e) (omega arith));
    }

pub found_part : (r : Row) (from i j k : ℕ) → from ≤ i * 64 + j → i < 4 → Passed (has r) from (i * 64 + j) → NextBit (limb r i) j k → k < 64 → Next r from (i * 64 + k)
found_part r from i j k f l s h b =
    record {
      least = omega (arith, h.least);
      most = omega arith;
      none = λ n p q. by (ltb n (i * 64 + j)) (λ e. s.none n p (ltb-true _ _ e)) (λ e. part_none r i j k n h (ltb-false _ _ e) q);
      some = λ p. has_part r i k b ∙ h.some b;
    }

pub passed-all : (r : Row) (from i j : ℕ) → from ≤ 256 → 4 ≤ i → Passed (has r) from (i * 64 + j) → Next r from 256
passed-all r from i j f l s = record { least = f; most = omega arith; none = λ n p q. s.none n p (omega arith); some = λ p. absurd (omega arith) }

-- ---- lists of numbers that ascend, by such steps

between-parts : (f : ℕ → Bool) (i m n : ℕ) → between f i (m + n) ≡ between f i m ++ between f (i + m) n
unfolding between
between-parts f i zero n =
    let e : 0 + n ≡ n = omega arith in
    let g : i + 0 ≡ i = omega arith in
    rw (e, g)
between-parts f i (suc m) n =
    let e : suc i + m ≡ i + suc m = omega arith in
    let s : suc m + n ≡ suc (m + n) = omega arith in
    ap (between f i) s ∙ ap (λ l. filter f (i ∷ []) ++ l) (between-parts f (suc i) m n ∙ ap (λ (x : ℕ). between f (suc i) m ++ between f x n) e)
    ∙ sym (append_assoc (filter f (i ∷ [])) (between f (suc i) m) (between f (i + suc m) n))

pub below_parts : (f : ℕ → Bool) (m n : ℕ) → below f (m + n) ≡ below f m ++ between f m n
below_parts f m n =
    let e : 0 + m ≡ m = omega arith in
    between-parts f 0 m n ∙ ap (λ (x : ℕ). below f m ++ between f x n) e

one-between : (f : ℕ → Bool) (k : ℕ) → f k ≡ true → between f k 1 ≡ k ∷ []
unfolding between
one-between f k e = rw e

between-nothing : (f : ℕ → Bool) (i n : ℕ) → ((k : ℕ) → i ≤ k → k < i + n → f k ≡ false) → between f i n ≡ []
unfolding between
between-nothing f i zero h = refl
between-nothing f i (suc n) h = rw (h i (omega arith) (omega arith), between-nothing f (suc i) n (λ k p q. h k (omega arith) (omega arith)))

-- nothing stands on the way to the next
pub below_next : (f : ℕ → Bool) (top from k : ℕ) → First f top from k → below f k ≡ below f from
below_next f top from k h =
    let e : from + (k - from) ≡ k = omega (arith, h.least) in
    ap (below f) (sym e) ∙ below_parts f from (k - from)
    ∙ ap (λ l. below f from ++ l) (between-nothing f from (k - from) (λ i p q. h.none i p (omega arith)))
    ∙ append-nil (below f from)

-- the numbers from the place on are those from the next on
pub from_next : (f : ℕ → Bool) (top from k n : ℕ) → First f top from k → k ≤ n → between f from (n - from) ≡ between f k (n - k)
from_next f top from k n h l =
    let e : (k - from) + (n - k) ≡ n - from = omega (arith, h.least) in
    let g : from + (k - from) ≡ k = omega (arith, h.least) in
    ap (between f from) (sym e) ∙ between-parts f from (k - from) (n - k)
    ∙ ap (λ l. l ++ between f (from + (k - from)) (n - k)) (between-nothing f from (k - from) (λ i p q. h.none i p (omega arith)))
    ∙ ap (λ (x : ℕ). between f x (n - k)) g

-- a number that stands is the last of those up to it
pub below-there : (f : ℕ → Bool) (k : ℕ) → f k ≡ true → below f (k + 1) ≡ below f k ++ (k ∷ [])
below-there f k e = below_parts f k 1 ∙ ap (λ l. below f k ++ l) (one-between f k e)

-- and the first of those from it on
pub from-there : (f : ℕ → Bool) (k n : ℕ) → k < n → f k ≡ true → between f k (n - k) ≡ k ∷ between f (k + 1) (n - (k + 1))
from-there f k n h e =
    let s : 1 + (n - (k + 1)) ≡ n - k = omega arith in
    ap (between f k) (sym s) ∙ between-parts f k 1 (n - (k + 1)) ∙ ap (λ l. l ++ between f (k + 1) (n - (k + 1))) (one-between f k e)

-- where the walk reaches n, it passed all below n
pub below_all : (f : ℕ → Bool) (top from k n : ℕ) → First f top from k → from ≤ n → n ≤ k → below f n ≡ below f from
below_all f top from k n h p l =
    let e : from + (n - from) ≡ n = omega arith in
    ap (below f) (sym e) ∙ below_parts f from (n - from)
    ∙ ap (λ l. below f from ++ l) (between-nothing f from (n - from) (λ i p q. h.none i p (omega arith)))
    ∙ append-nil (below f from)

pub from_all : (f : ℕ → Bool) (top from k n : ℕ) → First f top from k → n ≤ k → between f from (n - from) ≡ []
from_all f top from k n h l = between-nothing f from (n - from) (λ i p q. h.none i p (omega arith))
