-- A number as a set of the first n places: bit a says what a test says of place a, and no bit stands past the last place.
use Rattle.std.specs.Prelude.{Bool, true, false, ◌&&◌, ◌||◌, ◌≡◌, refl, ℕ, zero, suc, ◌/◌, ◌^◌, ◌≤◌, ◌<◌, eqb, ltb, length}
use Rattle.std.proofs.Common.{ap₂, ◌∙◌, pow-suc, arith}
use borrow.Author.Tests.{eq-eqb, eqb-true, eqb-false, lt-ltb, le-ltb}
use Rattle.std.specs.Int.Bits.{bit_and, bit_or}
use Rattle.lists.specs.Tests.{by, never}
use Rattle.rows.specs.Rows.{has_bit}
use Rattle.rows.specs.RowLaws.{bit-either}
use Rattle.definitions.specs.Map.{LineMap}
use Rattle.law_classes.specs.Sets.{Set, type_at, SetIs}
use Rattle.law_classes.specs.Numbers.{bit-both, some-bit, Fits}

abbrev pub Holds : ℕ → ℕ → (ℕ → Bool) → Type 0
Holds n row f = (a : ℕ) → has_bit row a ≡ (ltb a n && f a)

-- ---- how large such a number is

below_power : (n : ℕ) → n < 2 ^ n
below_power zero = omega arith
below_power (suc n) = omega (arith, below_power n, pow-suc 2 n)

-- a number that is not 0 has a bit
pub nonzero-bit : (n : ℕ) → (n ≡ 0 → ⊥) → (a : ℕ) × (has_bit n a ≡ true)
unfolding has_bit
nonzero-bit n h = let b = some-bit n n (below_power n) h in (b.0, eq-eqb _ 1 b.2)

-- a number without bits from j on is below the j-th power
pub no-bits-past : (j n : ℕ) → ((a : ℕ) → j ≤ a → has_bit n a ≡ false) → n < 2 ^ j
unfolding has_bit
no-bits-past zero n h =
    by (eqb n 0)
    (λ e. omega (arith, eqb-true n 0 e))
    (λ e. let b = nonzero-bit n (eqb-false n 0 e) in never b.1 (h b.0 (omega arith)))
no-bits-past (suc j) n h = omega (arith, no-bits-past j (n / 2) (λ a l. h (suc a) (omega arith)), pow-suc 2 j)

-- ---- both, either

and_first : (l a b : Bool) → ((l && a) && (l && b)) ≡ (l && (a && b))
and_first true a b = refl
and_first false a b = refl

or-first : (l a b : Bool) → ((l && a) || (l && b)) ≡ (l && (a || b))
or-first true a b = refl
or-first false a b = refl

pub holds-and : (n x y : ℕ) (f g : ℕ → Bool) → Holds n x f → Holds n y g → Holds n (bit_and x y) (λ a. f a && g a)
holds-and n x y f g p q a = bit-both x y a ∙ ap₂ (λ b c. b && c) (p a) (q a) ∙ and_first (ltb a n) (f a) (g a)

pub holds-or : (n x y : ℕ) (f g : ℕ → Bool) → Holds n x f → Holds n y g → Holds n (bit_or x y) (λ a. f a || g a)
holds-or n x y f g p q a = bit-either x y a ∙ ap₂ (λ b c. b || c) (p a) (q a) ∙ or-first (ltb a n) (f a) (g a)

-- the tests may be others, where they agree
pub holds_same : (n x : ℕ) (f g : ℕ → Bool) → ((a : ℕ) → a < n → f a ≡ g a) → Holds n x f → Holds n x g
holds_same n x f g e p a =
    p a
    ∙ by (ltb a n)
    (λ l. rw l (e a (borrow.Author.Tests.ltb-true a n l)))
    (λ l. rw l)

-- ---- the types of a map

module _ (m : LineMap) (row : ℕ) (f : ℕ → Bool) (p : Holds (length m.types) row f) where
  pub holds-set : (S : Set) → ((a : ℕ) → a < length m.types → f a ≡ S (type_at m a)) → SetIs m row S
  holds-set S e a h = p a ∙ rw (lt-ltb a (length m.types) h) (e a h)

  pub holds_fits : length m.types ≤ 64 → Fits m row
  holds_fits few =
      let within : (a : ℕ) → length m.types ≤ a → has_bit row a ≡ false = λ a h. p a ∙ rw (le-ltb a (length m.types) h) in
      record { most = no-bits-past 64 row (λ a h. within a (omega arith)); within = within }
