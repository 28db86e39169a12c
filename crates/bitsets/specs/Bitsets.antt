-- Sets of numbers below 64 as one number each.
use Rattle.std.specs.Prelude.{true, false, ◌&&◌, not, List, Option, MatchOption, ◌≡◌, ℕ, ◌-◌, ◌^◌, ◌<◌, min, eqb}
use Rattle.std.specs.Int.Bits.{bit_and, bit_or, bit_xor}
use Rattle.order_form.specs.Lists.{below}
use Rattle.rows.specs.Rows.{has_bit}

-- The numbers of a set, ascending.
unfoldable pub members : ℕ → List ℕ
members set = below (has_bit set) 64

-- The lowest number of a set.
pub record Lowest (set k : ℕ) : Type 0 where
  pub place : k < 64
  pub there : has_bit set k ≡ true
  pub none : (i : ℕ) → i < k → has_bit set i ≡ false

-- The set without it.
pub record Rest (set r : ℕ) : Type 0 where
  pub less : r < set
  pub bits : (k : ℕ) → Lowest set k → (j : ℕ) → has_bit r j ≡ (has_bit set j && not (eqb j k))

-- A turn of a walk over what is left of a set: its lowest number, and then the rest is left; or none.
abbrev pub Walks : ℕ → Option ℕ → ℕ → Type 0
Walks set r left = MatchOption r ((set ≡ 0) × (left ≡ 0)) (λ k. Lowest set k × Rest set left)

-- A set with one number more.
unfoldable pub more : ℕ → ℕ → ℕ
more set k = bit_or set (2 ^ k)

-- What stands in the first set and not in the second.
unfoldable pub less : ℕ → ℕ → ℕ
less set other = bit_xor set (bit_and set other)

-- The first numbers: those below the count, and at most 64.
unfoldable pub first_bits : ℕ → ℕ
first_bits count = 2 ^ min count 64 - 1
