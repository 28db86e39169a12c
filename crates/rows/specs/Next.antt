-- The next number that stands in a row.
use Rattle.std.specs.Prelude.{Bool, true, false, ◌≡◌, ℕ, ◌<◌, ◌≤◌}
use Rattle.rows.specs.declared.Row.{Row}
use Rattle.rows.specs.Rows.{has, has_bit}

-- k is the first number from `from` on of which f holds, or `top` where it holds of none below that
pub record First (f : ℕ → Bool) (top from k : ℕ) : Type 0 where
  pub least : from ≤ k
  pub most : k ≤ top
  pub none : (i : ℕ) → from ≤ i → i < k → f i ≡ false
  pub some : k < top → f k ≡ true

-- the next number of a row, 256 where there is none
abbrev pub Next : Row → ℕ → ℕ → Type 0
Next r from k = First (has r) 256 from k

-- the next number of a row of 64, 64 where there is none
abbrev pub NextBit : ℕ → ℕ → ℕ → Type 0
NextBit n from k = First (has_bit n) 64 from k
