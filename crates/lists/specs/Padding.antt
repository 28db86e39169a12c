-- A list that is padded to an array of n places.
use Rattle.std.specs.Prelude.{List, [], ◌∷◌, ◌++◌, ◌≡◌, get_or, set, take, replicate}
use Prim.Native.Nat.{ℕ, suc, ◌+◌, ◌-◌, ◌≤◌, ◌<◌}
use native.Mathlib.Omega.{arith}
use Rattle.std.proofs.Math.ListN.{length, get_or-append}
use Rattle.std.proofs.Common.{length-append}
use Rattle.std.proofs.lemmas.List.{length-replicate}
use Rattle.std.proofs.Math.Seq.{take-append_seam, set_at, append_snoc}

-- the values, and behind them `none`
unfoldable pub column : {A : Type 0} → ℕ → A → List A → List A
column n none xs = xs ++ replicate (n - length xs) none

module _ {A : Type 0} (n : ℕ) (none : A) (xs : List A) where
  pub column-length : length xs ≤ n → length (column n none xs) ≡ n
  unfolding column
  column-length h = rw (length-append, length-replicate) (omega arith)

  -- a load of a value
  pub column-at : (i : ℕ) (d : A) → i < length xs → get_or (column n none xs) i d ≡ get_or xs i d
  unfolding column
  column-at i d h = get_or-append xs (replicate (n - length xs) none) d i h

  -- the values back
  pub column-take : take (length xs) (column n none xs) ≡ xs
  unfolding column
  column-take = take-append_seam xs (replicate (n - length xs) none)

  -- a store at the end is one value more
  pub column-more : (a : A) (i : ℕ) → length xs ≡ i → i < n → set (column n none xs) i a ≡ column n none (xs ++ a ∷ [])
  unfolding column
  column-more a i l h =
      let e : n - length xs ≡ suc (n - (length xs + 1)) = omega arith in
      rw (length-append, e, set_at xs none (replicate (n - (length xs + 1)) none) a i l, append_snoc xs a)
