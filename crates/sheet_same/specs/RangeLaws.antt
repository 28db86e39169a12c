-- What holds of a test over a range of places.
use Rattle.std.specs.Prelude.{Bool, true, false, ◌&&◌, ◌||◌, ◌≡◌, refl, ℕ, zero, suc, ◌+◌, ◌-◌, ◌≤◌, ◌<◌}
use Rattle.std.specs.List.{range_with_len, list_any, list_all}
use Rattle.std.proofs.Common.{sym, ap, ◌∙◌, arith}

-- f k is told by the test at k and by f behind it
module _ (t f : ℕ → Bool) (n : ℕ) where
  pub any-range : ((k : ℕ) → k < n → f k ≡ (t k || f (k + 1))) → ((k : ℕ) → n ≤ k → f k ≡ false) → (k : ℕ) →
      list_any t (range_with_len k (n - k)) ≡ f k
  any-range step end k = go (n - k) k refl
    where
      go : (m k : ℕ) → n - k ≡ m → list_any t (range_with_len k m) ≡ f k
      go zero k e = sym (end k (omega arith))
      go (suc m) k e = ap (λ (b : Bool). t k || b) (go m (k + 1) (omega arith)) ∙ sym (step k (omega arith))

  pub all-range : ((k : ℕ) → k < n → f k ≡ (t k && f (k + 1))) → ((k : ℕ) → n ≤ k → f k ≡ true) → (k : ℕ) →
      list_all t (range_with_len k (n - k)) ≡ f k
  all-range step end k = go (n - k) k refl
    where
      go : (m k : ℕ) → n - k ≡ m → list_all t (range_with_len k m) ≡ f k
      go zero k e = sym (end k (omega arith))
      go (suc m) k e = ap (λ (b : Bool). t k && b) (go m (k + 1) (omega arith)) ∙ sym (step k (omega arith))
