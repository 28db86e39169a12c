-- What `any`, `all` and `position` of a range say, of the numbers below its end.
use Rattle.std.proofs.Common.{List, Bool, true, false, not, ◌≡◌, ℕ, ◌≤◌, ◌<◌, length, get_or, sym, ap, subst, arith}
use Rattle.std.specs.Prelude.{Option, Some, None, MatchOption}
use Rattle.std.specs.Bool.{MatchBool}
use Rattle.std.specs.List.{range_with_len, AllWithin, HoldsAt}
use Rattle.std.proofs.lemmas.List.FromFn.{length-range_with_len, get_or-range_with_len}
use Rattle.lists.specs.Lists.{any, all, place_of}
use Rattle.order_form.specs.Lists.{tab, any_none, all-tab-of, any-tab-at, all-tab-fails, place_of-tab-at, place_of-tab-none}

-- the number at place k
at-k : (n k : ℕ) (P : ℕ → Type 0) → k < n → HoldsAt P (range_with_len 0 n) k → P k
at-k n k P l h = let e : get_or (range_with_len 0 n) k 0 ≡ k = omega (arith, get_or-range_with_len 0 n k 0 l) in subst P e (h 0)

-- n is the end of the range
module _ {A : Type 0} (f : ℕ → A) (g : A → Bool) (n : ℕ) where
  abbrev Yes : ℕ → Type 0
  Yes k = g (f k) ≡ true

  abbrev No : ℕ → Type 0
  No k = g (f k) ≡ false

  abbrev xs : List ℕ
  xs = range_with_len 0 n

  none-below : (i : ℕ) → i ≤ n → AllWithin No xs 0 i → any g (tab f i) ≡ false
  none-below i l h = any_none g (tab f i) (all-tab-of f (λ x. not (g x)) i (λ j q. ap not (at-k n j No (omega arith) (λ d. h j d (omega arith) q))))

  any_is : (r : Bool) → MatchBool r ((k : ℕ) × (k < length xs) × HoldsAt Yes xs k) (AllWithin No xs 0 (length xs)) → r ≡ any g (tab f n)
  any_is true h =
      let l : h.0 < n = omega (arith, h.1, length-range_with_len 0 n) in
      sym (any-tab-at f g n h.0 l (at-k n h.0 Yes l h.2))
  any_is false h = sym (none-below n (omega arith) (λ k d i l. h k d i (omega (arith, length-range_with_len 0 n))))

  all_is : (r : Bool) → MatchBool r (AllWithin Yes xs 0 (length xs)) ((k : ℕ) × (k < length xs) × HoldsAt No xs k) → r ≡ all g (tab f n)
  all_is true h = sym (all-tab-of f g n (λ i l. at-k n i Yes l (λ d. h i d (omega arith) (omega (arith, length-range_with_len 0 n)))))
  all_is false h =
      let l : h.0 < n = omega (arith, h.1, length-range_with_len 0 n) in
      sym (all-tab-fails f g n h.0 l (at-k n h.0 No l h.2))

  pub any_range : (m : ℕ) → n ≡ m → (r : Bool) → MatchBool r ((k : ℕ) × (k < length (range_with_len 0 n)) × HoldsAt (λ k. g (f k) ≡ true) (range_with_len 0 n) k) (AllWithin (λ k. g (f k) ≡ false) (range_with_len 0 n) 0 (length (range_with_len 0 n))) → r ≡ any g (tab f m)
  any_range m e r h = subst (λ (k : ℕ). r ≡ any g (tab f k)) e (any_is r h)

  pub all_range : (m : ℕ) → n ≡ m → (r : Bool) → MatchBool r (AllWithin (λ k. g (f k) ≡ true) (range_with_len 0 n) 0 (length (range_with_len 0 n))) ((k : ℕ) × (k < length (range_with_len 0 n)) × HoldsAt (λ k. g (f k) ≡ false) (range_with_len 0 n) k) → r ≡ all g (tab f m)
  all_range m e r h = subst (λ (k : ℕ). r ≡ all g (tab f k)) e (all_is r h)

  first_is : (r : Option ℕ) → MatchOption r (AllWithin No xs 0 (length xs)) (λ i. (i < length xs) × HoldsAt Yes xs i × AllWithin No xs 0 i) → MatchOption r (n ≤ place_of g (tab f n)) (λ i. (i < n) × (i ≡ place_of g (tab f n)))
  first_is None h = omega (arith, place_of-tab-none f g n (none-below n (omega arith) (λ k d i l. h k d i (omega (arith, length-range_with_len 0 n)))))
  first_is (Some i) h =
      let l : i < n = omega (arith, h.0, length-range_with_len 0 n) in
      (l, sym (place_of-tab-at f g n i l (none-below i (omega arith) h.2) (at-k n i Yes l h.1)))

  pub position_range : (m : ℕ) → n ≡ m → (r : Option ℕ) → MatchOption r (AllWithin (λ k. g (f k) ≡ false) (range_with_len 0 n) 0 (length (range_with_len 0 n))) (λ i. (i < length (range_with_len 0 n)) × HoldsAt (λ k. g (f k) ≡ true) (range_with_len 0 n) i × AllWithin (λ k. g (f k) ≡ false) (range_with_len 0 n) 0 i) → MatchOption r (m ≤ place_of g (tab f m)) (λ i. (i < m) × (i ≡ place_of g (tab f m)))
  position_range m e r h = subst (λ (k : ℕ). MatchOption r (k ≤ place_of g (tab f k)) (λ i. (i < k) × (i ≡ place_of g (tab f k)))) e (first_is r h)
