-- Laws of ascending lists of numbers. Nothing here knows of types or resources.
use Rattle.std.specs.Prelude.{Bool, true, false, ◌&&◌, ◌||◌, ◌≡◌, ltb}
use mathlib.Core.List.{List, [], ◌∷◌, ◌++◌, map}
use Rattle.std.proofs.Math.Path.{refl, sym, ap}
use Rattle.std.proofs.Common.{ap₂, ◌∙◌, arith}
use Prim.Native.Nat.{ℕ, zero, suc, ◌+◌, ◌<◌, ◌≤◌}
use borrow.Author.Tests.{eq-eqb, ne_eqb, eqb-true, eqb-false, lt-ltb, le-ltb}
use Rattle.std.proofs.Math.Dec.{eqb}
use Rattle.lists.specs.Lists.{any, filter, include, set_of}
use Rattle.lists.specs.Tests.{by, never, or_left, or_right}
use Rattle.lists.specs.Appending.{map-append, any_append}

-- ---- tests

pub eqb_same : (i : ℕ) → eqb i i ≡ true
eqb_same i = eq-eqb i i refl

-- ---- ascending numbers

-- k is one of them
abbrev pub elem : ℕ → List ℕ → Bool
elem k l = any (eqb k) l

-- the numbers from i on, n of them, of which f holds
unfoldable pub between : (ℕ → Bool) → ℕ → ℕ → List ℕ
between f i zero = []
between f i (suc n) = filter f (i ∷ []) ++ between f (suc i) n

-- the numbers below n of which f holds, ascending
abbrev pub below : (ℕ → Bool) → ℕ → List ℕ
below f n = between f 0 n

-- equal tests, and equal values where they hold
pub map-between : {A : Type 0} (f f' : ℕ → Bool) (g g' : ℕ → A) (i n : ℕ) → ((k : ℕ) → i ≤ k → k < i + n → f k ≡ f' k)
    → ((k : ℕ) → i ≤ k → k < i + n → f k ≡ true → g k ≡ g' k) → map g (between f i n) ≡ map g' (between f' i n)
unfolding between
map-between f f' g g' i zero p q = refl
map-between f f' g g' i (suc n) p q =
    let e = map-between f f' g g' (suc i) n (λ k a b. p k (omega arith) (omega arith)) (λ k a b. q k (omega arith) (omega arith)) in
    by (f i)
    (λ t. rw (sym (p i (omega arith) (omega arith)), t) (ap₂ (λ x l. x ∷ l) (q i (omega arith) (omega arith) t) e))
    (λ t. rw (sym (p i (omega arith) (omega arith)), t) e)

pub between-same : (f f' : ℕ → Bool) (i n : ℕ) → ((k : ℕ) → i ≤ k → k < i + n → f k ≡ f' k) → between f i n ≡ between f' i n
unfolding between
between-same f f' i zero p = refl
between-same f f' i (suc n) p =
    let e = between-same f f' (suc i) n (λ k a b. p k (omega arith) (omega arith)) in
    rw (sym (p i (omega arith) (omega arith)), e)

pub between_none : (f : ℕ → Bool) (i n : ℕ) → ((k : ℕ) → f k ≡ false) → between f i n ≡ []
unfolding between
between_none f i zero h = refl
between_none f i (suc n) h = rw (h i, between_none f (suc i) n h)

between-past : (k i n : ℕ) → k < i → between (eqb k) i n ≡ []
unfolding between
between-past k i zero h = refl
between-past k i (suc n) h = rw (ne_eqb k i (λ q. omega arith), between-past k (suc i) n (omega arith))

-- the numbers that are k
pub between-one : (k i n : ℕ) → i ≤ k → k < i + n → between (eqb k) i n ≡ k ∷ []
unfolding between
between-one k i zero a b = absurd (omega arith)
between-one k i (suc n) a b =
    by (eqb k i)
    (λ e. let q : k ≡ i = eqb-true k i e in rw (e, between-past k (suc i) n (omega arith)) (ap (λ (x : ℕ). x ∷ []) (sym q)))
    (λ e. rw e (between-one k (suc i) n (omega (arith, eqb-false k i e)) (omega arith)))

pub filter-between : (p f : ℕ → Bool) (i n : ℕ) → filter p (between f i n) ≡ between (λ k. f k && p k) i n
unfolding between
filter-between p f i zero = refl
filter-between p f i (suc n) =
    by (f i)
    (λ e. rw e (by (p i) (λ q. rw q (ap (λ l. i ∷ l) (filter-between p f (suc i) n))) (λ q. rw q (filter-between p f (suc i) n))))
    (λ e. rw e (filter-between p f (suc i) n))

pub elem-before : (f : ℕ → Bool) (k i n : ℕ) → k < i → elem k (between f i n) ≡ false
unfolding between
elem-before f k i zero h = refl
elem-before f k i (suc n) h =
    by (f i)
    (λ e. rw (e, ne_eqb k i (λ q. absurd (omega arith))) (elem-before f k (suc i) n (omega arith)))
    (λ e. rw e (elem-before f k (suc i) n (omega arith)))

pub elem-between : (f : ℕ → Bool) (k i n : ℕ) → i ≤ k → k < i + n → elem k (between f i n) ≡ f k
unfolding between
elem-between f k i zero p q = absurd (omega arith)
elem-between f k i (suc n) p q =
    by (eqb k i)
    (λ e.
    let z : k ≡ i = eqb-true k i e in
    rw z (by (f i) (λ t. rw (t, eqb_same i)) (λ t. rw t (elem-before f i (suc i) n (omega arith)))))
    (λ e.
    let r = elem-between f k (suc i) n (omega (arith, eqb-false k i e)) (omega arith) in
    by (f i) (λ t. rw (t, e) r) (λ t. rw t r))

pub elem_below : (f : ℕ → Bool) (k i n : ℕ) → elem k (between f i n) ≡ true → k < i + n
unfolding between
elem_below f k i zero e = never e refl
elem_below f k i (suc n) e =
    by (f i)
    (λ t.
    by (eqb k i)
    (λ q. omega (arith, eqb-true k i q))
    (λ q. omega (arith, elem_below f k (suc i) n (rw (t, q) at e))))
    (λ t. omega (arith, elem_below f k (suc i) n (rw t at e)))

-- ---- sets of values that ascend with a number

-- the values of g below n ascend by `before`
pub record Climbs {A : Type 0} (before : A → A → Bool) (g : ℕ → A) (n : ℕ) : Type 0 where
  pub up : (i j : ℕ) → i < j → j < n → before (g i) (g j) ≡ true
  pub down : (i j : ℕ) → i < j → j < n → before (g j) (g i) ≡ false
  pub flat : (i : ℕ) → i < n → before (g i) (g i) ≡ false

pub climbing-numbers : (n : ℕ) → Climbs ltb (λ i. i) n
climbing-numbers n = record { up = λ i j h l. lt-ltb i j h; down = λ i j h l. le-ltb j i (omega arith); flat = λ i l. le-ltb i i (omega arith) }

module _ {A : Type 0} (before : A → A → Bool) (g : ℕ → A) (m : ℕ) (c : Climbs before g m) where
  include-front : (f : ℕ → Bool) (k i n : ℕ) → k < i → i + n ≤ m → include before (g k) (map g (between f i n)) ≡ g k ∷ map g (between f i n)
  unfolding include between
  include-front f k i zero p q = refl
  include-front f k i (suc n) p q =
      by (f i)
      (λ t. rw (t, c.up k i p (omega arith)))
      (λ t. rw t (include-front f k (suc i) n (omega arith) (omega arith)))

  include-at : (f : ℕ → Bool) (k i n : ℕ) → i ≤ k → k < i + n → i + n ≤ m
      → include before (g k) (map g (between f i n)) ≡ map g (between (λ j. eqb j k || f j) i n)
  unfolding include between
  include-at f k i zero p q r = absurd (omega arith)
  include-at f k i (suc n) p q r =
      by (eqb i k)
      (λ e.
      let z : i ≡ k = eqb-true i k e in
      let s : between f (suc i) n ≡ between (λ j. eqb j k || f j) (suc i) n = between-same f (λ j. eqb j k || f j) (suc i) n (λ j a b. rw (ne_eqb j k (λ y. absurd (omega arith))) refl) in
      rw (e, sym s, sym z)
      (by (f i)
      (λ t. rw (t, c.flat i (omega arith)))
      (λ t. rw t (include-front f i (suc i) n (omega arith) (omega arith)))))
      (λ e.
      let y = include-at f k (suc i) n (omega (arith, eqb-false i k e)) (omega arith) (omega arith) in
      rw e
      (by (f i)
      (λ t. rw (t, c.down i k (omega (arith, eqb-false i k e)) (omega arith), c.up i k (omega (arith, eqb-false i k e)) (omega arith)) (ap (λ l. g i ∷ l) y))
      (λ t. rw t y)))

  -- the set of the values at some places is the values at these places, ascending
  pub set-places : (is : List ℕ) → ((k : ℕ) → elem k is ≡ true → k < m) → set_of before (map g is) ≡ map g (below (λ k. elem k is) m)
  unfolding set_of
  set-places [] h = ap (map g) (sym (between_none (λ k. false) 0 m (λ k. refl)))
  set-places (i ∷ is) h =
      rw (set-places is (λ k e. h k (or_right (eqb k i) e)))
      (include-at (λ k. elem k is) i 0 m (omega arith) (omega (arith, h i (or_left (elem i is) (eqb_same i)))) (omega arith))

  -- what f holds of, and what stands among the others
  pub set-united : (f f' : ℕ → Bool) (is : List ℕ) → ((k : ℕ) → k < m → f' k ≡ (f k || elem k is)) → ((k : ℕ) → elem k is ≡ true → k < m)
      → set_of before (map g (below f m) ++ map g is) ≡ map g (below f' m)
  set-united f f' is h q =
      ap (set_of before) (sym (map-append g (below f m) is))
      ∙ set-places (below f m ++ is)
      (λ k e. by (elem k (below f m)) (λ t. omega (arith, elem_below f k 0 m t)) (λ t. q k (rw (any_append (eqb k) (below f m) is, t) at e)))
      ∙ ap (map g)
      (between-same (λ k. elem k (below f m ++ is)) f' 0 m
      (λ k a b. any_append (eqb k) (below f m) is ∙ ap (λ t. t || elem k is) (elem-between f k 0 m a b) ∙ sym (h k (omega arith))))

  pub set-either : (f h f' : ℕ → Bool) → ((k : ℕ) → k < m → f' k ≡ (f k || h k)) → set_of before (map g (below f m) ++ map g (below h m)) ≡ map g (below f' m)
  set-either f h f' e =
      set-united f f' (below h m)
      (λ k l. e k l ∙ ap (λ t. f k || t) (sym (elem-between h k 0 m (omega arith) (omega arith))))
      (λ k t. omega (arith, elem_below h k 0 m t))
