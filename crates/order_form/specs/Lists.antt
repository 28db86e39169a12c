-- Laws of tests and of lists that the order is proved with. Nothing here knows of types.
use Rattle.std.specs.Prelude.{Bool, true, false, ◌&&◌, ◌||◌, not, cond, ◌≡◌, refl, ℕ, zero, suc, ◌+◌, ◌≤◌, ◌<◌, eqb, ltb, length, get_or, take}
use Rattle.std.proofs.Math.Bool.{or-false, and-true, or-true, and-false}
use mathlib.Core.List.{List, [], ◌∷◌, ◌++◌, map, append-nil, append_assoc, cons≢nil}
use Rattle.std.proofs.Common.{⊎_elim, sym, ap, ap₂, ◌∙◌, subst, zero-le, le_of_suc-le-suc, not-suc-le-zero, le_of_eq, eq-or-lt_of_le, add-one, arith, length-append, ext_get_or, eq-eqb, ne_eqb, eqb-true, lt-ltb, ltb-true}
use Rattle.std.proofs.Math.ListN.{get_or-append}
use Rattle.std.proofs.lemmas.List.{get_or_at}
use Rattle.lists.specs.Lists.{any, all, same_list, keep, filter, each, first_of, place_of}
use Rattle.lists.specs.Tests.{by, never, same_test, and_left, and_right, or_elim, or_left, or_right, or-false-left, or-false-right}
use Rattle.lists.specs.Appending.{append-empty, any_append, all_append, each_append, filter-append, map-append}
use Rattle.lists.specs.Places.{any-taken}
use Rattle.lists.specs.Lexicographic.{same_numbers, numbers-same}

-- ---- any, all, each, filter, first_of, place_of

module _ {A : Type 0} where
  -- a test of each element that agrees with another wherever c holds, on a list of which c holds
  pub all_same : (c f g : A → Bool) (l : List A) → all c l ≡ true → ((x : A) → c x ≡ true → f x ≡ g x) → all f l ≡ all g l
  all_same c f g [] h e = refl
  all_same c f g (x ∷ l) h e =
      ap₂ (λ (a b : Bool). a && b) (e x (and_left (c x) (all c l) h)) (all_same c f g l (and_right (c x) (all c l) h) e)

  pub any_same : (c f g : A → Bool) (l : List A) → all c l ≡ true → ((x : A) → c x ≡ true → f x ≡ g x) → any f l ≡ any g l
  any_same c f g [] h e = refl
  any_same c f g (x ∷ l) h e =
      ap₂ (λ (a b : Bool). a || b) (e x (and_left (c x) (all c l) h)) (any_same c f g l (and_right (c x) (all c l) h) e)

  pub filter_same : (c f g : A → Bool) (l : List A) → all c l ≡ true → ((x : A) → c x ≡ true → f x ≡ g x) → filter f l ≡ filter g l
  filter_same c f g [] h e = refl
  filter_same c f g (x ∷ l) h e =
      ap₂ (λ (b : Bool) (k : List A). keep b x k) (e x (and_left (c x) (all c l) h)) (filter_same c f g l (and_right (c x) (all c l) h) e)

  pub each_same : {B : Type 0} (c : A → Bool) (f g : A → List B) (l : List A) → all c l ≡ true → ((x : A) → c x ≡ true → f x ≡ g x) → each f l ≡ each g l
  each_same c f g [] h e = refl
  each_same {B} c f g (x ∷ l) h e =
      ap₂ (λ (a b : List B). a ++ b) (e x (and_left (c x) (all c l) h)) (each_same c f g l (and_right (c x) (all c l) h) e)

  pub any-not : (f : A → Bool) (l : List A) → any f l ≡ false → all (λ x. not (f x)) l ≡ true
  any-not f [] e = refl
  any-not f (x ∷ l) e = rw (or-false-left (f x) (any f l) e) (any-not f l (or-false-right (f x) (any f l) e))

  pub any_none : (f : A → Bool) (l : List A) → all (λ x. not (f x)) l ≡ true → any f l ≡ false
  any_none f [] e = refl
  any_none f (x ∷ l) e = by (f x) (λ t. never e (rw t)) (λ t. rw t (any_none f l (sym (rw t) ∙ e)))

  pub all-imp : (f g : A → Bool) (l : List A) → ((x : A) → f x ≡ true → g x ≡ true) → all f l ≡ true → all g l ≡ true
  all-imp f g [] h e = refl
  all-imp f g (x ∷ l) h e = rw (h x (and_left (f x) (all f l) e)) (all-imp f g l h (and_right (f x) (all f l) e))

  cond_map : {B : Type 0} (h : A → B) (c : Bool) (a b : List A) → cond c (map h a) (map h b) ≡ map h (cond c a b)
  cond_map h true a b = refl
  cond_map h false a b = refl

  pub first_of-map : {B : Type 0} (f : B → Bool) (h : A → B) (l : List A) → first_of f (map h l) ≡ map h (first_of (λ x. f (h x)) l)
  first_of-map f h [] = refl
  first_of-map {B} f h (x ∷ l) =
      ap (cond (f (h x)) (h x ∷ [])) (first_of-map f h l) ∙ cond_map h (f (h x)) (x ∷ []) (first_of (λ y. f (h y)) l)

  pub first_of-none : (f : A → Bool) (l : List A) → any f l ≡ false → first_of f l ≡ []
  first_of-none f [] e = refl
  first_of-none f (x ∷ l) e = rw (or-false-left (f x) (any f l) e) (first_of-none f l (or-false-right (f x) (any f l) e))

  -- f holds of the first of which it holds
  pub first_of-holds : (f : A → Bool) (l : List A) (y : A) (k : List A) → first_of f l ≡ y ∷ k → f y ≡ true
  first_of-holds f [] y k e = absurd (cons≢nil (sym e))
  first_of-holds f (x ∷ l) y k e =
      by (f x)
      (λ t. let z : x ∷ [] ≡ y ∷ k = sym (rw t) ∙ e in subst (λ (w : A). f w ≡ true) (cc z) t)
      (λ t. first_of-holds f l y k (sym (rw t) ∙ e))

  pub first_of-nil : (f : A → Bool) (l : List A) → first_of f l ≡ [] → any f l ≡ false
  first_of-nil f [] e = refl
  first_of-nil f (x ∷ l) e =
      by (f x) (λ t. let z : x ∷ [] ≡ [] = sym (rw t) ∙ e in absurd (cons≢nil z)) (λ t. rw t (first_of-nil f l (sym (rw t) ∙ e)))

  pub place_of-at : (f : A → Bool) (a : List A) (x : A) (b : List A) → any f a ≡ false → f x ≡ true → place_of f (a ++ x ∷ b) ≡ length a
  place_of-at f [] x b n e = rw e
  place_of-at f (y ∷ a) x b n e =
      rw (or-false-left (f y) (any f a) n) (ap suc (place_of-at f a x b (or-false-right (f y) (any f a) n) e))

  pub place_of-none : (f : A → Bool) (l : List A) → any f l ≡ false → place_of f l ≡ length l
  place_of-none f [] e = refl
  place_of-none f (x ∷ l) e = rw (or-false-left (f x) (any f l) e) (ap suc (place_of-none f l (or-false-right (f x) (any f l) e)))

  -- what stands at the place is the first
  pub first_of-placed : (f : A → Bool) (l : List A) (d : A) → place_of f l < length l → first_of f l ≡ get_or l (place_of f l) d ∷ []
  first_of-placed f [] d h = absurd (not-suc-le-zero h)
  first_of-placed f (x ∷ l) d h =
      by (f x) (λ t. rw t) (λ t. rw t (first_of-placed f l d (le_of_suc-le-suc (subst (λ (b : Bool). cond b zero (suc (place_of f l)) < suc (length l)) t h))))

  pub first_of-beyond : (f : A → Bool) (l : List A) → length l ≤ place_of f l → first_of f l ≡ []
  first_of-beyond f [] h = refl
  first_of-beyond f (x ∷ l) h =
      by (f x)
      (λ t. absurd (not-suc-le-zero (subst (λ (b : Bool). suc (length l) ≤ cond b zero (suc (place_of f l))) t h)))
      (λ t. rw t (first_of-beyond f l (le_of_suc-le-suc (subst (λ (b : Bool). suc (length l) ≤ cond b zero (suc (place_of f l))) t h))))

  -- the default of a read past the end of a list does not matter within it
  pub get_d_any : (l : List A) (i : ℕ) (d e : A) → i < length l → get_or l i d ≡ get_or l i e
  get_d_any [] i d e h = absurd (not-suc-le-zero h)
  get_d_any (x ∷ l) zero d e h = refl
  get_d_any (x ∷ l) (suc i) d e h = get_d_any l i d e (le_of_suc-le-suc h)

-- a list of numbers at most k
pub all_most : (k : ℕ) (l : List ℕ) → all (λ x. ltb x (suc k)) l ≡ true → (i : ℕ) → get_or l i 0 ≤ k
all_most k [] e i = zero-le
all_most k (x ∷ l) e zero = le_of_suc-le-suc (ltb-true x (suc k) (and_left (ltb x (suc k)) (all (λ y. ltb y (suc k)) l) e))
all_most k (x ∷ l) e (suc i) = all_most k l (and_right (ltb x (suc k)) (all (λ y. ltb y (suc k)) l) e) i

-- what a test fails of in the whole list, it fails of at each place
pub any_at : {A : Type 0} (f : A → Bool) (l : List A) (d : A) (i : ℕ) → any f l ≡ false → i < length l → f (get_or l i d) ≡ false
any_at f [] d i e h = absurd (not-suc-le-zero h)
any_at f (x ∷ l) d zero e h = or-false-left (f x) (any f l) e
any_at f (x ∷ l) d (suc i) e h = any_at f l d i (or-false-right (f x) (any f l) e) (le_of_suc-le-suc h)

pub same-list-sym : (a b : List ℕ) → same_list eqb a b ≡ same_list eqb b a
same-list-sym a b =
    same_test
    (λ e. subst (λ (c : List ℕ). same_list eqb c a ≡ true) (same_numbers a b e) (numbers-same {l = a} refl))
    (λ e. subst (λ (c : List ℕ). same_list eqb c b ≡ true) (same_numbers b a e) (numbers-same {l = b} refl))

-- ---- f 0, f 1, .. up to f (n - 1)

abbrev pub tab : {A : Type 0} → (ℕ → A) → ℕ → List A
tab f zero = []
tab f (suc n) = tab f n ++ (f n ∷ [])

module _ {A : Type 0} (f : ℕ → A) where
  pub tab-length : (n : ℕ) → length (tab f n) ≡ n
  tab-length zero = refl
  tab-length (suc n) = rw (length-append, tab-length n) (omega arith)

  pub tab-step : (n : ℕ) → tab f (n + 1) ≡ tab f n ++ (f n ∷ [])
  tab-step n = rw add-one

  pub tab-at : (n i : ℕ) (d : A) → i < n → get_or (tab f n) i d ≡ f i
  tab-at zero i d h = absurd (not-suc-le-zero h)
  tab-at (suc n) i d h =
      ⊎_elim
      (λ (e : i ≡ n). get_or_at (tab f n) (f n) [] d i (tab-length n ∙ sym e) ∙ ap f (sym e))
      (λ (l : i < n). get_or-append (tab f n) (f n ∷ []) d i (rw (tab-length n) l) ∙ tab-at n i d l)
      (eq-or-lt_of_le (le_of_suc-le-suc h))

  -- the list parts before and behind place i
  pub tab-split : (n i : ℕ) → i < n → (rest : List A) × (tab f n ≡ tab f i ++ f i ∷ rest)
  tab-split zero i h = absurd (not-suc-le-zero h)
  tab-split (suc n) i h =
      ⊎_elim
      (λ (e : i ≡ n). ([], rw e))
      (λ (l : i < n).
      let r = tab-split n i l in
      (r.0 ++ (f n ∷ []), ap (λ (k : List A). k ++ (f n ∷ [])) r.1 ∙ append_assoc (tab f i) (f i ∷ r.0) (f n ∷ [])))
      (eq-or-lt_of_le (le_of_suc-le-suc h))

  pub any-tab-step : (g : A → Bool) (n : ℕ) → any g (tab f (n + 1)) ≡ (any g (tab f n) || g (f n))
  any-tab-step g n = rw (tab-step, any_append, or-false)

  pub all-tab-step : (g : A → Bool) (n : ℕ) → all g (tab f (n + 1)) ≡ (all g (tab f n) && g (f n))
  all-tab-step g n = rw (tab-step, all_append, and-true)

  pub each-tab-step : {B : Type 0} (g : A → List B) (n : ℕ) → each g (tab f (n + 1)) ≡ each g (tab f n) ++ g (f n)
  each-tab-step g n = rw (tab-step, each_append, append-nil)

  pub filter-tab-yes : (g : A → Bool) (n : ℕ) → g (f n) ≡ true → filter g (tab f (n + 1)) ≡ filter g (tab f n) ++ (f n ∷ [])
  filter-tab-yes g n e = rw (tab-step, filter-append, e)

  pub filter-tab-no : (g : A → Bool) (n : ℕ) → g (f n) ≡ false → filter g (tab f (n + 1)) ≡ filter g (tab f n)
  filter-tab-no g n e = rw (tab-step, filter-append, e, append-nil)

  pub any-tab-at : (g : A → Bool) (n i : ℕ) → i < n → g (f i) ≡ true → any g (tab f n) ≡ true
  any-tab-at g n i h e = let r = tab-split n i h in rw (r.1, any_append, e, or-true)

  pub all-tab-fails : (g : A → Bool) (n i : ℕ) → i < n → g (f i) ≡ false → all g (tab f n) ≡ false
  all-tab-fails g n i h e = let r = tab-split n i h in rw (r.1, all_append, e, and-false)

  pub all-tab-in : (g : A → Bool) (n i : ℕ) → all g (tab f n) ≡ true → i < n → g (f i) ≡ true
  all-tab-in g n i a h = by (g (f i)) (λ t. t) (λ t. never a (all-tab-fails g n i h t))

  pub any-tab-out : (g : A → Bool) (n i : ℕ) → any g (tab f n) ≡ false → i < n → g (f i) ≡ false
  any-tab-out g n i a h = by (g (f i)) (λ t. never (any-tab-at g n i h t) a) (λ t. t)

  pub all-tab-of : (g : A → Bool) (n : ℕ) → ((i : ℕ) → i < n → g (f i) ≡ true) → all g (tab f n) ≡ true
  all-tab-of g zero h = refl
  all-tab-of g (suc n) h = rw (all_append, all-tab-of g n (λ i l. h i (omega arith)), h n (omega arith))

  -- where `all` fails, it fails at some place
  pub all-tab-not : (g : A → Bool) (n : ℕ) → all g (tab f n) ≡ false → (i : ℕ) × (i < n) × (g (f i) ≡ false)
  all-tab-not g zero e = never refl e
  all-tab-not g (suc n) e =
      by (g (f n))
      (λ t.
      let z : all g (tab f n) ≡ false = sym (rw (all_append, t, and-true)) ∙ e in
      let r = all-tab-not g n z in
      (r.0, omega (arith, r.1), r.2))
      (λ t. (n, omega arith, t))

  -- tests of two rows of values that agree at each place
  pub any-tab-same : {B : Type 0} (g : A → Bool) (h : ℕ → B) (k : B → Bool) (n : ℕ) → ((i : ℕ) → i < n → g (f i) ≡ k (h i)) → any g (tab f n) ≡ any k (tab h n)
  any-tab-same g h k zero e = refl
  any-tab-same g h k (suc n) e = rw (any_append g (tab f n) (f n ∷ []), any_append k (tab h n) (h n ∷ []), any-tab-same g h k n (λ i l. e i (omega arith)), e n (omega arith))

  pub each-tab-none : {B : Type 0} (g : A → List B) (n : ℕ) → ((i : ℕ) → i < n → g (f i) ≡ []) → each g (tab f n) ≡ []
  each-tab-none g zero h = refl
  each-tab-none g (suc n) h = rw (each_append g (tab f n) (f n ∷ []), each-tab-none g n (λ i l. h i (omega arith)), h n (omega arith))

  pub each-tab-nil : {B : Type 0} (g : A → List B) (n i : ℕ) → each g (tab f n) ≡ [] → i < n → g (f i) ≡ []
  each-tab-nil g n i e h =
      let r = tab-split n i h in
      (append-empty (g (f i)) (each g r.0) (append-empty (each g (tab f i)) (each g (f i ∷ r.0)) (sym (each_append g (tab f i) (f i ∷ r.0)) ∙ sym (ap (each g) r.1) ∙ e)).1).0

  pub place_of-tab-at : (g : A → Bool) (n i : ℕ) → i < n → any g (tab f i) ≡ false → g (f i) ≡ true → place_of g (tab f n) ≡ i
  place_of-tab-at g n i h a e = let r = tab-split n i h in rw r.1 (place_of-at g (tab f i) (f i) r.0 a e ∙ tab-length i)

  pub place_of-tab-none : (g : A → Bool) (n : ℕ) → any g (tab f n) ≡ false → place_of g (tab f n) ≡ n
  place_of-tab-none g n e = place_of-none g (tab f n) e ∙ tab-length n

pub tab-same : {A : Type 0} (f g : ℕ → A) (n : ℕ) → ((i : ℕ) → i < n → f i ≡ g i) → tab f n ≡ tab g n
tab-same f g zero h = refl
tab-same f g (suc n) h = rw (tab-same f g n (λ i l. h i (omega arith)), h n (omega arith))

pub map-tab : {A B : Type 0} (g : A → B) (f : ℕ → A) (n : ℕ) → map g (tab f n) ≡ tab (λ i. g (f i)) n
map-tab g f zero = refl
map-tab g f (suc n) = rw (map-append g (tab f n) (f n ∷ []), map-tab g f n)

pub tab-get_d : {A : Type 0} (l : List A) (d : A) → tab (λ i. get_or l i d) (length l) ≡ l
tab-get_d l d =
    ext_get_or d (tab (λ i. get_or l i d) (length l)) l (tab-length (λ i. get_or l i d) (length l))
    (λ i h. tab-at (λ j. get_or l j d) (length l) i d (subst (λ (n : ℕ). i < n) (tab-length (λ j. get_or l j d) (length l)) h))

-- ---- whether a number is in a list

abbrev pub elem : ℕ → List ℕ → Bool
elem x l = any (eqb x) l

-- one element more
pub elem-step : (x : ℕ) (l : List ℕ) (j : ℕ) → j < length l → elem x (take (j + 1) l) ≡ (elem x (take j l) || eqb x (get_or l j 0))
elem-step x l j h = any-taken (eqb x) l j 0 h

-- what stands at a place is in the list
pub elem_at : (x : ℕ) (l : List ℕ) (n j : ℕ) → j < n → j < length l → get_or l j 0 ≡ x → elem x (take n l) ≡ true
elem_at x [] n j p q e = absurd (not-suc-le-zero q)
elem_at x (y ∷ l) zero j p q e = absurd (not-suc-le-zero p)
elem_at x (y ∷ l) (suc n) zero p q e = rw (eq-eqb x y (sym e))
elem_at x (y ∷ l) (suc n) (suc j) p q e = rw (elem_at x l n j (le_of_suc-le-suc p) (le_of_suc-le-suc q) e, or-true)

pub elem-left : (x : ℕ) (a b : List ℕ) → elem x a ≡ true → elem x (a ++ b) ≡ true
elem-left x a b e = rw any_append (or_left (elem x b) e)

pub elem-right : (x : ℕ) (a b : List ℕ) → elem x b ≡ true → elem x (a ++ b) ≡ true
elem-right x a b e = rw any_append (or_right (elem x a) e)

pub elem-cases : {C : Type 0} (x : ℕ) (a b : List ℕ) → elem x (a ++ b) ≡ true → (elem x a ≡ true → C) → (elem x b ≡ true → C) → C
elem-cases x a b e f g = or_elim (elem x a) (elem x b) (sym (any_append (eqb x) a b) ∙ e) f g

pub all_in : (f : ℕ → Bool) (l : List ℕ) (x : ℕ) → all f l ≡ true → elem x l ≡ true → f x ≡ true
all_in f [] x a e = never e refl
all_in f (y ∷ l) x a e =
    or_elim (eqb x y) (elem x l) e
    (λ q. ap f (eqb-true x y q) ∙ and_left (f y) (all f l) a)
    (λ q. all_in f l x (and_right (f y) (all f l) a) q)

pub all_of : (f : ℕ → Bool) (l : List ℕ) → ((x : ℕ) → elem x l ≡ true → f x ≡ true) → all f l ≡ true
all_of f [] h = refl
all_of f (y ∷ l) h =
    rw (h y (or_left (elem y l) (eq-eqb y y refl))) (all_of f l (λ x e. h x (or_right (eqb x y) e)))

-- ---- the numbers below n of which f holds, ascending

abbrev pub only : Bool → ℕ → List ℕ
only true n = n ∷ []
only false n = []

abbrev pub below : (ℕ → Bool) → ℕ → List ℕ
below f zero = []
below f (suc n) = below f n ++ only (f n) n

pub below_step : (f : ℕ → Bool) (t : ℕ) → below f (t + 1) ≡ below f t ++ only (f t) t
below_step f t = rw add-one

pub below-yes : (f : ℕ → Bool) (t : ℕ) → f t ≡ true → below f (t + 1) ≡ below f t ++ (t ∷ [])
below-yes f t e = rw (below_step, e)

pub below-no : (f : ℕ → Bool) (t : ℕ) → f t ≡ false → below f (t + 1) ≡ below f t
below-no f t e = rw (below_step, e, append-nil)

pub below-le : (f : ℕ → Bool) (t n : ℕ) → t ≤ n → length (below f t) ≤ length (below f n)
below-le f zero n h = zero-le
below-le f (suc t) zero h = absurd (not-suc-le-zero h)
below-le f (suc t) (suc n) h =
    ⊎_elim
    (λ (e : suc t ≡ suc n). le_of_eq (ap (λ (k : ℕ). length (below f k)) e))
    (λ (l : suc t < suc n). omega (arith, below-le f (suc t) n (le_of_suc-le-suc l), length-append (below f n) (only (f n) n)))
    (eq-or-lt_of_le h)

pub below-lt : (f : ℕ → Bool) (t n : ℕ) → t < n → f t ≡ true → length (below f t) < length (below f n)
below-lt f t n h e =
    let l : length (below f (t + 1)) ≤ length (below f n) = below-le f (t + 1) n (omega arith) in
    omega (arith, ap length (below-yes f t e), length-append (below f t) (t ∷ []))

pub below_in : (f : ℕ → Bool) (n x : ℕ) → x < n → f x ≡ true → elem x (below f n) ≡ true
below_in f zero x h e = absurd (not-suc-le-zero h)
below_in f (suc n) x h e =
    ⊎_elim
    (λ (q : x ≡ n). elem-right x (below f n) (only (f n) n) (rw (← q, e, eq-eqb x x refl)))
    (λ (l : x < n). elem-left x (below f n) (only (f n) n) (below_in f n x l e))
    (eq-or-lt_of_le (le_of_suc-le-suc h))

only-is : (b : Bool) (n x : ℕ) → elem x (only b n) ≡ true → (x ≡ n) × (b ≡ true)
only-is true n x e = or_elim (eqb x n) false e (λ q. (eqb-true x n q, refl)) (λ q. never q refl)
only-is false n x e = never e refl

pub below-is : (f : ℕ → Bool) (n x : ℕ) → elem x (below f n) ≡ true → (x < n) × (f x ≡ true)
below-is f zero x e = never e refl
below-is f (suc n) x e =
    elem-cases x (below f n) (only (f n) n) e
    (λ q. let r = below-is f n x q in (omega (arith, r.0), r.1))
    (λ q. let r = only-is (f n) n x q in (omega (arith, r.0), ap f r.0 ∙ r.1))

only-most : (b : Bool) (k : ℕ) → length (only b k) ≤ 1
only-most true k = omega arith
only-most false k = omega arith

pub below-most : (f : ℕ → Bool) (n : ℕ) → length (below f n) ≤ n
below-most f zero = zero-le
below-most f (suc n) = rw length-append (omega (arith, below-most f n, only-most (f n) n))

pub below-short : (f : ℕ → Bool) (n x : ℕ) → x < n → f x ≡ false → length (below f n) < n
below-short f zero x h e = absurd (not-suc-le-zero h)
below-short f (suc n) x h e =
    ⊎_elim
    (λ (q : x ≡ n). rw (← q, e, append-nil) (omega (arith, below-most f x)))
    (λ (l : x < n). rw length-append (omega (arith, below-short f n x l e, only-most (f n) n)))
    (eq-or-lt_of_le (le_of_suc-le-suc h))

pub below_none : (f : ℕ → Bool) (n : ℕ) → ((x : ℕ) → x < n → f x ≡ false) → below f n ≡ []
below_none f zero h = refl
below_none f (suc n) h = rw (below_none f n (λ x l. h x (omega arith)), h n (omega arith))

-- where as many as all are listed, each is
pub below-full : (f : ℕ → Bool) (n : ℕ) → length (below f n) ≡ n → (x : ℕ) → x < n → f x ≡ true
below-full f n e x h = by (f x) (λ t. t) (λ t. absurd (omega (arith, below-short f n x h t)))

-- numbers that satisfy one of two tests that exclude each other
only-split : (a b c : Bool) (n : ℕ) → c ≡ (a || b) → (a ≡ true → b ≡ true → ⊥) → length (only c n) ≡ length (only a n) + length (only b n)
only-split true true c n e h = absurd (h refl refl)
only-split true false c n e h = rw e
only-split false true c n e h = rw e
only-split false false c n e h = rw e

pub below_split : (f g h : ℕ → Bool) (n : ℕ) → ((x : ℕ) → x < n → h x ≡ (f x || g x)) → ((x : ℕ) → f x ≡ true → g x ≡ true → ⊥)
    → length (below h n) ≡ length (below f n) + length (below g n)
below_split f g h zero e d = omega arith
below_split f g h (suc n) e d =
    simp length-append
    (omega (arith, below_split f g h n (λ x l. e x (omega arith)) d, only-split (f n) (g n) (h n) n (e n (omega arith)) (d n)))

pub below-same : (f g : ℕ → Bool) (n : ℕ) → ((x : ℕ) → x < n → f x ≡ g x) → below f n ≡ below g n
below-same f g zero e = refl
below-same f g (suc n) e =
    ap₂ (λ (a b : List ℕ). a ++ b) (below-same f g n (λ x l. e x (omega arith))) (ap (λ (b : Bool). only b n) (e n (omega arith)))

pub below_all : (f : ℕ → Bool) (n : ℕ) → ((x : ℕ) → x < n → f x ≡ true) → length (below f n) ≡ n
below_all f zero h = refl
below_all f (suc n) h = rw (h n (omega arith), length-append, below_all f n (λ x l. h x (omega arith))) (omega arith)

-- the one number that is t
pub below_one : (n t : ℕ) → t < n → below (λ x. eqb t x) n ≡ t ∷ []
below_one zero t h = absurd (not-suc-le-zero h)
below_one (suc n) t h =
    ⊎_elim
    (λ (e : t ≡ n). rw (eq-eqb t n e, below_none (λ x. eqb t x) n (λ x l. ne_eqb t x (λ q. omega arith))) (ap (λ (k : ℕ). k ∷ []) (sym e)))
    (λ (l : t < n). rw (ne_eqb t n (λ q. omega arith), append-nil) (below_one n t l))
    (eq-or-lt_of_le (le_of_suc-le-suc h))

-- each of them is below n
pub below-all-lt : (f : ℕ → Bool) (n : ℕ) → all (λ x. ltb x n) (below f n) ≡ true
below-all-lt f n = all_of (λ x. ltb x n) (below f n) (λ x e. lt-ltb x n (below-is f n x e).0)

-- a filter of what a function makes of them
filter-only : {A : Type 0} (f : A → Bool) (h : ℕ → A) (b : Bool) (n : ℕ) → filter f (map h (only b n)) ≡ map h (only (b && f (h n)) n)
filter-only f h true n = by (f (h n)) (λ t. rw t) (λ t. rw t)
filter-only f h false n = refl

pub filter-below : {A : Type 0} (f : A → Bool) (h : ℕ → A) (g : ℕ → Bool) (n : ℕ) → filter f (map h (below g n)) ≡ map h (below (λ x. g x && f (h x)) n)
filter-below f h g zero = refl
filter-below {A} f h g (suc n) =
    ap (filter f) (map-append h (below g n) (only (g n) n))
    ∙ filter-append f (map h (below g n)) (map h (only (g n) n))
    ∙ ap₂ (λ (a b : List A). a ++ b) (filter-below f h g n) (filter-only f h (g n) n)
    ∙ sym (map-append h (below (λ x. g x && f (h x)) n) (only (g n && f (h n)) n))

-- a list is what its places hold
pub map_below : {A : Type 0} (h : ℕ → A) (n : ℕ) → map h (below (λ x. true) n) ≡ tab h n
map_below h zero = refl
map_below {A} h (suc n) = map-append h (below (λ x. true) n) (n ∷ []) ∙ ap (λ (l : List A). l ++ (h n ∷ [])) (map_below h n)
