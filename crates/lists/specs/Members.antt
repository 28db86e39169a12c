-- Places, filters, lists without repeats, and how long lists are.
use Rattle.std.specs.Prelude.{Bool, true, false, List, [], ◌∷◌, ◌++◌, map, ◌⊎◌, ◌≡◌, refl, ℕ, zero, suc, ◌+◌, ◌*◌, ◌≤◌, ◌<◌, length}
use mathlib.Core.List.Memᴰ
use Rattle.std.proofs.Common.{inl, inr, ⊎_elim, sym, ap, ◌∙◌, subst, zero-le, arith, length-append}
use Rattle.lists.specs.Lists.{In, At, here, later, Sorted, keep, filter, each}
use Rattle.lists.specs.Tests.{by, never, not_so, cons-elim, each_of, each_in, at_in}
use Rattle.lists.specs.Sorting.{Distinct, sorted-append, sorted-across}

-- ---- places

pub in-at : {A : Type 0} {x : A} {l : List A} → In x l → (i : ℕ) × At x i l
in-at {x = x} (Memᴰ.head {xs = l} e) = (zero, subst (λ y. At x zero (y ∷ l)) e here)
in-at (Memᴰ.tail h) = let r = in-at h in (suc r.0, later r.1)

-- what holds between the elements at any two places, the first before the second
pub sorted-at : {A : Type 0} (R : A → A → Type 0) (l : List A) → ((i j : ℕ) (x y : A) → At x i l → At y j l → i < j → R x y) → Sorted R l
sorted-at R [] h = tt
sorted-at R (x ∷ l) h = (
  λ y i. let p = in-at i in h zero (suc p.0) x y here (later p.1) (omega arith),
  sorted-at R l (λ i j a b p q k. h (suc i) (suc j) a b (later p) (later q) (omega arith)),
)

pub at-sorted : {A : Type 0} (R : A → A → Type 0) {x y : A} {i j : ℕ} {l : List A} → Sorted R l → At x i l → At y j l → i < j → R x y
at-sorted R {y = y} s here here h = absurd (omega arith)
at-sorted R {y = y} s here (later q) h = s.0 y (at_in q)
at-sorted R s (later p) here h = absurd (omega arith)
at-sorted R s (later p) (later q) h = at-sorted R s.1 p q (omega arith)

-- ---- filters

pub filter-short : {A : Type 0} (f : A → Bool) (l : List A) → length (filter f l) ≤ length l
filter-short f [] = zero-le
filter-short f (x ∷ l) = let h = filter-short f l in by (f x) (λ p. rw p (omega arith)) (λ p. rw p (omega arith))

-- of two tests, the second holding wherever the first does, the second keeps the same elements or more
pub filter-grows : {A : Type 0} (f g : A → Bool) (l : List A) → ((x : A) → In x l → f x ≡ true → g x ≡ true)
    → (filter f l ≡ filter g l) ⊎ (length (filter f l) < length (filter g l))
filter-grows f g [] h = inl refl
filter-grows f g (x ∷ l) h =
    let r = filter-grows f g l (λ y i. h y (Memᴰ.tail i)) in
    by (f x)
    (λ p. rw (p, h x (Memᴰ.head refl) p) (⊎_elim (λ e. inl (ap (λ k. x ∷ k) e)) (λ (k : length (filter f l) < length (filter g l)). inr (omega arith)) r))
    (λ p.
    by (g x)
    (λ q. rw (p, q) (inr (⊎_elim (λ e. let n = ap length e in omega arith) (λ (k : length (filter f l) < length (filter g l)). omega arith) r)))
    (λ q. rw (p, q) r))

pub filter_none : {A : Type 0} (f : A → Bool) (l : List A) → ((x : A) → In x l → f x ≡ false) → filter f l ≡ []
filter_none f [] h = refl
filter_none f (x ∷ l) h = rw (h x (Memᴰ.head refl)) (filter_none f l (λ y i. h y (Memᴰ.tail i)))

-- the test holds of one element alone
pub filter-one : {A : Type 0} (f : A → Bool) (x : A) (l : List A) → Distinct l → In x l → f x ≡ true → ((y : A) → In y l → f y ≡ true → y ≡ x) → filter f l ≡ x ∷ []
filter-one f x [] d i p h = absurd (Memᴰ.not-nil i)
filter-one f x (y ∷ l) d i p h =
    by (f y)
    (λ q.
    let e = h y (Memᴰ.head refl) q in
    let n : filter f l ≡ [] = filter_none f l (λ z j. not_so (λ t. d.0 z j (e ∙ sym (h z (Memᴰ.tail j) t)))) in
    rw (q, n, e))
    (λ q. rw q (cons-elim i (λ e. never (ap f (sym e) ∙ p) q) (λ j. filter-one f x l d.1 j p (λ z k. h z (Memᴰ.tail k)))))

-- ---- lists without repeats

-- what f makes of a list without repeats has none, where each list that f makes has none and an element comes from one list
-- alone
pub distinct-each : {A B : Type 0} (f : A → List B) (l : List A) → Distinct l → ((x : A) → In x l → Distinct (f x))
    → ((x y : A) (z : B) → In x l → In y l → In z (f x) → In z (f y) → x ≡ y) → Distinct (each f l)
distinct-each f [] d h k = tt
distinct-each f (x ∷ l) d h k =
    sorted-append (λ a b. a ≡ b → ⊥) (f x) (each f l) (h x (Memᴰ.head refl))
    (distinct-each f l d.1 (λ y i. h y (Memᴰ.tail i)) (λ y z w i j. k y z w (Memᴰ.tail i) (Memᴰ.tail j)))
    (λ a b i j e.
    let r = each_of f l j in
    d.0 r.0 r.1 (k x r.0 b (Memᴰ.head refl) (Memᴰ.tail r.1) (Memᴰ.cast (sym e) i) r.2))

pub distinct-map : {A B : Type 0} (f : A → B) (l : List A) → Distinct l → ((x y : A) → In x l → In y l → f x ≡ f y → x ≡ y) → Distinct (map f l)
distinct-map f [] d h = tt
distinct-map f (x ∷ l) d h = (
  λ z i e. let r = Memᴰ.of_map f l i in d.0 r.0 r.1 (h x r.0 (Memᴰ.head refl) (Memᴰ.tail r.1) (e ∙ sym r.2)),
  distinct-map f l d.1 (λ y z i j. h y z (Memᴰ.tail i) (Memᴰ.tail j)),
)

-- ---- sorted lists

pub sorted-map : {A B : Type 0} (R : B → B → Type 0) (f : A → B) (l : List A) → Sorted (λ x y. R (f x) (f y)) l → Sorted R (map f l)
sorted-map R f [] s = tt
sorted-map R f (x ∷ l) s = (λ z i. let r = Memᴰ.of_map f l i in subst (R (f x)) r.2 (s.0 r.0 r.1), sorted-map R f l s.1)

pub map-sorted : {A B : Type 0} (R : B → B → Type 0) (f : A → B) (l : List A) → Sorted R (map f l) → Sorted (λ x y. R (f x) (f y)) l
map-sorted R f [] s = tt
map-sorted R f (x ∷ l) s = (λ y i. s.0 (f y) (Memᴰ.map f i), map-sorted R f l s.1)

-- R between all that f makes of x and all that it makes of y
abbrev pub Between : {A B : Type 0} → (B → B → Type 0) → (A → List B) → A → A → Type 0
Between {B = B} R f x y = (a b : B) → In a (f x) → In b (f y) → R a b

pub sorted-left : {A : Type 0} (R : A → A → Type 0) (a b : List A) → Sorted R (a ++ b) → Sorted R a
sorted-left R [] b s = tt
sorted-left R (x ∷ a) b s = (λ y i. s.0 y (Memᴰ.append_left b i), sorted-left R a b s.1)

pub sorted-right : {A : Type 0} (R : A → A → Type 0) (a b : List A) → Sorted R (a ++ b) → Sorted R b
sorted-right R [] b s = s
sorted-right R (x ∷ a) b s = sorted-right R a b s.1

pub sorted-each : {A B : Type 0} (R : B → B → Type 0) (f : A → List B) (l : List A) → ((x : A) → In x l → Sorted R (f x)) → Sorted (Between R f) l → Sorted R (each f l)
sorted-each R f [] h s = tt
sorted-each R f (x ∷ l) h s =
    sorted-append R (f x) (each f l) (h x (Memᴰ.head refl)) (sorted-each R f l (λ y i. h y (Memᴰ.tail i)) s.1)
    (λ a b i j. let r = each_of f l j in s.0 r.0 r.1 a b i r.2)

pub each-sorted : {A B : Type 0} (R : B → B → Type 0) (f : A → List B) (l : List A) → Sorted R (each f l) → Sorted (Between R f) l
each-sorted R f [] s = tt
each-sorted R f (x ∷ l) s = (λ y i a b j k. sorted-across R (f x) (each f l) s a b j (each_in f i k), each-sorted R f l (sorted-right R (f x) (each f l) s))

pub each-sorted-in : {A B : Type 0} (R : B → B → Type 0) (f : A → List B) {x : A} {l : List A} → Sorted R (each f l) → In x l → Sorted R (f x)
each-sorted-in R f s (Memᴰ.head {x = y} {xs = l} e) = subst (λ z. Sorted R (f z)) (sym e) (sorted-left R (f y) (each f l) s)
each-sorted-in R f s (Memᴰ.tail {x = y} {xs = l} i) = each-sorted-in R f (sorted-right R (f y) (each f l) s) i

-- ---- lengths

-- what f makes of l, at most b of each
pub each-short : {A B : Type 0} (f : A → List B) (l : List A) (b : ℕ) → ((x : A) → In x l → length (f x) ≤ b) → length (each f l) ≤ length l * b
each-short f [] b h = zero-le
each-short f (x ∷ l) b h =
    let p = h x (Memᴰ.head refl) in
    let q = each-short f l b (λ y i. h y (Memᴰ.tail i)) in
    rw length-append (omega arith)

-- numbers that ascend, from k on and below n
pub rising-short : (l : List ℕ) (k n : ℕ) → k ≤ n → Sorted (λ x y. x < y) l → ((x : ℕ) → In x l → (k ≤ x) × (x < n)) → length l + k ≤ n
rising-short [] k n h s b = omega arith
rising-short (x ∷ l) k n h s b =
    let p = b x (Memᴰ.head refl) in
    let q = rising-short l (suc x) n (omega arith) s.1 (λ y i. (s.0 y i, (b y (Memᴰ.tail i)).1)) in
    omega arith

keep-none : {A K : Type 0} (t : K → Bool) (u : A) (g : K → List A) (l : List K) → ((r : K) → In r l → t r ≡ false) → length (each (λ r. keep (t r) u (g r)) l) ≡ length (each g l)
keep-none t u g [] h = refl
keep-none t u g (r ∷ l) h =
    let q = keep-none t u g l (λ y i. h y (Memᴰ.tail i)) in
    rw (h r (Memᴰ.head refl), length-append (g r) (each (λ r. keep (t r) u (g r)) l), length-append (g r) (each g l), q)

-- an element that is kept for one r at most
pub keep-once : {A K : Type 0} (t : K → Bool) (u : A) (g : K → List A) (l : List K) → Distinct l → ((r q : K) → t r ≡ true → t q ≡ true → r ≡ q)
    → length (each (λ r. keep (t r) u (g r)) l) ≤ suc (length (each g l))
keep-once t u g [] d h = zero-le
keep-once t u g (r ∷ l) d h =
    by (t r)
    (λ e.
    let q = keep-none t u g l (λ y i. not_so (λ f. d.0 y i (h r y e f))) in
    rw (e, length-append (g r) (each (λ r. keep (t r) u (g r)) l), length-append (g r) (each g l), q) (omega arith))
    (λ e.
    let q = keep-once t u g l d.1 h in
    rw (e, length-append (g r) (each (λ r. keep (t r) u (g r)) l), length-append (g r) (each g l)) (omega arith))

-- f makes at most two more than g
pub each_more : {A B K : Type 0} (f : K → List A) (g : K → List B) (l : List K) → ((r : K) → length (f r) ≤ length (g r) + 2)
    → length (each f l) ≤ length (each g l) + length l + length l
each_more f g [] h = zero-le
each_more f g (r ∷ l) h =
    let p = h r in
    let q = each_more f g l h in
    rw (length-append (f r) (each f l), length-append (g r) (each g l)) (omega arith)
