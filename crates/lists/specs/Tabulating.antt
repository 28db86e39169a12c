-- The first places of an array as a list, and its laws.
use Rattle.std.specs.Prelude.{Bool, true, List, [], ◌∷◌, ◌++◌, map, ◌≡◌, refl, ℕ, zero, suc, ◌+◌, ◌≤◌, ◌<◌, length, get_or, set, take}
use mathlib.Core.List.Memᴰ
use Rattle.std.proofs.Common.{⊎_elim, sym, ap, ◌∙◌, le_of_suc-le-suc, not-suc-le-zero, eq-or-lt_of_le, add-one, arith, length-append, get_or-set_other, get_or-set_same, take_all, take-suc}
use Rattle.std.proofs.lemmas.List.{length-map, get_or_at, take-append-le}
use Rattle.std.proofs.Math.ListN.{get_or-append}
use Rattle.lists.specs.Lists.{In, all, each}
use Rattle.lists.specs.Tests.{and_both}
use Rattle.lists.specs.Appending.{map-append, all_append, each_snoc}

-- f 0, f 1, and so on, n in all
unfoldable pub tabulate : {A : Type 0} → (ℕ → A) → ℕ → List A
tabulate f zero = []
tabulate f (suc n) = tabulate f n ++ (f n ∷ [])

-- the first n places of an array, as g makes them; d stands past its end
unfoldable pub places : {A B : Type 0} → (A → B) → A → List A → ℕ → List B
places g d l n = tabulate (λ i. g (get_or l i d)) n

-- ---- `tabulate`

pub length-tabulate : {A : Type 0} (f : ℕ → A) (n : ℕ) → length (tabulate f n) ≡ n
unfolding tabulate
length-tabulate f zero = refl
length-tabulate f (suc n) = rw (length-append, length-tabulate f n) (add-one n)

pub tabulate-more : {A : Type 0} (f : ℕ → A) (n : ℕ) → tabulate f (n + 1) ≡ tabulate f n ++ (f n ∷ [])
unfolding tabulate
tabulate-more f n = rw (add-one n)

pub tabulate-same : {A : Type 0} (f g : ℕ → A) (n : ℕ) → ((i : ℕ) → i < n → f i ≡ g i) → tabulate f n ≡ tabulate g n
unfolding tabulate
tabulate-same f g zero h = refl
tabulate-same f g (suc n) h = rw (tabulate-same f g n (λ i l. h i (omega arith)), h n (omega arith))

-- place n is set, and stands behind the first n
pub tabulate-set : {A : Type 0} (f g : ℕ → A) (n : ℕ) (x : A) → ((i : ℕ) → i < n → g i ≡ f i) → g n ≡ x → tabulate g (n + 1) ≡ tabulate f n ++ (x ∷ [])
tabulate-set f g n x h e = rw (tabulate-more g n, tabulate-same g f n h, e)

pub get_d_tabulate : {A : Type 0} (f : ℕ → A) (n i : ℕ) (d : A) → i < n → get_or (tabulate f n) i d ≡ f i
unfolding tabulate
get_d_tabulate f zero i d h = absurd (not-suc-le-zero h)
get_d_tabulate f (suc n) i d h =
    ⊎_elim
    (λ (e : i ≡ n). get_or_at (tabulate f n) (f n) [] d i (length-tabulate f n ∙ sym e) ∙ ap f (sym e))
    (λ (l : i < n). get_or-append (tabulate f n) (f n ∷ []) d i (rw (length-tabulate f n) l) ∙ get_d_tabulate f n i d l)
    (eq-or-lt_of_le (le_of_suc-le-suc h))

pub map-tabulate : {A B : Type 0} (f : A → B) (g : ℕ → A) (n : ℕ) → map f (tabulate g n) ≡ tabulate (λ i. f (g i)) n
unfolding tabulate
map-tabulate f g zero = refl
map-tabulate f g (suc n) = map-append f (tabulate g n) (g n ∷ []) ∙ ap (λ l. l ++ (f (g n) ∷ [])) (map-tabulate f g n)

-- a place below n gives a member, and a member has such a place
pub tabulate-in : {A : Type 0} (f : ℕ → A) (n i : ℕ) → i < n → In (f i) (tabulate f n)
unfolding tabulate
tabulate-in f zero i h = absurd (not-suc-le-zero h)
tabulate-in f (suc n) i h =
    ⊎_elim
    (λ (e : i ≡ n). Memᴰ.append_right (tabulate f n) (Memᴰ.head (ap f e)))
    (λ (l : i < n). Memᴰ.append_left (f n ∷ []) (tabulate-in f n i l))
    (eq-or-lt_of_le (le_of_suc-le-suc h))

pub tabulate-of : {A : Type 0} (f : ℕ → A) (n : ℕ) {x : A} → In x (tabulate f n) → (i : ℕ) × (i < n) × (x ≡ f i)
unfolding tabulate
tabulate-of f zero i = absurd (Memᴰ.not-nil i)
tabulate-of f (suc n) {x} i =
    ⊎_elim
    (λ (j : In x (tabulate f n)). let r = tabulate-of f n j in (r.0, omega (arith, r.1), r.2))
    (λ (j : In x (f n ∷ [])). (n, omega arith, Memᴰ.eq_of_singleton j))
    (Memᴰ.append_cases (tabulate f n) i)

pub all-tabulate : {A : Type 0} (p : A → Bool) (f : ℕ → A) (n : ℕ) → ((i : ℕ) → i < n → p (f i) ≡ true) → all p (tabulate f n) ≡ true
unfolding tabulate
all-tabulate p f zero h = refl
all-tabulate p f (suc n) h =
    all_append p (tabulate f n) (f n ∷ []) ∙ and_both (all-tabulate p f n (λ i l. h i (omega arith))) (and_both (h n (omega arith)) refl)

-- the first p
pub take-tabulate : {A : Type 0} (f : ℕ → A) (n p : ℕ) → p ≤ n → take p (tabulate f n) ≡ tabulate f p
unfolding tabulate
take-tabulate f zero zero h = refl
take-tabulate f zero (suc p) h = absurd (not-suc-le-zero h)
take-tabulate f (suc n) p h =
    ⊎_elim
    (λ (e : p ≡ suc n). take_all p (tabulate f (suc n)) (omega (arith, length-tabulate f (suc n))) ∙ ap (tabulate f) (sym e))
    (λ (l : p < suc n). take-append-le p (tabulate f n) (f n ∷ []) (omega (arith, length-tabulate f n)) ∙ take-tabulate f n p (le_of_suc-le-suc l))
    (eq-or-lt_of_le h)

pub taken : {A : Type 0} (l : List A) (d : A) (n : ℕ) → n ≤ length l → take n l ≡ tabulate (λ i. get_or l i d) n
unfolding tabulate
taken l d zero h = refl
taken l d (suc n) h = rw (take-suc l n d (omega arith), taken l d n (omega arith))

-- what is made of one more
pub each_start : {A B : Type 0} (g : A → List B) (f : ℕ → A) → each g (tabulate f 0) ≡ []
unfolding tabulate
each_start g f = refl

pub each_next : {A B : Type 0} (g : A → List B) (f : ℕ → A) (n : ℕ) → each g (tabulate f (n + 1)) ≡ each g (tabulate f n) ++ g (f n)
each_next g f n = ap (each g) (tabulate-more f n) ∙ each_snoc g (tabulate f n) (f n)

-- ---- `places`

pub length-places : {A B : Type 0} (g : A → B) (d : A) (l : List A) (n : ℕ) → length (places g d l n) ≡ n
unfolding places
length-places g d l n = length-tabulate (λ i. g (get_or l i d)) n

pub places-more : {A B : Type 0} (g : A → B) (d : A) (l : List A) (n : ℕ) → places g d l (n + 1) ≡ places g d l n ++ (g (get_or l n d) ∷ [])
unfolding places
places-more g d l n = tabulate-more (λ i. g (get_or l i d)) n

pub places-none : {A B : Type 0} (g : A → B) (d : A) (l : List A) → places g d l 0 ≡ []
unfolding places tabulate
places-none g d l = refl

pub places-set : {A B : Type 0} (g : A → B) (d : A) (l : List A) (n : ℕ) (x : A) → n < length l →
    places g d (set l n x) (n + 1) ≡ places g d l n ++ (g x ∷ [])
unfolding places
places-set g d l n x h =
    tabulate-set (λ i. g (get_or l i d)) (λ i. g (get_or (set l n x) i d)) n (g x)
    (λ i s. ap g (get_or-set_other l n i x d (λ e. omega arith)))
    (ap g (get_or-set_same l n x d h))

pub get_d-places : {A B : Type 0} (g : A → B) (d : A) (l : List A) (n i : ℕ) (e : B) → i < n → get_or (places g d l n) i e ≡ g (get_or l i d)
unfolding places
get_d-places g d l n i e h = get_d_tabulate (λ i. g (get_or l i d)) n i e h

pub places-in : {A B : Type 0} (g : A → B) (d : A) (l : List A) (n i : ℕ) → i < n → In (g (get_or l i d)) (places g d l n)
unfolding places
places-in g d l n i h = tabulate-in (λ j. g (get_or l j d)) n i h

-- ---- arrays of structs

-- for `search`: of a field that is an array of structs the length is known as that of its image
pub length-mapped : {A B : Type 0} (f : A → B) (l : List A) (n : ℕ) → length (map f l) ≡ n → length l ≡ n
length-mapped f l n e = sym (length-map l f) ∙ e
