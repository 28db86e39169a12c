-- Laws of lists by place: what stands at a place, and what is left to do of a list from place i on.
use Rattle.std.specs.Prelude.{Bool, true, false, ◌&&◌, ◌||◌, not, cond, List, [], ◌∷◌, ◌++◌, ◌≡◌, refl, ℕ, zero, suc, ◌+◌, ◌≤◌, ◌<◌, eqb, ltb, leb, length, take, drop, get_or, set, replicate}
use Rattle.std.proofs.Math.Bool.{and-false, or-false}
use mathlib.Core.List.Memᴰ
use Rattle.std.proofs.Common.{sym, ap, ◌∙◌, le_of_suc-le-suc, not-suc-le-zero, add-one, arith, eqb-true, le-leb, leb-true, leb-false, ltb-true, ltb-false, drop_of_length-le, take-suc, drop-cons, get_or-set_same, get_or-set_other}
use Rattle.std.proofs.lemmas.Bool.{eqb-false, lt-leb}
use Rattle.lists.specs.Lists.{In, At, here, later, Sorted, any, all, ascends, same_list, list_before, place_of, repeats, insert}
use Rattle.lists.specs.Tests.{by, never}
use Rattle.lists.specs.Appending.{any_append}

-- ---- what stands at a place

pub get_d-in : {A : Type 0} (l : List A) (d : A) (i : ℕ) → i < length l → In (get_or l i d) l
get_d-in [] d i h = absurd (not-suc-le-zero h)
get_d-in (x ∷ l) d zero h = Memᴰ.head refl
get_d-in (x ∷ l) d (suc i) h = Memᴰ.tail (get_d-in l d i (le_of_suc-le-suc h))

pub at_place : {A : Type 0} (l : List A) (d : A) (i : ℕ) → i < length l → At (get_or l i d) i l
at_place [] d i h = absurd (omega arith)
at_place (x ∷ l) d zero h = here
at_place (x ∷ l) d (suc i) h = later (at_place l d i (omega arith))

pub one_at : {A : Type 0} {x y : A} {i : ℕ} {l : List A} → At x i l → At y i l → x ≡ y
one_at here here = refl
one_at (later p) (later q) = one_at p q

-- two places of a sorted list
pub sorted-places : {A : Type 0} (R : A → A → Type 0) (l : List A) (d : A) → Sorted R l → (i j : ℕ) → i < j → j < length l → R (get_or l i d) (get_or l j d)
sorted-places R [] d s i j h k = absurd (not-suc-le-zero k)
sorted-places R (x ∷ l) d s zero zero h k = absurd (not-suc-le-zero h)
sorted-places R (x ∷ l) d s zero (suc j) h k = s.0 (get_or l j d) (get_d-in l d j (le_of_suc-le-suc k))
sorted-places R (x ∷ l) d s (suc i) zero h k = absurd (not-suc-le-zero h)
sorted-places R (x ∷ l) d s (suc i) (suc j) h k = sorted-places R l d s.1 i j (le_of_suc-le-suc h) (le_of_suc-le-suc k)

-- P of what stands at each place below i, and of what is stored at i
pub stored : {A : Type 0} (d : A) (P : ℕ → A → Type 0) (l : List A) (i : ℕ) (v : A) → i < length l → ((k : ℕ) → k < i → P k (get_or l k d)) → P i v →
    (k : ℕ) → k < i + 1 → P k (get_or (set l i v) k d)
stored d P l i v h old new k s =
    by (eqb k i)
    (λ t. let q : k ≡ i = eqb-true k i t in rw (q, get_or-set_same l i v d h) new)
    (λ t. rw (get_or-set_other l i k v d (λ q. eqb-false k i t (omega arith))) (old k (omega (arith, eqb-false k i t))))

-- in a list of zeros, and past its end
pub zero-at : (n i : ℕ) → ◌≡◌ {A = ℕ} (get_or (replicate n 0) i 0) 0
zero-at zero i = refl
zero-at (suc n) zero = refl
zero-at (suc n) (suc i) = zero-at n i

-- ---- the place of the first

pub place-lt : {A : Type 0} (f : A → Bool) (l : List A) → any f l ≡ true → place_of f l < length l
place-lt f [] e = never e refl
place-lt f (x ∷ l) e =
    by (f x)
    (λ p. rw p (omega arith))
    (λ p. let h : place_of f l < length l = place-lt f l (rw p at e) in rw p (omega arith))

-- at the place of the first stands one of which the test holds
pub place-holds : {A : Type 0} (f : A → Bool) (l : List A) (d : A) → any f l ≡ true → f (get_or l (place_of f l) d) ≡ true
place-holds f [] d e = never e refl
place-holds f (x ∷ l) d e = by (f x) (λ q. rw q q) (λ q. let r = place-holds f l d (rw q at e) in rw q r)

-- a test that holds among the first n finds its place there
pub place-early : {A : Type 0} (f : A → Bool) (l : List A) (n : ℕ) → any f (take n l) ≡ true → place_of f l < n
place-early f [] zero e = never e refl
place-early f [] (suc n) e = never e refl
place-early f (x ∷ l) zero e = never e refl
place-early f (x ∷ l) (suc n) e =
    by (f x)
    (λ q. rw q (omega arith))
    (λ q. let r = place-early f l n (rw q at e) in rw q (omega (arith, r)))

-- `insert` puts the element at its place
pub insert-at : {A : Type 0} (b : A → A → Bool) (x : A) (l : List A) → insert b x l ≡ take (place_of (b x) l) l ++ (x ∷ drop (place_of (b x) l) l)
unfolding insert
insert-at b x [] = refl
insert-at b x (y ∷ l) = by (b x y) (λ e. rw e refl) (λ e. rw e (ap (λ (k : List _). y ∷ k) (insert-at b x l)))

-- ---- one place more

pub any-taken : {A : Type 0} (f : A → Bool) (l : List A) (i : ℕ) (d : A) → i < length l → any f (take (i + 1) l) ≡ (any f (take i l) || f (get_or l i d))
any-taken f l i d h = rw (add-one i, take-suc l i d h, any_append f (take i l) (get_or l i d ∷ []), or-false)

-- ---- what is left from place i on

pub drop-end : {A : Type 0} (l : List A) (i : ℕ) → length l ≤ i → drop i l ≡ []
drop-end l i h = drop_of_length-le l {i = i} h

pub drop-step : {A : Type 0} (l : List A) (i : ℕ) (d : A) → i < length l → drop i l ≡ get_or l i d ∷ drop (i + 1) l
drop-step l i d h = drop-cons l i d h ∙ ap (λ (k : ℕ). get_or l i d ∷ drop k l) (sym (add-one i))

pub any_step : {A : Type 0} (f : A → Bool) (l : List A) (i : ℕ) (d : A) → i < length l → any f (drop i l) ≡ (f (get_or l i d) || any f (drop (i + 1) l))
any_step f l i d h = ap (any f) (drop-step l i d h)

pub any-end : {A : Type 0} (f : A → Bool) (l : List A) (i : ℕ) → length l ≤ i → any f (drop i l) ≡ false
any-end f l i h = ap (any f) (drop-end l i h)

pub all-step : {A : Type 0} (f : A → Bool) (l : List A) (i : ℕ) (d : A) → i < length l → all f (drop i l) ≡ (f (get_or l i d) && all f (drop (i + 1) l))
all-step f l i d h = ap (all f) (drop-step l i d h)

pub all_end : {A : Type 0} (f : A → Bool) (l : List A) (i : ℕ) → length l ≤ i → all f (drop i l) ≡ true
all_end f l i h = ap (all f) (drop-end l i h)

pub repeats-step : {A : Type 0} (s : A → A → Bool) (l : List A) (i : ℕ) (d : A) → i < length l →
    repeats s (drop i l) ≡ (any (s (get_or l i d)) (drop (i + 1) l) || repeats s (drop (i + 1) l))
repeats-step s l i d h = ap (repeats s) (drop-step l i d h)

pub repeats-end : {A : Type 0} (s : A → A → Bool) (l : List A) (i : ℕ) → length l ≤ i → repeats s (drop i l) ≡ false
repeats-end s l i h = ap (repeats s) (drop-end l i h)

pub same_step : {A : Type 0} (s : A → A → Bool) (k l : List A) (i : ℕ) (d : A) → i < length k → i < length l →
    same_list s (drop i k) (drop i l) ≡ (s (get_or k i d) (get_or l i d) && same_list s (drop (i + 1) k) (drop (i + 1) l))
same_step s k l i d g h = rw (drop-step k i d g, drop-step l i d h)

pub same_end : {A : Type 0} (s : A → A → Bool) (k l : List A) (i : ℕ) → length k ≤ i → length l ≤ i → same_list s (drop i k) (drop i l) ≡ true
same_end s k l i g h = rw (drop-end k i g, drop-end l i h)

-- lists of different lengths differ
pub same_length : {A : Type 0} (s : A → A → Bool) (k l : List A) → (length k ≡ length l → ⊥) → same_list s k l ≡ false
same_length s [] [] h = absurd (h refl)
same_length s [] (y ∷ l) h = refl
same_length s (x ∷ k) [] h = refl
same_length s (x ∷ k) (y ∷ l) h = rw (same_length s k l (λ e. h (ap suc e))) (and-false (s x y))

pub before-step : (k l : List ℕ) (i : ℕ) → i < length k → i < length l →
    list_before (drop i k) (drop i l) ≡ (ltb (get_or k i 0) (get_or l i 0) || (eqb (get_or k i 0) (get_or l i 0) && list_before (drop (i + 1) k) (drop (i + 1) l)))
before-step k l i g h = rw (drop-step k i 0 g, drop-step l i 0 h)

pub before-right : (k l : List ℕ) (i : ℕ) → i < length k → length l ≤ i → list_before (drop i k) (drop i l) ≡ false
before-right k l i g h = rw (drop-step k i 0 g, drop-end l i h)

pub before-left : (k l : List ℕ) (i : ℕ) → length k ≤ i → list_before (drop i k) (drop i l) ≡ ltb i (length l)
before-left k l i g = go (ltb i (length l)) refl
  where
    go : (t : Bool) → ltb i (length l) ≡ t → list_before (drop i k) (drop i l) ≡ t
    go true e = rw (drop-end k i g, drop-step l i 0 (ltb-true i (length l) e))
    go false e = rw (drop-end k i g, drop-end l i (ltb-false i (length l) e))

pub ascends-step : {A : Type 0} (f : A → A → Bool) (l : List A) (i : ℕ) (d : A) → i + 1 < length l →
    ascends f (drop i l) ≡ (f (get_or l i d) (get_or l (i + 1) d) && ascends f (drop (i + 1) l))
ascends-step f l i d h = rw (drop-step l i d (omega arith), drop-step l (i + 1) d h)

pub ascends-end : {A : Type 0} (f : A → A → Bool) (l : List A) (i : ℕ) (d : A) → length l ≤ i + 1 → ascends f (drop i l) ≡ true
ascends-end f l i d h = go (ltb i (length l)) refl
  where
    go : (t : Bool) → ltb i (length l) ≡ t → ascends f (drop i l) ≡ true
    go true e = rw (drop-step l i d (ltb-true i (length l) e), drop-end l (i + 1) h)
    go false e = rw (drop-end l i (ltb-false i (length l) e))

pub place_found : {A : Type 0} (f : A → Bool) (l : List A) (i : ℕ) (d : A) → i < length l → f (get_or l i d) ≡ true → place_of f (drop i l) ≡ 0
place_found f l i d h e = rw (drop-step l i d h, e)

pub place-step : {A : Type 0} (f : A → Bool) (l : List A) (i : ℕ) (d : A) → i < length l → f (get_or l i d) ≡ false → place_of f (drop i l) ≡ suc (place_of f (drop (i + 1) l))
place-step f l i d h e = rw (drop-step l i d h, e)

pub place_end : {A : Type 0} (f : A → Bool) (l : List A) (i : ℕ) → length l ≤ i → place_of f (drop i l) ≡ 0
place_end f l i h = rw (drop-end l i h)

pub place-le : {A : Type 0} (f : A → Bool) (l : List A) → place_of f l ≤ length l
place-le f [] = omega arith
place-le f (x ∷ l) = go (f x) (place-le f l)
  where
    go : (t : Bool) → place_of f l ≤ length l → cond t zero (suc (place_of f l)) ≤ suc (length l)
    go true h = omega arith
    go false h = omega arith

-- none is found exactly if the place is past the end
pub place_none : {A : Type 0} (f : A → Bool) (l : List A) → not (any f l) ≡ leb (length l) (place_of f l)
place_none f [] = refl
place_none f (x ∷ l) = go (f x) (place_none f l)
  where
    go : (t : Bool) → not (any f l) ≡ leb (length l) (place_of f l) → not (t || any f l) ≡ leb (suc (length l)) (cond t zero (suc (place_of f l)))
    go true e = sym (lt-leb (suc (length l)) 0 (omega arith))
    go false e = e ∙ less (length l) (place_of f l)
      where
        less : (a b : ℕ) → leb a b ≡ leb (suc a) (suc b)
        less a b = both (leb a b) refl
          where
            both : (t : Bool) → leb a b ≡ t → t ≡ leb (suc a) (suc b)
            both true e = sym (le-leb (suc a) (suc b) (omega (arith, leb-true a b e)))
            both false e = sym (lt-leb (suc a) (suc b) (omega (arith, leb-false a b e)))
