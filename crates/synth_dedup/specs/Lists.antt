-- Laws of lists and of their orders. Nothing here knows of types or resources.
use Rattle.std.specs.Prelude.{Bool, true, false, ◌||◌, List, [], ◌∷◌, ◌≡◌, refl, ℕ, zero, suc, ◌+◌, ◌<◌, ◌≤◌, eqb, length, get_or}
use Rattle.std.proofs.Common.{sym, ap, ◌∙◌, arith, ne_eqb, eqb-true}
use Rattle.std.proofs.lemmas.Bool.{eqb-false}
use Rattle.lists.specs.Lists.{all, filter, ascends}
use Rattle.lists.specs.Tests.{by, not_so}
use Rattle.lists.specs.Strict.{Strict, asymmetric}
use Rattle.lists.specs.Sorting.{ascends-sorted}
use Rattle.lists.specs.Places.{sorted-places}
use Rattle.rows.specs.Lists.{between, Climbs}

pub all_filter : {A : Type 0} (f : A → Bool) (l : List A) → all f (filter f l) ≡ true
all_filter f [] = refl
all_filter f (x ∷ l) = by (f x) (λ e. rw (e, e) (all_filter f l)) (λ e. rw e (all_filter f l))

-- ---- how many numbers have a property

abbrev one : Bool → ℕ
one true = 1
one false = 0

unfoldable pub many : (ℕ → Bool) → ℕ → ℕ
many f zero = 0
many f (suc n) = one (f n) + many f n

one-most : (b : Bool) → one b ≤ 1
one-most true = omega arith
one-most false = omega arith

pub many-most : (f : ℕ → Bool) (n : ℕ) → many f n ≤ n
unfolding many
many-most f zero = omega arith
many-most f (suc n) = omega (arith, many-most f n, one-most (f n))

one-or : (a b : Bool) → (a ≡ true → b ≡ false) → one (a || b) ≡ one a + one b
one-or true b h = rw (h refl)
one-or false b h = omega arith

-- two tests that never both hold
pub many-or : (f g : ℕ → Bool) (n : ℕ) → ((w : ℕ) → f w ≡ true → g w ≡ false) → many (λ w. f w || g w) n ≡ many f n + many g n
unfolding many
many-or f g zero h = refl
many-or f g (suc n) h = omega (arith, many-or f g n h, one-or (f n) (g n) (h n))

pub many-some : (f : ℕ → Bool) (n w : ℕ) → w < n → f w ≡ true → 1 ≤ many f n
unfolding many
many-some f zero w h e = omega arith
many-some f (suc n) w h e =
    by (eqb w n)
    (λ q. let r : f n ≡ true = ap f (sym (eqb-true w n q)) ∙ e in rw r (omega arith))
    (λ q. omega (arith, many-some f n w (omega (arith, eqb-false w n q)) e))

-- ---- the one number that is w

pub filter-one : (f : ℕ → Bool) (w i n : ℕ) → i ≤ w → w < i + n → f w ≡ true → filter (λ v. eqb v w) (between f i n) ≡ w ∷ []
unfolding between
filter-one f w i zero p q t = absurd (omega arith)
filter-one f w i (suc n) p q t =
    by (eqb i w)
    (λ e.
    let z : i ≡ w = eqb-true i w e in
    let y : f i ≡ true = ap f z ∙ t in
    let r : filter (λ v. eqb v w) (between f (suc i) n) ≡ [] = past f w (suc i) n (omega arith) in
    rw (y, e, r) (ap (λ v. v ∷ []) z))
    (λ e.
    let r = filter-one f w (suc i) n (omega (arith, eqb-false i w e)) (omega arith) t in
    by (f i) (λ y. rw (y, e) r) (λ y. rw y r))
  where
    past : (f : ℕ → Bool) (w i n : ℕ) → w < i → filter (λ v. eqb v w) (between f i n) ≡ []
    past f w i zero h = refl
    past f w i (suc n) h =
        by (f i)
        (λ y. rw (y, ne_eqb i w (λ q. absurd (omega arith))) (past f w (suc i) n (omega arith)))
        (λ y. rw y (past f w (suc i) n (omega arith)))

-- ---- lists of numbers that ascend

-- by place
pub climbing : {before : List ℕ → List ℕ → Bool} → Strict before → (l : List (List ℕ)) → ascends before l ≡ true → Climbs before (λ i. get_or l i []) (length l)
climbing {before} o l e =
    let up : (i j : ℕ) → i < j → j < length l → before (get_or l i []) (get_or l j []) ≡ true =
    sorted-places (λ a b. before a b ≡ true) l [] (ascends-sorted o l e) in
    record {
      up = up;
      down = λ i j h q. not_so (asymmetric o (get_or l i []) (get_or l j []) (up i j h q));
      flat = λ i h. o.irreflexive (get_or l i []);
    }
