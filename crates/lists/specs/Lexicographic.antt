-- `same_list` is equality, and `list_before` a strict order.
use Rattle.std.specs.Prelude.{Bool, true, false, ◌&&◌, List, [], ◌∷◌, ◌⊎◌, ◌≡◌, refl, ℕ, ◌<◌, ◌≤◌, eqb, ltb}
use Rattle.std.proofs.Common.{inl, inr, ⊎_elim, sym, ◌∙◌, arith, eq-eqb, eqb-true, ltb-true, ltb-false, lt-ltb, le-ltb}
use Rattle.lists.specs.Lists.{same_list, list_before}
use Rattle.lists.specs.Tests.{never, and_left, and_right, and_both, or_cases, or_left, or_right, or-false-left, or-false-right}
use Rattle.lists.specs.Strict.{Strict}

-- ---- equality, place by place

pub same_self : {A : Type 0} (same : A → A → Bool) → ((x : A) → same x x ≡ true) → (l : List A) → same_list same l l ≡ true
same_self same h [] = refl
same_self same h (x ∷ l) = and_both (h x) (same_self same h l)

pub same_true : {A : Type 0} (same : A → A → Bool) → ((x y : A) → same x y ≡ true → x ≡ y) → (l k : List A) → same_list same l k ≡ true → l ≡ k
same_true same h [] [] e = refl
same_true same h [] (y ∷ k) e = never e refl
same_true same h (x ∷ l) [] e = never e refl
same_true same h (x ∷ l) (y ∷ k) e =
    let p = h x y (and_left (same x y) (same_list same l k) e) in
    let q = same_true same h l k (and_right (same x y) (same_list same l k) e) in
    cc

-- two lists of numbers are equal exactly if the test says so
pub same_numbers : (l k : List ℕ) → same_list eqb l k ≡ true → l ≡ k
same_numbers l k e = same_true eqb eqb-true l k e

pub numbers-same : {l k : List ℕ} → l ≡ k → same_list eqb l k ≡ true
numbers-same {l} e = rw (← e) (same_self eqb (λ x. eq-eqb x x refl) l)

-- ---- the order

before-irreflexive : (a : List ℕ) → list_before a a ≡ false
before-irreflexive [] = refl
before-irreflexive (x ∷ a) = rw (le-ltb x x (omega arith), eq-eqb x x refl) (before-irreflexive a)

-- the first numbers decide, or are equal and the rest decides
pub before-cases : (x y : ℕ) (a b : List ℕ) → list_before (x ∷ a) (y ∷ b) ≡ true → (x < y) ⊎ ((x ≡ y) × (list_before a b ≡ true))
before-cases x y a b e =
    ⊎_elim
    (λ l. inl (ltb-true x y l))
    (λ l. inr (eqb-true x y (and_left (eqb x y) (list_before a b) l), and_right (eqb x y) (list_before a b) l))
    (or_cases (ltb x y) (eqb x y && list_before a b) e)

pub before-first : (x y : ℕ) (a b : List ℕ) → x < y → list_before (x ∷ a) (y ∷ b) ≡ true
before-first x y a b h = or_left (eqb x y && list_before a b) (lt-ltb x y h)

pub before-rest : (x y : ℕ) (a b : List ℕ) → x ≡ y → list_before a b ≡ true → list_before (x ∷ a) (y ∷ b) ≡ true
before-rest x y a b e h = or_right (ltb x y) (and_both (eq-eqb x y e) h)

before-transitive : (a b c : List ℕ) → list_before a b ≡ true → list_before b c ≡ true → list_before a c ≡ true
before-transitive [] [] c p q = q
before-transitive [] (y ∷ b) [] p q = never q refl
before-transitive [] (y ∷ b) (z ∷ c) p q = refl
before-transitive (x ∷ a) [] c p q = never p refl
before-transitive (x ∷ a) (y ∷ b) [] p q = never q refl
before-transitive (x ∷ a) (y ∷ b) (z ∷ c) p q =
    ⊎_elim
    (λ (u : x < y).
    ⊎_elim
    (λ (v : y < z). before-first x z a c (omega arith))
    (λ v. before-first x z a c (omega (arith, v.0)))
    (before-cases y z b c q))
    (λ u.
    ⊎_elim
    (λ (v : y < z). before-first x z a c (omega (arith, u.0)))
    (λ v. before-rest x z a c (u.0 ∙ v.0) (before-transitive a b c u.1 v.1))
    (before-cases y z b c q))
    (before-cases x y a b p)

before-trichotomous : (a b : List ℕ) → list_before a b ≡ false → list_before b a ≡ false → a ≡ b
before-trichotomous [] [] p q = refl
before-trichotomous [] (y ∷ b) p q = never refl p
before-trichotomous (x ∷ a) [] p q = never refl q
before-trichotomous (x ∷ a) (y ∷ b) p q =
    let i : y ≤ x = ltb-false x y (or-false-left (ltb x y) (eqb x y && list_before a b) p) in
    let j : x ≤ y = ltb-false y x (or-false-left (ltb y x) (eqb y x && list_before b a) q) in
    let e : x ≡ y = omega arith in
    let t : a ≡ b =
    before-trichotomous a b
    (rw (eq-eqb x y e) at (or-false-right (ltb x y) (eqb x y && list_before a b) p))
    (rw (eq-eqb y x (sym e)) at (or-false-right (ltb y x) (eqb y x && list_before b a) q)) in
    cc

pub list-strict : Strict list_before
list-strict = record { irreflexive = before-irreflexive; transitive = before-transitive; trichotomous = before-trichotomous }
