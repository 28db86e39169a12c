-- How many elements a list without repeats can have.
use mathlib.Core.List.Memᴰ
use Rattle.std.specs.Prelude.{List, [], ◌∷◌, ◌++◌, ◌≡◌, refl, ℕ, zero, suc, ◌≤◌, length}
use Rattle.std.proofs.Common.{⊎_elim, sym, ap, subst, zero-le, arith, length-append}
use Rattle.lists.specs.Lists.{In, Sorted}
use Rattle.lists.specs.Tests.{cons-elim}
use Rattle.lists.specs.Sorting.{Distinct, sorted-imp}

-- a member, with what stands before it and behind it
pub around : {A : Type 0} {x : A} {l : List A} → In x l → (a b : List A) × (l ≡ a ++ x ∷ b)
around (Memᴰ.head {x = y} {xs = l} e) = ([], l, ap (λ z. z ∷ l) (sym e))
around (Memᴰ.tail {x = y} h) = let r = around h in (y ∷ r.0, r.1, ap (λ k. y ∷ k) r.2)

-- a list without repeats is no longer than a list that has all its members
pub pigeonhole : {A : Type 0} (l k : List A) → Distinct l → ((x : A) → In x l → In x k) → length l ≤ length k
pigeonhole [] k d h = zero-le
pigeonhole (x ∷ l) k d h =
    let r = around (h x (Memᴰ.head refl)) in
    let n : length l ≤ length (r.0 ++ r.1) = pigeonhole l (r.0 ++ r.1) d.1 (λ y i.
    ⊎_elim
    (λ j. Memᴰ.append_left r.1 j)
    (λ j. cons-elim j (λ e. absurd (d.0 y i (sym e))) (λ m. Memᴰ.append_right r.0 m))
    (Memᴰ.append_cases r.0 (subst (In y) r.2 (h y (Memᴰ.tail i))))) in
    omega (arith, ap length r.2, length-append r.0 (x ∷ r.1), length-append r.0 r.1)

-- where each member of a list has another above it, by a relation that is transitive and that no element has to itself, the
-- list has no member
module _ {A : Type 0} (R : A → A → Type 0) (transitive : (x y z : A) → R x y → R y z → R x z) (irreflexive : (x : A) → R x x → ⊥)
    (k : List A) (next : (x : A) → In x k → (y : A) × In y k × R y x) where
  climb : (x : A) → In x k → (n : ℕ) → (y : A) × (l : List A) × Sorted R (y ∷ l) × ((z : A) → In z (y ∷ l) → In z k) × (length l ≡ n)
  climb x i zero = (x, [], (λ z j. absurd (Memᴰ.not-nil j), tt), λ z j. cons-elim j (λ e. subst (λ w. In w k) (sym e) i) (λ m. absurd (Memᴰ.not-nil m)), refl)
  climb x i (suc n) =
      let r = climb x i n in
      let y = r.0 in
      let l = r.1 in
      let s = r.2 in
      let u = next y (r.3 y (Memᴰ.head refl)) in (
        u.0,
        y ∷ l,
        (λ z j. cons-elim j (λ e. subst (R u.0) (sym e) u.2) (λ m. transitive u.0 y z u.2 (s.0 z m)), s),
        λ z j. cons-elim j (λ e. subst (λ w. In w k) (sym e) u.1) (r.3 z),
        ap suc r.4,
      )

  pub no-climb : (x : A) → In x k → ⊥
  no-climb x i =
      let r = climb x i (length k) in
      let n : length (r.0 ∷ r.1) ≤ length k =
      pigeonhole (r.0 ∷ r.1) k (sorted-imp (r.0 ∷ r.1) (λ a b p q h e. irreflexive b (subst (λ w. R w b) e h)) r.2) r.3 in
      omega (arith, r.4)
