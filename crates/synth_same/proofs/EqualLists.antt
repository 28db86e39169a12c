-- What the library's `eq` answers of two iterators of numbers: whether what they yield is the same list.
use Rattle.std.specs.Prelude.{Bool, true, false, ◌&&◌, List, [], ◌∷◌, Option, Some, None, ◌≡◌, ℕ, eqb}
use Rattle.std.specs.Iterator.{AlwaysYields, YieldsThen, ComparesItemsByEq}
use Rattle.std.specs.List.{AllZip}
use Rattle.std.specs.Option.{MatchOption, IfSome}
use Rattle.std.proofs.Common.{sym, ap, ap₂, ◌∙◌, subst}
use Rattle.std.proofs.lemmas.Iterator.{YieldsList}
use Rattle.lists.specs.Lists.{same_list}

module _ {S T : Type 0} (steps : S → Option ℕ → S → Type 0) (others : T → Option ℕ → T → Type 0) (r : Bool) where
  abbrev Own : ℕ → ℕ
  Own x = x

  abbrev Last : Option ℕ → Option ℕ → Type 0
  Last o p = MatchOption o (MatchOption p (r ≡ true) (λ _. r ≡ false)) (λ x. (r ≡ false) × IfSome p (λ y. eqb x y ≡ false))

  at_last : (o p : Option ℕ) (xs ys : List ℕ) (s u : S) (t w : T) → AlwaysYields steps Own s xs → AlwaysYields others Own t ys → steps s o u → others t p w → Last o p → r ≡ same_list eqb xs ys
  at_last None None (x ∷ xs) ys s u t w e f a b h = absurd (e.0 u a)
  at_last None (Some y) (x ∷ xs) ys s u t w e f a b h = absurd (e.0 u a)
  at_last (Some x) None [] ys s u t w e f a b h = absurd (e x u a)
  at_last (Some x) (Some y) [] ys s u t w e f a b h = absurd (e x u a)
  at_last None None [] (y ∷ ys) s u t w e f a b h = absurd (f.0 w b)
  at_last None (Some y) [] [] s u t w e f a b h = absurd (f y w b)
  at_last (Some x) None (z ∷ xs) (y ∷ ys) s u t w e f a b h = absurd (f.0 w b)
  at_last (Some x) (Some y) (z ∷ xs) [] s u t w e f a b h = absurd (f y w b)
  at_last None None [] [] s u t w e f a b h = h
  at_last None (Some y) [] (z ∷ ys) s u t w e f a b h = h
  at_last (Some x) None (z ∷ xs) [] s u t w e f a b h = h.0
  at_last (Some x) (Some y) (x' ∷ xs) (y' ∷ ys) s u t w e f a b h = h.0 ∙ ap (λ c. c && same_list eqb xs ys) (sym h.1 ∙ ap₂ eqb (e.1 x u a).0 (f.1 y w b).0)

  along : (cs bs : List ℕ) (o p : Option ℕ) (xs ys : List ℕ) (s u : S) (t w : T) → AlwaysYields steps Own s xs → AlwaysYields others Own t ys
      → YieldsThen steps s cs o u → YieldsThen others t bs p w → AllZip (λ x y. eqb x y ≡ true) cs bs → Last o p → r ≡ same_list eqb xs ys
  along [] [] o p xs ys s u t w e f a b z h = at_last o p xs ys s u t w e f (subst (λ j. steps j o u) (sym a.1) a.2) (subst (λ j. others j p w) (sym b.1) b.2) h
  along [] (y ∷ bs) o p xs ys s u t w e f a b z h = absurd z
  along (x ∷ cs) [] o p xs ys s u t w e f a b z h = absurd z
  along (x ∷ cs) (y ∷ bs) o p [] ys s u t w e f a b z h = absurd (e x a.1.0 a.1.1)
  along (x ∷ cs) (y ∷ bs) o p (x' ∷ xs) [] s u t w e f a b z h = absurd (f y b.1.0 b.1.1)
  along (x ∷ cs) (y ∷ bs) o p (x' ∷ xs) (y' ∷ ys) s u t w e f a b z h =
      let m = e.1 x a.1.0 a.1.1 in
      let n = f.1 y b.1.0 b.1.1 in
      along cs bs o p xs ys a.1.0 u b.1.0 w m.1 n.1 (a.0, a.1.2, a.2) (b.0, b.1.2, b.2) z.1 h
      ∙ ap (λ c. c && same_list eqb xs ys) (sym z.0 ∙ ap₂ eqb m.0 n.0)

pub eq_from_yields_List : {S U T : Type 0} {steps : S → Option ℕ → S → Type 0} {others : T → Option ℕ → T → Type 0} {s : S} {xs ys : List ℕ} (becomes : U → T → Type 0) (other : U) (r : Bool)
    → ComparesItemsByEq steps becomes others s other eqb r → YieldsList steps (λ x. x) s xs → ((it : T) → becomes other it → YieldsList others (λ x. x) it ys) → r ≡ same_list eqb xs ys
eq_from_yields_List {steps = steps} {others = others} {s = s} {xs = xs} {ys = ys} becomes other r d e f =
    along steps others r d.1 d.2 d.3 d.4 xs ys s d.5 d.0 d.6 e.runs (f d.0 d.7).runs d.8 d.9 d.10 d.11
