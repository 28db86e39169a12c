-- A test that is asked of the numbers of a set, by a walk: what the library's `any` and `all` answer of it.
use Rattle.std.specs.Prelude.{Bool, true, false, List, [], ◌∷◌, Option, ◌&&◌, ◌||◌, ◌≡◌, refl, ℕ, zero, suc, ◌<◌, length, get_or}
use Rattle.std.specs.Bool.{MatchBool}
use Rattle.std.specs.List.{FoldsTo, list_any, list_all, AllWithin, HoldsAt}
use Rattle.std.specs.Option.{MatchOption}
use Rattle.std.specs.Iterator.{YieldsThen}
use Rattle.std.specs.Fn.{Called}
use Rattle.std.proofs.Common.{sym, ap, ap₂, ◌∙◌, subst, arith}
use Rattle.std.proofs.Math.Bool.{and-false}
use Rattle.std.proofs.lemmas.Iterator.{YieldsList}
use Rattle.std.proofs.lemmas.Iterator.Consumers.{YieldsList-from_shown}
use Rattle.std.proofs.lemmas.Iterator.Search.{all_from_yields_List, any_from_yields_List}
use Rattle.lists.specs.Lists.{any, all}
use Rattle.lists.specs.Tests.{or_left, or_right}
use Rattle.bitsets.specs.declared.Walk.{Walk}
use Rattle.bitsets.specs.Bitsets.{members, Walks}
use Rattle.bitsets.specs.BitLaws.{members-next, members-none}
use denote.Param.Members.{Mut}

abbrev Turn : Walk → Option ℕ → Walk → Type 0
Turn s r t = Walks s.left r t.left

-- a walk yields the numbers of its set
walk-yields : (s : Walk) (set : ℕ) → s.left ≡ set → YieldsList Turn (λ (k : ℕ). k) s (members set)
walk-yields s set e =
    subst (λ x. YieldsList Turn (λ (k : ℕ). k) s (members x)) e
    (YieldsList-from_shown Turn (λ (k : ℕ). k) (λ (s : Walk). members s.left) (λ s t w. ap length (members-none s.left w.0)) (λ s k t w. members-next s.left k t.left w.0 w.1) s)

pub walk-lists : {s : Walk} (set : ℕ) → s.left ≡ set → YieldsList (λ (s : Walk) r (t : Walk). Walks s.left r t.left) (λ (k : ℕ). k) s (members set)
walk-lists {s} set e = walk-yields s set e

list-any : (test : ℕ → Bool) (l : List ℕ) → list_any test l ≡ any test l
list-any test [] = refl
list-any test (x ∷ l) = ap (λ b. test x || b) (list-any test l)

list-all : (test : ℕ → Bool) (l : List ℕ) → list_all test l ≡ all test l
list-all test [] = refl
list-all test (x ∷ l) = ap (λ b. test x && b) (list-all test l)

module _ {F : Type 0} {g : Mut F (ℕ × Unit {0}) Bool} {s u : Walk} {f : F} {r : Bool} (test : ℕ → Bool) (set : ℕ) (here : s.left ≡ set)
    (asked : (x : ℕ) (b : Bool) (q : F) → Called g f (x, tt) b q → (q ≡ f) × (b ≡ test x)) where
  pub walk-any : (xs : List ℕ) × (o : Option ℕ) × (j : F) × YieldsThen Turn s xs o u × FoldsTo (λ p x q. Called g p (x, tt) false q) f xs j
      × MatchOption o (r ≡ false) (λ x. (r ≡ true) × ((h : F) × Called g j (x, tt) true h))
      → r ≡ any test (members set)
  walk-any ran = any_from_yields_List test u f r ran (walk-yields s set here) asked ∙ list-any test (members set)

  pub walk-all : (xs : List ℕ) × (o : Option ℕ) × (j : F) × YieldsThen Turn s xs o u × FoldsTo (λ p x q. Called g p (x, tt) true q) f xs j
      × MatchOption o (r ≡ true) (λ x. (r ≡ false) × ((h : F) × Called g j (x, tt) false h))
      → r ≡ all test (members set)
  walk-all ran = all_from_yields_List test u f r ran (walk-yields s set here) asked ∙ list-all test (members set)

-- the same of what is said of the places in a list
module _ (test : ℕ → Bool) where
  any-there : (l : List ℕ) (k : ℕ) → k < length l → test (get_or l k 0) ≡ true → any test l ≡ true
  any-there [] k h e = absurd (omega arith)
  any-there (x ∷ l) zero h e = or_left (any test l) e
  any-there (x ∷ l) (suc k) h e = or_right (test x) (any-there l k (omega arith) e)

  any-nowhere : (l : List ℕ) → ((k : ℕ) → k < length l → test (get_or l k 0) ≡ false) → any test l ≡ false
  any-nowhere [] h = refl
  any-nowhere (x ∷ l) h = ap₂ (λ a b. a || b) (h 0 (omega arith)) (any-nowhere l (λ k q. h (suc k) (omega arith)))

  all-there : (l : List ℕ) → ((k : ℕ) → k < length l → test (get_or l k 0) ≡ true) → all test l ≡ true
  all-there [] h = refl
  all-there (x ∷ l) h = ap₂ (λ a b. a && b) (h 0 (omega arith)) (all-there l (λ k q. h (suc k) (omega arith)))

  all-not : (l : List ℕ) (k : ℕ) → k < length l → test (get_or l k 0) ≡ false → all test l ≡ false
  all-not [] k h e = absurd (omega arith)
  all-not (x ∷ l) zero h e = ap (λ b. b && all test l) e
  all-not (x ∷ l) (suc k) h e = ap (λ b. test x && b) (all-not l k (omega arith) e) ∙ and-false (test x)

  -- what `any` answers
  pub any-asked : (l : List ℕ) (r : Bool) → MatchBool r ((k : ℕ) × (k < length l) × HoldsAt (λ x. test x ≡ true) l k) (AllWithin (λ x. test x ≡ false) l 0 (length l)) → r ≡ any test l
  any-asked l true h = sym (any-there l h.0 h.1 (h.2 0))
  any-asked l false h = sym (any-nowhere l (λ k q. h k 0 (omega arith) q))

  -- what `all` answers
  pub all-asked : (l : List ℕ) (r : Bool) → MatchBool r (AllWithin (λ x. test x ≡ true) l 0 (length l)) ((k : ℕ) × (k < length l) × HoldsAt (λ x. test x ≡ false) l k) → r ≡ all test l
  all-asked l true h = sym (all-there l (λ k q. h k 0 (omega arith) q))
  all-asked l false h = sym (all-not l h.0 h.1 (h.2 0))
