-- The classes of a word by their places: by dom, that of one word first and then the others as a rank of places goes.
use Rattle.std.specs.Prelude.{Bool, true, false, not, ◌≡◌, ℕ, ◌≤◌, ◌<◌, ltb, length}
use mathlib.Core.List.Memᴰ
use mathlib.Core.List.{List, ◌++◌, map}
use Rattle.std.proofs.Common.{⊎_elim, ◌∙◌, subst, arith, ltb-true, ltb-false}
use Rattle.std.proofs.Math.Path.{sym, ap}
use Rattle.std.proofs.lemmas.Bool.{not-true}
use Rattle.std.specs.Int.Bits.{bit_and}
use Rattle.lists.specs.Lists.{In, Sorted, filter, sort}
use Rattle.lists.specs.Tests.{by, never, and_left, and_right, and_both}
use Rattle.lists.specs.Strict.{asymmetric, number-strict}
use Rattle.lists.specs.Members.{map-sorted}
use Rattle.lists.specs.Places.{get_d-in, sorted-places}
use Rattle.lists.specs.Sorting.{sorted-append, sorted-imp, sorted-unique, sort-is, sort_sorted, sort-map}
use Rattle.definitions.specs.Records.{Name}
use Rattle.definitions.specs.Comparisons.{name_before, dom_before}
use Rattle.definitions.specs.Map.{LineType, LineMap}
use Rattle.law_orders.specs.Comparisons.{name-strict, dom-strict}
use Rattle.rows.specs.Rows.{has_bit}
use Rattle.bitsets.specs.Bitsets.{members, less}
use Rattle.bitsets.specs.BitLaws.{bit-both, bit-less, members-of, in_members, members-below}
use Rattle.law_classes.specs.Sets.{Set, both, one_word, word_of, dom_of, masked, no_type, type_at, SetIs, classes_in}
use Rattle.law_classes.specs.Numbers.{Fits, holds-members}
use Rattle.law_classes.proofs.SetLaws.{Plain, below-ascends, doms-apart, alone-once, alone-before}

-- a type has one place
pub one_place : (m : LineMap) → Plain m → (p q : ℕ) → p < length m.types → q < length m.types → (type_at m p).name ≡ (type_at m q).name → p ≡ q
one_place m plain p q h i e =
    let N : LineType → LineType → Type 0 = λ P Q. name_before m.words P.name Q.name ≡ true in
    by (ltb p q)
    (λ l. never (sorted-places N m.types no_type plain.ascend p q (ltb-true p q l) i) (rw e ((name-strict m.words).irreflexive (type_at m q).name)))
    (λ l.
    by (ltb q p)
    (λ r. never (sorted-places N m.types no_type plain.ascend q p (ltb-true q p r) h) (rw e ((name-strict m.words).irreflexive (type_at m q).name)))
    (λ r. omega (arith, ltb-false p q l, ltb-false q p r)))

-- the members of a number ascend
pub members-ascend : (x : ℕ) → Sorted (λ (a b : ℕ). ltb a b ≡ true) (members x)
unfolding members
members-ascend x = below-ascends (has_bit x) 64

-- A rank of places: no two have one, and the classes of one word with a dom go as their doms do.
pub record Ranks (m : LineMap) (rank : ℕ → ℕ) : Type 0 where
  pub apart : (a b : ℕ) → a < 64 → b < 64 → rank a ≡ rank b → a ≡ b
  pub rising : (a b : ℕ) → a < length m.types → b < length m.types → word_of (type_at m a).name ≡ word_of (type_at m b).name
      → one_word (type_at m a).name ≡ false → one_word (type_at m b).name ≡ false → rank a < rank b
      → dom_before (dom_of (type_at m a).name) (dom_of (type_at m b).name) ≡ true

module _ (m : LineMap) (plain : Plain m) (few : length m.types ≤ 64) where
  abbrev n : ℕ
  n = length m.types

  abbrev name : ℕ → Name
  name a = (type_at m a).name

  -- the order of two places by dom
  abbrev by_dom : ℕ → ℕ → Bool
  by_dom a b = dom_before (dom_of (name a)) (dom_of (name b))

  module _ (rank : ℕ → ℕ) (ranks : Ranks m rank) (S : Set) (r row ones : ℕ)
      (fits : Fits m row) (is : SetIs m row (both S (masked r))) (alone : SetIs m ones (λ D. one_word D.name)) where
    abbrev before : ℕ → ℕ → Bool
    before a b = ltb (rank a) (rank b)

    abbrev ranked : ℕ → List ℕ
    ranked x = sort before (members x)

    -- those of one word, and the others
    abbrev x : ℕ
    x = bit_and row ones

    abbrev y : ℕ
    y = less row ones

    ranked-ascends : (z : ℕ) → Sorted (λ a b. before a b ≡ true) (ranked z)
    ranked-ascends z =
        sort_sorted number-strict rank (members z)
        (sorted-imp (members z)
        (λ a b i j h e. let q = ranks.apart a b (members-of z i).0 (members-of z j).0 e in never h (rw q (number-strict.irreflexive b)))
        (members-ascend z))

    -- what is known of a member
    place-lt : (a : ℕ) → has_bit row a ≡ true → a < n
    place-lt a h = by (ltb a n) (λ l. ltb-true a n l) (λ l. never h (fits.within a (ltb-false a n l)))

    of-word : (a : ℕ) → has_bit row a ≡ true → word_of (name a) ≡ r
    of-word a h =
        borrow.Author.Tests.eqb-true (word_of (name a)) r
        (and_right (S (type_at m a)) (masked r (type_at m a)) (sym (is a (place-lt a h)) ∙ h))

    in-x : {a : ℕ} → In a (ranked x) → (has_bit row a ≡ true) × (one_word (name a) ≡ true)
    in-x {a} i =
        let h = sym (bit-both row ones a) ∙ (members-of x ((sort-is before (members x) a).0 i)).1 in
        let p = and_left (has_bit row a) (has_bit ones a) h in
        (p, sym (alone a (place-lt a p)) ∙ and_right (has_bit row a) (has_bit ones a) h)

    in-y : {a : ℕ} → In a (ranked y) → (has_bit row a ≡ true) × (one_word (name a) ≡ false)
    in-y {a} i =
        let h = sym (bit-less row ones a) ∙ (members-of y ((sort-is before (members y) a).0 i)).1 in
        let p = and_left (has_bit row a) (not (has_bit ones a)) h in
        (p, sym (alone a (place-lt a p)) ∙ not-true (has_bit ones a) (and_right (has_bit row a) (not (has_bit ones a)) h))

    -- the two in turn go by dom
    split-sorted : Sorted (λ a b. by_dom a b ≡ true) (ranked x ++ ranked y)
    split-sorted =
        sorted-append (λ a b. by_dom a b ≡ true) (ranked x) (ranked y)
        (sorted-imp (ranked x)
        (λ a b i j h.
        let p = in-x i in
        let q = in-x j in
        let e : name a ≡ name b = alone-once (name a) (name b) p.1 q.1 (of-word a p.0 ∙ sym (of-word b q.0)) in
        let s : a ≡ b = one_place m plain a b (place-lt a p.0) (place-lt b q.0) e in
        never h (rw s (number-strict.irreflexive (rank b))))
        (ranked-ascends x))
        (sorted-imp (ranked y)
        (λ a b i j h.
        let p = in-y i in
        let q = in-y j in
        ranks.rising a b (place-lt a p.0) (place-lt b q.0) (of-word a p.0 ∙ sym (of-word b q.0)) p.1 q.1 (ltb-true (rank a) (rank b) h))
        (ranked-ascends y))
        (λ a b i j.
        let q = in-y j in
        alone-before (name a) (name b) (plain.short (type_at m b) (get_d-in m.types no_type b (place-lt b q.0))) (in-x i).1 q.1)

    split-in : (a : ℕ) → In a (members row) → In a (ranked x ++ ranked y)
    split-in a i =
        let h = members-of row i in
        by (has_bit ones a)
        (λ o. Memᴰ.append_left (ranked y) ((sort-is before (members x) a).1 (in_members x h.0 (bit-both row ones a ∙ and_both h.1 o))))
        (λ o. Memᴰ.append_right (ranked x) ((sort-is before (members y) a).1 (in_members y h.0 (bit-less row ones a ∙ and_both h.1 (ap not o)))))

    split-of : (a : ℕ) → In a (ranked x ++ ranked y) → In a (members row)
    split-of a i =
        ⊎_elim
        (λ j. in_members row (members-of x ((sort-is before (members x) a).0 j)).0 (in-x j).0)
        (λ j. in_members row (members-of y ((sort-is before (members y) a).0 j)).0 (in-y j).0)
        (Memᴰ.append_cases (ranked x) i)

    pub classes-ranked : classes_in m (both S (masked r)) ≡ map (type_at m) (ranked x ++ ranked y)
    unfolding classes_in
    classes-ranked =
        let Later : LineType → LineType → Bool = λ D E. dom_before (dom_of D.name) (dom_of E.name) in
        let Q : Set = both S (masked r) in
        let is-members : filter Q m.types ≡ map (type_at m) (members row) =
        holds-members m row Q is ∙ ap (map (type_at m)) (sym (members-below row n few fits.within)) in
        ap (sort Later) is-members
        ∙ sort-map Later (type_at m) (members row)
        ∙ ap (map (type_at m))
        (sorted-unique (λ a b. by_dom a b ≡ true) (λ a b. asymmetric dom-strict (dom_of (name a)) (dom_of (name b)))
        (sort by_dom (members row)) (ranked x ++ ranked y)
        (sort_sorted dom-strict (λ a. dom_of (name a)) (members row)
        (map-sorted (λ (D E : LineType). dom_of D.name ≡ dom_of E.name → ⊥) (type_at m) (members row)
        (subst (Sorted (λ (D E : LineType). dom_of D.name ≡ dom_of E.name → ⊥)) is-members (doms-apart m plain S r))))
        split-sorted
        (λ a i. split-in a ((sort-is by_dom (members row) a).0 i))
        (λ a i. (sort-is by_dom (members row) a).1 (split-of a i)))
