-- The orders that 01 sorts by are strict, names are looked up as 01 says, and the type map has the sheet's types in name
-- order. What follows cites these laws and not the text of the definitions.
use Rattle.std.specs.Prelude.{Bool, true, false, ◌&&◌, ◌||◌, ◌⊎◌, ◌↔◌, ◌≡◌, refl, ℕ, eqb}
use mathlib.Core.List.Memᴰ
use mathlib.Core.List.{List, map, Permᴰ}
use Rattle.std.proofs.Common.{inl, inr, ⊎_elim, sym, ◌∙◌}
use Rattle.lists.specs.Lists.{In, Sorted, same_list, list_before}
use Rattle.lists.specs.Tests.{by, never, or-false-left, or-false-right, any-in, any_of, filter-in, filter-of}
use Rattle.lists.specs.Strict.{Strict}
use Rattle.lists.specs.Sorting.{Ascending, sorted-imp, repeats-not, perm-sorted, sort-perm, sort-is, sort_sorted}
use Rattle.lists.specs.Lexicographic.{same_numbers, numbers-same, list-strict}
use Rattle.definitions.specs.Records.{Name, TypeInfo, Sheet}
use Rattle.definitions.specs.Comparisons.{same_name, elem_name, name_before, dom_before, words_before, bytes_before, spelled, look_up}
use Rattle.definitions.specs.Checks.{names_twice, keys_twice, words_twice, annotations_twice, something_twice}
use Rattle.definitions.specs.Map.{type_map_of}

-- ---- the four orders

-- by a list of numbers that a key gives, and where these are the same by what is compared itself
module _ {A : Type 0} (key : A → List ℕ) {before : A → A → Bool} (o : Strict before) where
  abbrev then_before : A → A → Bool
  then_before x y = list_before (key x) (key y) || (same_list eqb (key x) (key y) && before x y)

  then-cases : (x y : A) → then_before x y ≡ true → (list_before (key x) (key y) ≡ true) ⊎ ((key x ≡ key y) × (before x y ≡ true))
  then-cases x y h =
      by (list_before (key x) (key y)) (λ p. inl p)
      (λ p. by (same_list eqb (key x) (key y)) (λ q. inr (same_numbers (key x) (key y) q, rw (p, q) at h)) (λ q. never (rw (p, q) at h) refl))

  then-first : (x y : A) → list_before (key x) (key y) ≡ true → then_before x y ≡ true
  then-first x y p = rw p refl

  then-rest : (x y : A) → key x ≡ key y → before x y ≡ true → then_before x y ≡ true
  then-rest x y e p = rw (e, list-strict.irreflexive (key y), numbers-same {l = key y} refl, p) refl

  then-strict : Strict then_before
  then-strict = record {
    irreflexive = λ x. rw (list-strict.irreflexive (key x), numbers-same {l = key x} refl) (o.irreflexive x);
    transitive = λ x y z p q.
        ⊎_elim
        (λ a. ⊎_elim (λ b. then-first x z (list-strict.transitive (key x) (key y) (key z) a b)) (λ b. then-first x z (rw b.0 at a)) (then-cases y z q))
        (λ a.
        ⊎_elim (λ b. then-first x z (rw (← a.0) at b)) (λ b. then-rest x z (a.0 ∙ b.0) (o.transitive x y z a.1 b.1)) (then-cases y z q))
        (then-cases x y p);
    trichotomous = λ x y p q.
        let a = list-strict.trichotomous (key x) (key y) (or-false-left _ _ p) (or-false-left _ _ q) in
        o.trichotomous x y
        (rw (numbers-same a) at (or-false-right (list_before (key x) (key y)) _ p))
        (rw (numbers-same (sym a)) at (or-false-right (list_before (key y) (key x)) _ q));
  }

pub name-strict : (ws : List (List ℕ)) → Strict (name_before ws)
unfolding name_before bytes_before
name-strict ws = then-strict (spelled ws) list-strict

pub dom-strict : Strict dom_before
unfolding dom_before
dom-strict = list-strict

pub words-strict : Strict words_before
unfolding words_before
words-strict = list-strict

pub bytes-strict : Strict bytes_before
unfolding bytes_before
bytes-strict = list-strict

-- ---- names

pub same-name : (a b : Name) → same_name a b ≡ true → a ≡ b
same-name a b e = same_numbers a b e

pub name-same : {a b : Name} → a ≡ b → same_name a b ≡ true
name-same e = numbers-same e

pub elem_in : {p : Name} {l : List Name} → In p l → elem_name p l ≡ true
elem_in {p} i = any-in (same_name p) i (name-same {a = p} refl)

pub elem_of : (p : Name) (l : List Name) → elem_name p l ≡ true → In p l
elem_of p l e = let r = any_of (same_name p) l e in Memᴰ.cast (same-name p r.0 r.2) r.1

abbrev pub names_of : List TypeInfo → List Name
names_of l = map (λ (T : TypeInfo). T.name) l

-- a name stands among the names of types exactly if one of them has it
pub named_in : {T : TypeInfo} {p : Name} {l : List TypeInfo} → In T l → T.name ≡ p → elem_name p (names_of l) ≡ true
named_in i e = elem_in (Memᴰ.cast (sym e) (Memᴰ.map (λ (T : TypeInfo). T.name) i))

pub named-of : (p : Name) (l : List TypeInfo) → elem_name p (names_of l) ≡ true → (T : TypeInfo) × In T l × (T.name ≡ p)
named-of p l e = Memᴰ.of_map (λ (T : TypeInfo). T.name) l (elem_of p (names_of l) e)

-- what is looked up is exactly what has the name
pub look-up-is : {A : Type 0} (name_of : A → Name) (l : List A) (n : Name) (x : A) → In x (look_up name_of l n) ↔ (In x l × (name_of x ≡ n))
unfolding look_up
look-up-is name_of l n x = (
  λ i. let r = filter-of (λ x. same_name (name_of x) n) l i in (r.0, same-name (name_of x) n r.1),
  λ h. filter-in (λ x. same_name (name_of x) n) h.0 (name-same h.1),
)

-- ---- the type map

-- two types have two names
abbrev pub NamesApart : List TypeInfo → Type 0
NamesApart l = Sorted (λ (T U : TypeInfo). T.name ≡ U.name → ⊥) l

-- the types ascend by name
abbrev pub NamesAscend : List (List ℕ) → List TypeInfo → Type 0
NamesAscend ws l = Ascending (λ (T U : TypeInfo). name_before ws T.name U.name) l

pub names-once : (s : Sheet) → something_twice s ≡ false → names_twice s ≡ false
unfolding something_twice
names-once s e = or-false-left (names_twice s) (keys_twice s || (words_twice s || annotations_twice s)) e

pub names_apart : (s : Sheet) → names_twice s ≡ false → NamesApart s.types
unfolding names_twice
names_apart s e =
    sorted-imp s.types (λ T U i j h q. never (name-same q) h) (repeats-not (λ (T U : TypeInfo). same_name T.name U.name) s.types e)

pub types-perm : (s : Sheet) → Permᴰ s.types (type_map_of s).types
unfolding type_map_of
types-perm s = sort-perm (λ (T U : TypeInfo). name_before s.words T.name U.name) s.types

pub types-is : (s : Sheet) (T : TypeInfo) → In T (type_map_of s).types ↔ In T s.types
unfolding type_map_of
types-is s T = sort-is (λ (T U : TypeInfo). name_before s.words T.name U.name) s.types T

pub types-apart : (s : Sheet) → names_twice s ≡ false → NamesApart (type_map_of s).types
types-apart s e = perm-sorted (λ (T U : TypeInfo). T.name ≡ U.name → ⊥) (λ T U h q. h (sym q)) (types-perm s) (names_apart s e)

-- the types of a map stand in name order (FORMAT 1.4)
pub types-ascend : (s : Sheet) → names_twice s ≡ false → NamesAscend s.words (type_map_of s).types
unfolding type_map_of
types-ascend s e = sort_sorted (name-strict s.words) (λ (T : TypeInfo). T.name) s.types (names_apart s e)
