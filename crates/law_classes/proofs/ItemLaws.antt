-- The items of a map without a refused type, by sets of classes.
use Rattle.std.specs.Prelude.{Bool, false, ◌&&◌, ◌||◌, ◌≡◌, ℕ, ◌<◌, ◌≤◌, length}
use Rattle.std.proofs.Math.Bool.{true, not, and-true}
use mathlib.Core.List.Memᴰ
use mathlib.Core.List.Permᴰ
use mathlib.Core.List.{List, [], ◌∷◌, ◌++◌, map, append-nil}
use Rattle.std.proofs.Common.{inl, inr, ◌∙◌, subst, arith}
use Rattle.std.proofs.Math.Path.{refl, sym, ap, ap₂}
use Rattle.std.proofs.Math.Dec.{eqb}
use Rattle.lists.specs.Lists.{In, Sorted, any, all, null, keep, filter, each, repeats, sort}
use Rattle.lists.specs.Tests.{cons-elim, any-not, null-not, or-false-left, or-false-right, each_in, each_of, filter-of, filter-in}
use Rattle.lists.specs.Appending.{any_append, any-each, any-alike, filter_alike, each_map, each_same, map-map, map_same}
use Rattle.lists.specs.Members.{sorted-map, map-sorted, sorted-left, sorted-right}
use Rattle.lists.specs.Sorting.{Distinct, sorted-imp, perm-sorted, sort-perm, sort_sorted, sort-is, sorted-unique, sorted_filter}
use Rattle.lists.specs.Strict.{asymmetric}
use Rattle.definitions.specs.Records.{Name, Resource, TypeInfo, Sheet, Item}
use Rattle.definitions.specs.Comparisons.{name_before, dom_before, dotted}
use Rattle.definitions.specs.Map.{LineType, LineMap, line_type_of, type_map_of, line_map_of}
use Rattle.definitions.specs.Making.{declared, is_resource, class_names, marks_of, all_virtual, create_synthetic_resource, extension_line, same_item}
use Rattle.definitions.specs.Items.{owned, given, of_word, associate_word, parents_of, ancestors, own_classes, doms_above, parents_above, words_made, own_resource, inherited_resource, items_at, items_for, items_of}
use Rattle.law_orders.specs.Comparisons.{name-strict, look-up-is}
use Rattle.law_lines.specs.Statements.{Readable, line_map, classes_of, is_refused, any_refused}
use Rattle.law_lines.specs.Unroll.{tests-unroll, ancestors-unroll}
use Rattle.law_lines.specs.Declarations.{type-in, type-of, declarations-ascend, name-is, declared-one}
use Rattle.law_lines.specs.SameItem.{tested-once}
use Rattle.law_lines.specs.Within.{Within}
use Rattle.law_lines.specs.Associating.{word-is}
use Rattle.order_form.specs.Lists.{below, below-same}
use Rattle.law_classes.specs.Sets.{Set, both, some, dom_of, class_of, named, masked, own_set, given_set, above_set, passed_set, classes_in, making_of, own_making, inherited_making, set_items_at, made_set, set_items_for, set_items}
use Rattle.law_classes.proofs.SetLaws.{Short, Plain, Known, class-of, class-in, word-meets, names-in-set, words-in-set}

-- ---- inheritance is `or`

pub named-append : (a b : List Resource) (D : LineType) → named (a ++ b) D ≡ (named a D || named b D)
unfolding named
named-append a b D = any_append _ a b

pub named-each : (As : List LineType) (D : LineType) → named (each given As) D ≡ any (λ A. given_set A D) As
unfolding named given_set
named-each As D = any-each _ given As

-- what T passes on, from the lists
pub passed-named : (m : LineMap) (T D : LineType) → passed_set m T D ≡ named (each given (T ∷ ancestors m T)) D
unfolding passed_set given_set above_set
passed-named m T D = sym (named-append (given T) (each given (ancestors m T)) D)

-- what T has from above is what its parents pass on
pub above-unrolls : (s : Sheet) → Readable s → (T : TypeInfo) (D : LineType)
    → above_set (line_map s) (line_type_of T) D ≡ any (λ P. passed_set (line_map s) P D) (parents_of (line_map s) (line_type_of T))
unfolding above_set passed_set
above-unrolls s ok T D =
    let m = line_map s in
    named-each (ancestors m (line_type_of T)) D
    ∙ tests-unroll s ok T (λ A. given_set A D)
    ∙ any-alike (λ P. any (λ A. given_set A D) (P ∷ ancestors m P)) (λ P. passed_set m P D) (λ P. ap (λ b. given_set P D || b) (sym (named-each (ancestors m P) D))) (parents_of m (line_type_of T))

-- ---- where no type is refused

-- every class of T is declared
known_from : (m : LineMap) (T : LineType) (As : List LineType) → any (λ c. null (declared m c)) (classes_of T As) ≡ false → Known m (owned T ++ each given As)
known_from m T As e u i =
    let n = any-not (λ c. null (declared m c)) e (Memᴰ.map class_of i) in
    let x = null-not (declared m (class_of u)) n in
    let y = (look-up-is (λ (D : LineType). D.name) m.types (class_of u) x.0).0 x.1 in
    (x.0, y.0, y.1)

short-of : (n : Name) → 1 ≤ length n → length n ≤ 2 → Short n
short-of [] h k = absurd (omega arith)
short-of (a ∷ []) h k = refl
short-of (a ∷ b ∷ []) h k = refl
short-of (a ∷ b ∷ c ∷ l) h k = absurd (omega arith)

pub plain_map : (s : Sheet) → Readable s → Within s → Plain (line_map s)
unfolding line_map_of type_map_of
plain_map s ok w = record {
  short = λ D i.
      let t = type-of s i in
      let n = (w.type t.0 t.1).name in
      subst (λ (D : LineType). Short D.name) t.2 (subst Short (sym (name-is t.0)) (short-of t.0.name n.least n.most));
  ascend = declarations-ascend s ok;
}

-- tests that agree on the members keep the same
pub filter-agree : {A : Type 0} (f g : A → Bool) (l : List A) → ((x : A) → In x l → f x ≡ g x) → filter f l ≡ filter g l
filter-agree f g [] h = refl
filter-agree {A} f g (x ∷ l) h = ap₂ (λ (b : Bool) (k : List A). keep b x k) (h x (Memᴰ.head refl)) (filter-agree f g l (λ y i. h y (Memᴰ.tail i)))

-- a part of a list that is sorted
pub sorted_part : {A B : Type 0} (R : B → B → Type 0) (f : A → List B) (x : A) (l : List A) → In x l → Sorted R (each f l) → Sorted R (f x)
sorted_part R f x [] i p = absurd (Memᴰ.not-nil i)
sorted_part R f x (y ∷ l) i p =
    cons-elim i
    (λ e. subst (λ z. Sorted R (f z)) (sym e) (sorted-left R (f y) (each f l) p))
    (λ j. sorted_part R f x l j (sorted-right R (f y) (each f l) p))

module _ (s : Sheet) (ok : Readable s) (within : Within s) where
  abbrev m : LineMap
  m = line_map s

  plain : Plain m
  plain = plain_map s ok within

  -- the making of classes that are types of the map
  pub declared-self : {C : LineType} → In C m.types → declared m C.name ≡ C ∷ []
  declared-self {C} i =
      let t = type-of s i in
      declared-one s ok t.1 (sym (name-is t.0) ∙ ap (λ (D : LineType). D.name) t.2) ∙ ap (λ (D : LineType). D ∷ []) t.2

  marks-are : (Cs : List LineType) → ((C : LineType) → In C Cs → In C m.types) → marks_of m (map (λ (C : LineType). C.name) Cs) ≡ each (λ (C : LineType). C.marks) Cs
  unfolding marks_of
  marks-are Cs h =
      each_map (λ c. each (λ (D : LineType). D.marks) (declared m c)) (λ (C : LineType). C.name) Cs
      ∙ each_same (λ (C : LineType). each (λ (D : LineType). D.marks) (declared m C.name)) (λ (C : LineType). C.marks) Cs
      (λ C i. ap (each (λ (D : LineType). D.marks)) (declared-self (h C i)) ∙ append-nil C.marks)

  virtual-are : (Cs : List LineType) → ((C : LineType) → In C Cs → In C m.types) → all_virtual m (map (λ (C : LineType). C.name) Cs) ≡ all (λ (C : LineType). C.virtual) Cs
  unfolding all_virtual
  virtual-are [] h = refl
  virtual-are (C ∷ Cs) h =
      ap₂ (λ a b. a && b)
      (ap (all (λ (D : LineType). D.virtual)) (declared-self (h C (Memᴰ.head refl))) ∙ and-true C.virtual)
      (virtual-are Cs (λ D i. h D (Memᴰ.tail i)))

  pub making-is : (T : LineType) (r : ℕ) (Cs : List LineType) (firsts : List Name) → ((C : LineType) → In C Cs → In C m.types)
      → create_synthetic_resource m T r (map (λ (C : LineType). C.name) Cs) firsts ≡ making_of m T r Cs firsts
  unfolding create_synthetic_resource making_of
  making-is T r Cs firsts h = rw (virtual-are Cs h, marks-are Cs h)

  -- the word of a declared class is a word of the sheet
  pub word_below : (u : Resource) → (C : LineType) × In C m.types × (C.name ≡ class_of u) → u.word < length s.words
  word_below u k =
      let t = type-of s k.1 in
      let n : t.0.name ≡ class_of u = sym (name-is t.0) ∙ ap (λ (D : LineType). D.name) t.2 ∙ k.2 in
      (within.type t.0 t.1).name.below u.word (subst (In u.word) (sym n) (Memᴰ.append_right u.dom (Memᴰ.head refl)))

  -- ---- one type whose classes are declared

  module _ (T : TypeInfo) (known : Known m (owned (line_type_of T) ++ each given (ancestors m (line_type_of T)))) where
    abbrev D : LineType
    D = line_type_of T

    abbrev As : List LineType
    As = ancestors m D

    pub known-own : Known m (owned D)
    known-own u i = known u (Memᴰ.append_left (each given As) i)

    pub known-above : Known m (each given As)
    known-above u i = known u (Memᴰ.append_right (owned D) i)

    -- what a parent passes on is given above T
    known-passed : (P : LineType) → In P (parents_of m D) → Known m (each given (P ∷ ancestors m P))
    known-passed P p u i =
        let x = each_of given (P ∷ ancestors m P) i in
        known-above u (each_in given ((ancestors-unroll s ok T x.0).1 (P, p, cons-elim x.1 inl inr)) x.2)

    -- a word that is associated above (FORMAT 4.4)
    pub associate-is : (r : ℕ) → associate_word As r ≡ some m (both (above_set m D) (masked r))
    unfolding above_set
    associate-is r = sym (any-each (λ (u : Resource). eqb u.word r) given As) ∙ word-meets m plain (each given As) known-above r

    passes-is : (r : ℕ) (P : LineType) → In P (parents_of m D) → associate_word (P ∷ ancestors m P) r ≡ some m (both (passed_set m P) (masked r))
    passes-is r P p =
        sym (any-each (λ (u : Resource). eqb u.word r) given (P ∷ ancestors m P))
        ∙ word-meets m plain (each given (P ∷ ancestors m P)) (known-passed P p) r
        ∙ any-alike _ _ (λ C. ap (λ b. b && masked r C) (sym (passed-named m P C))) m.types

    -- the classes of the inherited making: `above & mask`
    pub classes-are : (r : ℕ) → class_names (doms_above As r) r ≡ map (λ (C : LineType). C.name) (classes_in m (both (above_set m D) (masked r)))
    unfolding doms_above above_set
    classes-are r = names-in-set m plain (each given As) known-above r

    -- its first parents: those whose passed set meets the mask
    pub parents-are : (r : ℕ) → parents_above m D r ≡ map (λ (P : LineType). dotted P.name r) (filter (λ P. some m (both (passed_set m P) (masked r))) (parents_of m D))
    unfolding parents_above
    parents-are r =
        ap (map (λ (P : LineType). dotted P.name r))
        (filter-agree (λ P. associate_word (P ∷ ancestors m P) r) (λ P. some m (both (passed_set m P) (masked r))) (parents_of m D) (passes-is r))

    -- the words with a making: those whose mask `own | above` meets
    pub words_are : words_made D As ≡ below (λ r. some m (both (made_set m D) (masked r))) (length s.words)
    unfolding words_made made_set own_set above_set
    words_are =
        words-in-set m plain (owned D ++ each given As) known (length s.words) (λ u i. word_below u (known u i))
        ∙ below-same _ _ (length s.words) (λ r h. any-alike _ _ (λ C. ap (λ b. b && masked r C) (named-append (owned D) (each given As) C)) m.types)

    pub classes-in : (S : Set) (C : LineType) → In C (classes_in m S) → In C m.types
    unfolding classes_in
    classes-in S C i =
        (filter-of S m.types ((sort-is (λ (D E : LineType). dom_before (dom_of D.name) (dom_of E.name)) (filter S m.types) C).0 i)).0

    pub inherited-is : (r : ℕ) → inherited_resource m D As r ≡ inherited_making m D r
    unfolding inherited_resource inherited_making
    inherited-is r =
        ap₂ (create_synthetic_resource m D r) (classes-are r) (parents-are r)
        ∙ making-is D r (classes_in m (both (above_set m D) (masked r))) _ (classes-in (both (above_set m D) (masked r)))

    -- ---- the own makings

    abbrev own : ℕ → List LineType
    own r = filter (both (own_set D) (masked r)) m.types

    abbrev own_names : ℕ → List Name
    own_names r = map (λ (u : Resource). dotted u.dom r) (of_word r (owned D))

    -- where no own class stands twice, the sorted list has the members of `own & mask`
    pub own-are : (r : ℕ) → Distinct (own_classes m D r) → own_classes m D r ≡ map (λ (C : LineType). C.name) (own r)
    unfolding own_classes own_set
    own-are r once =
        let N : Name → Name → Type 0 = λ a b. name_before m.words a b ≡ true in
        let k : Sorted (λ (a b : Name). a ≡ b → ⊥) (own_names r) = perm-sorted (λ a b. a ≡ b → ⊥) (λ a b h e. h (sym e)) (Permᴰ.symm (sort-perm (name_before m.words) (own_names r))) once in
        sorted-unique N (asymmetric (name-strict m.words)) (sort (name_before m.words) (own_names r)) (map (λ (C : LineType). C.name) (own r))
        (sort_sorted (name-strict m.words) (λ (n : Name). n) (own_names r) k)
        (sorted-map N (λ (C : LineType). C.name) (own r) (sorted_filter (λ (P Q : LineType). N P.name Q.name) (both (named (owned D)) (masked r)) m.types plain.ascend))
        (λ n i.
        let x = Memᴰ.of_map (λ (u : Resource). dotted u.dom r) (of_word r (owned D)) ((sort-is (name_before m.words) (own_names r) n).0 i) in
        let w = (word-is r (owned D) x.0).0 x.1 in
        let c = class-in m plain (owned D) known-own x.0 w.0 in
        let e : n ≡ c.0.name = sym x.2 ∙ ap (dotted x.0.dom) (sym w.1) ∙ sym c.4 in
        Memᴰ.cast e (Memᴰ.map (λ (C : LineType). C.name) (filter-in (both (named (owned D)) (masked r)) c.1 (subst (λ q. both (named (owned D)) (masked q) c.0 ≡ true) w.1 c.2))))
        (λ n i.
        let x = Memᴰ.of_map (λ (C : LineType). C.name) (own r) i in
        let y = filter-of (both (named (owned D)) (masked r)) m.types x.1 in
        let c = class-of m plain (owned D) r x.0 y.0 y.1 in
        (sort-is (name_before m.words) (own_names r) n).1
        (Memᴰ.cast (sym x.2 ∙ c.2 ∙ ap (dotted c.0.dom) c.3) (Memᴰ.map (λ (u : Resource). dotted u.dom r) ((word-is r (owned D) c.0).1 (c.1, c.3)))))

    -- where no two of its items are equal, no own class stands twice
    pub own-once : Distinct (items_for m D As) → (r : ℕ) → In r (words_made D As) → Distinct (own_classes m D r)
    unfolding items_for items_at
    own-once items-once r i =
        sorted-imp (own_classes m D r) (λ a b j k h e. h (ap (own_resource m D r) e))
        (map-sorted (λ x y. x ≡ y → ⊥) (own_resource m D r) (own_classes m D r)
        (sorted-left (λ x y. x ≡ y → ⊥) (map (own_resource m D r) (own_classes m D r)) _ (sorted_part (λ x y. x ≡ y → ⊥) (items_at m D As) r (words_made D As) i items-once)))

    own-items : (r : ℕ) → Distinct (own_classes m D r) → map (own_resource m D r) (own_classes m D r) ≡ map (own_making m D r) (own r)
    unfolding own_resource own_making
    own-items r once =
        ap (map (own_resource m D r)) (own-are r once)
        ∙ map-map (own_resource m D r) (λ (C : LineType). C.name) (own r)
        ∙ map_same (λ (C : LineType). own_resource m D r C.name) (own_making m D r) (own r)
        (λ C j.
        let c : (E : LineType) → In E (C ∷ []) → In E m.types = λ E k. cons-elim k (λ e. Memᴰ.cast e (filter-of (both (own_set D) (masked r)) m.types j).0) (λ n. absurd (Memᴰ.not-nil n)) in
        making-is D r (C ∷ []) (C.name ∷ []) c)

    pub at-is : (r : ℕ) → Distinct (own_classes m D r) → items_at m D As r ≡ set_items_at m D r
    unfolding items_at set_items_at
    at-is r once =
        ap₂ (λ (a b : List Item). a ++ (b ++ (extension_line D r ∷ []))) (own-items r once)
        (map_same (inherited_resource m D As) (inherited_making m D) (filter (associate_word As) (r ∷ [])) (λ q j. inherited-is q)
        ∙ ap (map (inherited_making m D)) (filter_alike (associate_word As) (λ q. some m (both (above_set m D) (masked q))) associate-is (r ∷ [])))

    -- the items of T by sets
    pub for-is : ((r : ℕ) → In r (words_made D As) → Distinct (own_classes m D r)) → items_for m D As ≡ set_items_for (length s.words) m D
    unfolding items_for set_items_for
    for-is once = each_same (items_at m D As) (set_items_at m D) (words_made D As) (λ r i. at-is r (once r i)) ∙ ap (each (set_items_at m D)) words_are

  -- what a type that is not refused has of this
  not-refused-known : (T : TypeInfo) → is_refused m (line_type_of T) (ancestors m (line_type_of T)) ≡ false → Known m (owned (line_type_of T) ++ each given (ancestors m (line_type_of T)))
  unfolding is_refused
  not-refused-known T fine =
      let D = line_type_of T in
      let As = ancestors m D in
      known_from m D As (or-false-left (any (λ c. null (declared m c)) (classes_of D As)) _ fine)

  not-refused-once : (T : TypeInfo) → is_refused m (line_type_of T) (ancestors m (line_type_of T)) ≡ false → Distinct (items_for m (line_type_of T) (ancestors m (line_type_of T)))
  unfolding is_refused
  not-refused-once T fine =
      let D = line_type_of T in
      let As = ancestors m D in
      tested-once (items_for m D As)
      (or-false-right (any (λ r. not (null (declared m (dotted D.name r)))) (words_made D As)) (repeats same_item (items_for m D As))
      (or-false-right (any (λ c. not (is_resource m c)) (classes_of D As)) _
      (or-false-right (any (λ c. null (declared m c)) (classes_of D As)) _ fine)))

-- On a map without a refused type the items are those that the sets give.
pub items-by-sets : (s : Sheet) → Readable s → Within s → any_refused (line_map s) ≡ false → items_of (line_map s) ≡ set_items (length s.words) (line_map s)
unfolding items_of set_items any_refused
items-by-sets s ok w e =
    let m = line_map s in
    each_same (λ T. items_for m T (ancestors m T)) (set_items_for (length s.words) m) m.types
    (λ X i.
    let t = type-of s i in
    subst (λ X. items_for m X (ancestors m X) ≡ set_items_for (length s.words) m X) t.2
    (let fine = any-not (λ T. is_refused m T (ancestors m T)) e (type-in s t.1) in
    let known = not-refused-known s ok w t.0 fine in
    for-is s ok w t.0 known (own-once s ok w t.0 known (not-refused-once s ok w t.0 fine))))
