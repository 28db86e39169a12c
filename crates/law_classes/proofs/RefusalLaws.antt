-- The test by sets is the test of the definitions.
use Rattle.std.proofs.Math.Bool.{Bool, true, not, or-false, or_assoc, and-true}
use Rattle.std.specs.Prelude.{false, ◌&&◌, ◌||◌, ◌⊎◌, ◌≡◌, length}
use Rattle.std.specs.Bool.{beq}
use mathlib.Core.List.Memᴰ
use mathlib.Core.List.{List, [], ◌∷◌, ◌++◌, map, append-nil, append_cancel_right, head-eq_of_cons-eq}
use Rattle.std.proofs.Common.{inl, inr, ap₂, ◌∙◌, arith}
use Rattle.std.proofs.Math.Logic.{⊎_elim}
use Rattle.std.proofs.Math.Path.{refl, sym, ap, subst}
use Prim.Native.Nat.{ℕ, ◌<◌}
use Rattle.std.proofs.Math.Dec.{eqb}
use borrow.Author.Tests.{eq-eqb, eqb-true, ltb-true, not-true}
use Rattle.lists.specs.Lists.{In, Sorted, any, all, null, keep, filter, each, same_list, repeats}
use Rattle.lists.specs.Tests.{by, never, not_so, same_test, and_left, and_right, and_both, or_elim, or_left, or_right, or-false-left, or-false-right, or-false-both, any-in, any_of, any-not, any_none, null-nil, null-not, null-in, filter-in, filter-of}
use Rattle.lists.specs.Appending.{any_append, any-each, any-map, any-alike}
use Rattle.lists.specs.Strict.{number-strict}
use Rattle.lists.specs.Sorting.{Distinct, sorted-across, sorted-append, sorted-imp, sorted_filter, repeats-not, sort-perm, perm-sorted, set-sorted}
use Rattle.lists.specs.Members.{distinct-map, distinct-each, sorted-map}
use Rattle.lists.specs.Lexicographic.{same_self, same_true}
use Rattle.definitions.specs.Records.{Name, Resource, TypeInfo, Sheet, Item}
use Rattle.definitions.specs.Comparisons.{same_name, name_before, look_up, dotted}
use Rattle.definitions.specs.Map.{LineType, LineMap, line_type_of}
use Rattle.definitions.specs.Making.{declared, extension_parents, is_resource_variant, is_resource, same_mark, extension_line, same_item}
use Rattle.definitions.specs.Items.{owned, given, of_word, ancestors, own_classes, words_made, items_at, items_for}
use Rattle.definitions.specs.Ancestry.{Parent, Ancestor, direct, further}
use Rattle.definitions.specs.ItemOrder.{parents_in}
use Rattle.law_orders.specs.Comparisons.{same-name, name-same, look-up-is}
use Rattle.law_lines.specs.Statements.{Readable, line_map, DeclaredFor, classes_of, is_refused, any_refused}
use Rattle.law_lines.specs.Declarations.{type-in, type-of, name-is, inherits-in, declared-one, declared-some, declarations-distinct, one-declaration}
use Rattle.law_lines.specs.Ancestors.{parents-above, ancestor-of}
use Rattle.law_lines.specs.Associating.{word-is, classes-are}
use Rattle.law_lines.specs.Once.{is_made, line-not, at_key, owned-apart}
use Rattle.law_lines.specs.Identical.{identical-is-twice}
use Rattle.law_lines.specs.SameItem.{same_item_lem, item-same, once-tested, tested-once}
use Rattle.law_lines.specs.Within.{Within}
use Rattle.order_form.specs.Lists.{below}
use Rattle.law_classes.specs.Sets.{both, some, word_of, dom_of, class_of, masked, own_set, above_set, classes_in, making_of, own_making, inherited_making, set_items_at, made_set, set_items_for}
use Rattle.law_classes.proofs.SetLaws.{Short, Known, parts, class-of, below_of, in-below}
use Rattle.law_classes.proofs.ItemLaws.{plain_map, words_are, word_below, own-once, at-is, for-is, sorted_part}
use Rattle.law_classes.specs.Refusal.{unmet, has_child, lost_class, taken_name, own_twice, firsts, identical, crosses, set_refused}

-- ---- tests

-- two tests of which one is false where the other is
same_false : {a b : Bool} → (a ≡ false → b ≡ false) → (b ≡ false → a ≡ false) → a ≡ b
same_false {a = true} {b = true} f g = refl
same_false {a = true} {b = false} f g = g refl
same_false {a = false} {b = true} f g = sym (f refl)
same_false {a = false} {b = false} f g = refl

any-agree : {A : Type 0} (f g : A → Bool) (l : List A) → ((x : A) → In x l → f x ≡ g x) → any f l ≡ any g l
any-agree f g [] h = refl
any-agree f g (x ∷ l) h = ap₂ (λ a b. a || b) (h x (Memᴰ.head refl)) (any-agree f g l (λ y i. h y (Memᴰ.tail i)))

-- a test of those that are kept
keep-any : {A : Type 0} (b : Bool) (v : A → Bool) (x : A) (l : List A) → any v (keep b x l) ≡ ((b && v x) || any v l)
keep-any true v x l = refl
keep-any false v x l = refl

any-filter : {A : Type 0} (f v : A → Bool) (l : List A) → any (λ x. f x && v x) l ≡ any v (filter f l)
any-filter f v [] = refl
any-filter f v (x ∷ l) = ap (λ b. (f x && v x) || b) (any-filter f v l) ∙ sym (keep-any (f x) v x (filter f l))

pub any-either : {A : Type 0} (f g : A → Bool) (l : List A) → (any f l || any g l) ≡ any (λ x. f x || g x) l
any-either f g l =
    same_test
    (λ e.
    or_elim (any f l) (any g l) e
    (λ p. let x = any_of f l p in any-in (λ x. f x || g x) x.1 (or_left (g x.0) x.2))
    (λ p. let x = any_of g l p in any-in (λ x. f x || g x) x.1 (or_right (f x.0) x.2)))
    (λ e.
    let x = any_of (λ x. f x || g x) l e in
    or_elim (f x.0) (g x.0) x.2 (λ p. or_left (any g l) (any-in f x.1 p)) (λ p. or_right (any f l) (any-in g x.1 p)))

not-false : {b : Bool} → not b ≡ false → b ≡ true
not-false {b = true} e = refl
not-false {b = false} e = sym e

repeats-none : {A : Type 0} (same : A → A → Bool) (l : List A) → Sorted (λ x y. same x y ≡ false) l → repeats same l ≡ false
repeats-none same [] s = refl
repeats-none same (x ∷ l) s = or-false-both (any_none (same x) l s.0) (repeats-none same l s.1)

swap : (a b c : Bool) → (a && (b && c)) ≡ (b && (a && c))
swap true b c = refl
swap false true c = refl
swap false false c = refl

-- lists of names that end alike
cancel : (c : Name) (F k : List Name) → same_list same_name (c ∷ k) (F ++ k) ≡ same_list same_name (c ∷ []) F
cancel c F k =
    same_test
    (λ e. subst (λ l. same_list same_name (c ∷ []) l ≡ true) (append_cancel_right (c ∷ []) F k (same_true same_name same-name (c ∷ k) (F ++ k) e)) (same_self same_name (λ n. name-same {a = n} refl) (c ∷ [])))
    (λ e. subst (λ l. same_list same_name (c ∷ k) (l ++ k) ≡ true) (same_true same_name same-name (c ∷ []) F e) (same_self same_name (λ n. name-same {a = n} refl) (c ∷ k)))

-- ---- classes that are no declared resource

-- a type that is someone's ancestor is someone's parent
child-of : {s : Sheet} {A T : TypeInfo} → Ancestor s A T → In T s.types → (C : TypeInfo) × In C s.types × Parent s A C
child-of (direct {T = T} p) i = (T, i, p)
child-of (further p a) i = child-of a p.declared

module _ (s : Sheet) (ok : Readable s) where
  abbrev m : LineMap
  m = line_map s

  abbrev v : LineType → Bool
  v D = is_resource_variant D.variant

  -- at most one type has a name
  at_most_one : (c : Name) → (declared m c ≡ []) ⊎ ((E : LineType) × (declared m c ≡ E ∷ []))
  at_most_one c =
      by (null (declared m c))
      (λ e. inl (null-nil (declared m c) e))
      (λ e. let d = declared-some s ok c e in inr (line_type_of d.0, declared-one s ok d.1 d.2))

  one-case : (l : List LineType) → ((l ≡ []) ⊎ ((E : LineType) × (l ≡ E ∷ []))) → (null l || not (all v l)) ≡ not (any v l)
  one-case l h = ⊎_elim (λ e. rw e) (λ p. rw p.1 (ap not (and-true (v p.0) ∙ sym (or-false (v p.0))))) h

  -- a class is undeclared or no resource
  lost-one : (c : Name) → (null (declared m c) || not (is_resource m c)) ≡ not (some m (λ D. same_name D.name c && v D))
  unfolding look_up
  lost-one c = one-case (declared m c) (at_most_one c) ∙ ap not (sym (any-filter (λ (D : LineType). same_name D.name c) v m.types))

  lost-is : (T : LineType) (As : List LineType)
      → (any (λ c. null (declared m c)) (classes_of T As) || any (λ c. not (is_resource m c)) (classes_of T As)) ≡ unmet m (owned T ++ each given As)
  unfolding unmet
  lost-is T As =
      any-either (λ c. null (declared m c)) (λ c. not (is_resource m c)) (classes_of T As)
      ∙ any-map (λ c. null (declared m c) || not (is_resource m c)) class_of (owned T ++ each given As)
      ∙ any-alike _ _ (λ (u : Resource). lost-one (class_of u)) (owned T ++ each given As)

  unmet-parts : (T : LineType) (As : List LineType) → unmet m (owned T ++ each given As) ≡ (unmet m (owned T) || any (λ A. unmet m (given A)) As)
  unfolding unmet
  unmet-parts T As = any_append _ (owned T) (each given As) ∙ ap (λ b. unmet m (owned T) || b) (any-each _ given As)

  -- what any ancestor gives is asked once, of each type with a child
  pub lost-anywhere : any (λ T. unmet m (owned T ++ each given (ancestors m T))) m.types ≡ any (lost_class m) m.types
  unfolding lost_class has_child
  lost-anywhere =
      same_test
      (λ e.
      let x = any_of (λ T. unmet m (owned T ++ each given (ancestors m T))) m.types e in
      or_elim (unmet m (owned x.0)) (any (λ A. unmet m (given A)) (ancestors m x.0)) (sym (unmet-parts x.0 (ancestors m x.0)) ∙ x.2)
      (λ p. any-in (lost_class m) x.1 (or_left _ p))
      (λ p.
      let t = type-of s x.1 in
      let a = any_of (λ A. unmet m (given A)) (ancestors m x.0) p in
      let b = ancestor-of s ok t.0 (subst (λ D. In a.0 (ancestors m D)) (sym t.2) a.1) in
      let c = child-of b.1 t.1 in
      let A = b.0 in
      let k : has_child m (line_type_of A) ≡ true =
      any-in (λ (T : LineType). T.inherits (line_type_of A).name) (type-in s c.1) (rw (name-is A) (inherits-in c.0 c.2.listed)) in
      any-in (lost_class m) (type-in s c.2.declared) (or_right (unmet m (owned (line_type_of A))) (and_both k (subst (λ D. unmet m (given D) ≡ true) (sym b.2) a.2)))))
      (λ e.
      let x = any_of (lost_class m) m.types e in
      let g : LineType → Bool = λ T. unmet m (owned T ++ each given (ancestors m T)) in
      or_elim (unmet m (owned x.0)) (has_child m x.0 && unmet m (given x.0)) x.2
      (λ p. any-in g x.1 (unmet-parts x.0 (ancestors m x.0) ∙ or_left _ p))
      (λ p.
      let c = any_of (λ (T : LineType). T.inherits x.0.name) m.types (and_left (has_child m x.0) (unmet m (given x.0)) p) in
      any-in g c.1
      (unmet-parts c.0 (ancestors m c.0)
      ∙ or_right (unmet m (owned c.0)) (any-in (λ A. unmet m (given A)) (parents-above m c.0 x.1 c.2) (and_right (has_child m x.0) (unmet m (given x.0)) p)))))

  -- ---- one type whose classes are declared

  module _ (within : Within s) (T : TypeInfo) (known : Known m (owned (line_type_of T) ++ each given (ancestors m (line_type_of T)))) where
    abbrev D : LineType
    D = line_type_of T

    abbrev As : List LineType
    As = ancestors m D

    abbrev W : ℕ
    W = length s.words

    abbrev meets : ℕ → Bool
    meets r = some m (both (made_set m D) (masked r))

    taken_is : any (λ r. not (null (declared m (dotted D.name r)))) (words_made D As) ≡ taken_name m D
    unfolding taken_name
    taken_is =
        let f : ℕ → Bool = λ r. not (null (declared m (dotted D.name r))) in
        let g : LineType → Bool = λ E. same_name E.name (dotted D.name (word_of E.name)) && meets (word_of E.name) in
        ap (any f) (words_are s ok within T known)
        ∙ same_test
        (λ e.
        let x = any_of f (below meets W) e in
        let b = below_of meets W x.1 in
        let y = null-not (declared m (dotted D.name x.0)) (not-true _ x.2) in
        let z = (look-up-is (λ (E : LineType). E.name) m.types (dotted D.name x.0) y.0).0 y.1 in
        let w : word_of y.0.name ≡ x.0 = ap word_of z.1 ∙ (parts D.name x.0 (subst Short z.1 ((plain_map s ok within).short y.0 z.0))).0 in
        any-in g z.0 (and_both (name-same (z.1 ∙ ap (dotted D.name) (sym w))) (subst (λ r. meets r ≡ true) (sym w) b.1)))
        (λ e.
        let x = any_of g m.types e in
        let r = word_of x.0.name in
        let n = same-name x.0.name (dotted D.name r) (and_left (same_name x.0.name (dotted D.name r)) (meets r) x.2) in
        let i = (look-up-is (λ (E : LineType). E.name) m.types (dotted D.name r) x.0).1 (x.1, n) in
        any-in f (in-below meets W (word_below s ok within (record { word = r; dom = D.name }) (x.0, x.1, n)) (and_right (same_name x.0.name (dotted D.name r)) (meets r) x.2))
        (ap not (not_so (λ q. null-in q i))))

    -- ---- two identical makings

    abbrev own : ℕ → List LineType
    own r = filter (both (own_set D) (masked r)) m.types

    abbrev aboves : ℕ → Bool
    aboves r = some m (both (above_set m D) (masked r))

    -- the test of an own making and the inherited one of its word
    identical-is : (r : ℕ) (C : LineType) → same_item (own_making m D r C) (inherited_making m D r) ≡ identical m D r C
    unfolding own_making inherited_making making_of identical same_item firsts
    identical-is r C =
        rw (name-same {a = D.name} refl, eq-eqb r r refl, and-true C.virtual, append-nil C.marks, cancel C.name (firsts m D r) ((m.resource ∷ []) ∷ extension_parents m D.name r))
        (let Cs = classes_in m (both (above_set m D) (masked r)) in
        swap (beq (D.virtual && C.virtual) (D.virtual && all (λ (E : LineType). E.virtual) Cs)) (same_list same_name (C.name ∷ []) (firsts m D r))
        (same_list same_mark C.marks (each (λ (E : LineType). E.marks) Cs)))

    -- a class of an own making, and its word
    own_of : (r : ℕ) (C : LineType) → In C (own r) → In C m.types × (own_set D C ≡ true) × (word_of C.name ≡ r)
    own_of r C i =
        let x = filter-of (both (own_set D) (masked r)) m.types i in
        (x.0, and_left (own_set D C) (masked r C) x.1, eqb-true (word_of C.name) r (and_right (own_set D C) (masked r C) x.1))

    word_made : (C : LineType) → In C m.types → own_set D C ≡ true → In (word_of C.name) (below meets W)
    unfolding own_set made_set
    word_made C i e =
        let r = word_of C.name in
        let q = eq-eqb r r refl in
        let c = class-of m (plain_map s ok within) (owned D) r C i (and_both e q) in
        in-below meets W (subst (λ w. w < W) c.3 (word_below s ok within c.0 (C, i, c.2))) (any-in (both (made_set m D) (masked r)) i (and_both (or_left (above_set m D C) e) q))

    -- where none of T's items stands twice, no own making is the inherited one
    no-cross : Distinct (items_for m D As) → crosses m D ≡ false
    unfolding crosses set_items_for set_items_at
    no-cross once =
        any_none (λ (C : LineType). own_set D C && (aboves (word_of C.name) && identical m D (word_of C.name) C)) m.types
        (λ C i.
        not_so
        (λ e.
        let r = word_of C.name in
        let o = and_left (own_set D C) (aboves r && identical m D r C) e in
        let f = and_right (own_set D C) (aboves r && identical m D r C) e in
        let d : Distinct (set_items_for W m D) = subst Distinct (for-is s ok within T known (own-once s ok within T known once)) once in
        let p = sorted_part (λ x y. x ≡ y → ⊥) (set_items_at m D) r (below meets W) (word_made C i o) d in
        sorted-across (λ x y. x ≡ y → ⊥) (map (own_making m D r) (own r)) (map (inherited_making m D) (filter aboves (r ∷ [])) ++ (extension_line D r ∷ [])) p
        (own_making m D r C) (inherited_making m D r)
        (Memᴰ.map (own_making m D r) (filter-in (both (own_set D) (masked r)) i (and_both o (eq-eqb r r refl))))
        (Memᴰ.append_left (extension_line D r ∷ []) (Memᴰ.map (inherited_making m D) (filter-in aboves {x = r} {l = r ∷ []} (Memᴰ.head refl) (and_left (aboves r) (identical m D r C) f))))
        (same_item_lem (own_making m D r C) (inherited_making m D r) (identical-is r C ∙ and_right (aboves r) (identical m D r C) f))))

    -- ---- one class twice

    abbrev Apart : Resource → Resource → Type 0
    Apart u w = same_name (class_of u) (class_of w) ≡ false

    short-class : (u : Resource) → In u (owned D) → Short (class_of u)
    short-class u i = let k = known u (Memᴰ.append_left (each given As) i) in subst Short k.2 ((plain_map s ok within).short k.0 k.1)

    declared-for : DeclaredFor s T
    declared-for c h =
        let x = Memᴰ.of_map class_of (owned D ++ each given As) ((classes-are s ok T c).1 h) in
        let k = known x.0 x.1 in
        let t = type-of s k.1 in
        (t.0, t.1, sym (name-is t.0) ∙ ap (λ (E : LineType). E.name) t.2 ∙ k.2 ∙ x.2)

    no-twice : Distinct (items_for m D As) → own_twice D ≡ false
    unfolding own_twice
    no-twice once =
        repeats-none (λ (u w : Resource). same_name (class_of u) (class_of w)) (owned D)
        (sorted-imp (owned D)
        (λ u w i j h.
        not_so
        (λ e.
        let q = same-name (class_of u) (class_of w) e in
        let a = parts u.dom u.word (short-class u i) in
        let b = parts w.dom w.word (short-class w j) in
        h (sym a.0 ∙ ap word_of q ∙ b.0, sym a.1 ∙ ap dom_of q ∙ b.1)))
        (owned-apart s ok T declared-for ((identical-is-twice s ok T declared-for).1 once)))

    -- ---- and back: no class twice and no crossing leave each item once

    module _ (single : own_twice D ≡ false) (uncrossed : crosses m D ≡ false) where
      classes-once : (r : ℕ) → Distinct (own_classes m D r)
      unfolding own_classes own_twice
      classes-once r =
          let us = owned D in
          let f : Resource → Name = λ u. dotted u.dom r in
          perm-sorted (λ a b. a ≡ b → ⊥) (λ a b h e. h (sym e)) (sort-perm (name_before m.words) (map f (of_word r us)))
          (sorted-map (λ a b. a ≡ b → ⊥) f (of_word r us)
          (sorted-imp (of_word r us)
          (λ u w i j h e.
          never (name-same (ap (dotted u.dom) ((word-is r us u).0 i).1 ∙ e ∙ ap (dotted w.dom) (sym ((word-is r us w).0 j).1))) h)
          (sorted_filter Apart (λ (u : Resource). eqb u.word r) us (repeats-not (λ (u w : Resource). same_name (class_of u) (class_of w)) us single))))

      own-distinct : (r : ℕ) → Distinct (own r)
      own-distinct r = sorted_filter (λ (a b : LineType). a ≡ b → ⊥) (both (own_set D) (masked r)) m.types (declarations-distinct s ok)

      own-parent : (r : ℕ) (C E : LineType) → own_making m D r C ≡ own_making m D r E → C.name ≡ E.name
      unfolding own_making making_of
      own-parent r C E e = head-eq_of_cons-eq (ap parents_in e)

      own-is-made : (r : ℕ) (C : LineType) → is_made (own_making m D r C) ≡ true
      unfolding own_making making_of
      own-is-made r C = refl

      inherited-is-made : (r : ℕ) → is_made (inherited_making m D r) ≡ true
      unfolding inherited_making making_of
      inherited-is-made r = refl

      set-once : (r : ℕ) → Distinct (set_items_at m D r)
      unfolding set_items_at crosses
      set-once r =
          let N : Item → Item → Type 0 = λ x y. x ≡ y → ⊥ in
          let inh = map (inherited_making m D) (filter aboves (r ∷ [])) in
          let line = extension_line D r ∷ [] in
          let is-r : (q : ℕ) → In q (filter aboves (r ∷ [])) → q ≡ r = λ q i. Memᴰ.eq_of_singleton (filter-of aboves (r ∷ []) i).0 in
          sorted-append N (map (own_making m D r) (own r)) (inh ++ line)
          (distinct-map (own_making m D r) (own r) (own-distinct r) (λ C E i j e. one-declaration s ok (own_of r C i).0 (own_of r E j).0 (own-parent r C E e)))
          (sorted-append N inh line
          (distinct-map (inherited_making m D) (filter aboves (r ∷ [])) (sorted_filter (λ (a b : ℕ). a ≡ b → ⊥) aboves (r ∷ []) (λ y i _. absurd (Memᴰ.not-nil i), tt))
          (λ x y i j e. is-r x i ∙ sym (is-r y j)))
          (λ y i _. absurd (Memᴰ.not-nil i), tt)
          (λ x y i j e.
          let a = Memᴰ.of_map (inherited_making m D) (filter aboves (r ∷ [])) i in
          never (inherited-is-made a.0) (ap is_made (a.2 ∙ e ∙ Memᴰ.eq_of_singleton j) ∙ line-not m D r)))
          (λ x y i j e.
          let a = Memᴰ.of_map (own_making m D r) (own r) i in
          let o = own_of r a.0 a.1 in
          ⊎_elim
          (λ k.
          let b = Memᴰ.of_map (inherited_making m D) (filter aboves (r ∷ [])) k in
          let z = is-r b.0 b.1 in
          let w : word_of a.0.name ≡ r = o.2 in
          let t : aboves r ≡ true = subst (λ q. aboves q ≡ true) z (filter-of aboves (r ∷ []) b.1).1 in
          let d : identical m D r a.0 ≡ true = sym (identical-is r a.0) ∙ item-same (a.2 ∙ e ∙ sym b.2 ∙ ap (inherited_making m D) z) in
          never (and_both o.1 (and_both (subst (λ q. aboves q ≡ true) (sym w) t) (subst (λ q. identical m D q a.0 ≡ true) (sym w) d)))
          (any-not (λ (C : LineType). own_set D C && (aboves (word_of C.name) && identical m D (word_of C.name) C)) uncrossed o.0))
          (λ k. never (own-is-made r a.0) (ap is_made (a.2 ∙ e ∙ Memᴰ.eq_of_singleton k) ∙ line-not m D r))
          (Memᴰ.append_cases inh j))

      all_once : Distinct (items_for m D As)
      unfolding items_for words_made
      all_once =
          let ws = words_made D As in
          distinct-each (items_at m D As) ws
          (sorted-imp ws (λ a b _ _ l e. let h = ltb-true a b l in omega arith) (set-sorted number-strict (map (λ (u : Resource). u.word) (owned D ++ each given As))))
          (λ r _. subst Distinct (sym (at-is s ok within T known r (classes-once r))) (set-once r))
          (λ r q x _ _ i j. sym (at_key m D As r i).1 ∙ (at_key m D As q j).1)

    twice-is : repeats same_item (items_for m D As) ≡ (own_twice D || crosses m D)
    twice-is =
        same_false
        (λ e. let d = tested-once (items_for m D As) e in or-false-both (no-twice d) (no-cross d))
        (λ e. once-tested (items_for m D As) (all_once (or-false-left (own_twice D) (crosses m D) e) (or-false-right (own_twice D) (crosses m D) e)))

  -- ---- the theorem

  module _ (within : Within s) where
    abbrev bad : LineType → Bool
    bad T = unmet m (owned T ++ each given (ancestors m T))

    abbrev rest : LineType → Bool
    rest T = taken_name m T || (own_twice T || crosses m T)

    -- where all its resources are met, its classes are declared
    met-known : (T : LineType) → bad T ≡ false → Known m (owned T ++ each given (ancestors m T))
    unfolding unmet
    met-known T e u i =
        let f : Resource → LineType → Bool = λ u D. same_name D.name (class_of u) && v D in
        let x = any_of (f u) m.types (not-false (any-not (λ (u : Resource). not (some m (f u))) e i)) in
        (x.0, x.1, same-name x.0.name (class_of u) (and_left (same_name x.0.name (class_of u)) (v x.0) x.2))

    -- the definitions' last two grounds
    abbrev others : LineType → Bool
    others T = any (λ r. not (null (declared m (dotted T.name r)))) (words_made T (ancestors m T)) || repeats same_item (items_for m T (ancestors m T))

    refused-is : (T : LineType) → is_refused m T (ancestors m T) ≡ (bad T || others T)
    unfolding is_refused
    refused-is T =
        let As = ancestors m T in
        sym (or_assoc (any (λ c. null (declared m c)) (classes_of T As)) (any (λ c. not (is_resource m c)) (classes_of T As)) (others T))
        ∙ ap (λ b. b || others T) (lost-is T As)

    rest-is : (X : LineType) → In X m.types → bad X ≡ false → is_refused m X (ancestors m X) ≡ rest X
    rest-is X i e =
        let t = type-of s i in
        subst (λ X. bad X ≡ false → is_refused m X (ancestors m X) ≡ rest X) t.2
        (λ b.
        let T = t.0 in
        let known = met-known (line_type_of T) b in
        refused-is (line_type_of T) ∙ rw b (ap₂ (λ a c. a || c) (taken_is within T known) (twice-is within T known)))
        e

    pub refused-by-sets : any_refused m ≡ set_refused m
    unfolding any_refused set_refused
    refused-by-sets =
        by (any bad m.types)
        (λ e.
        let x = any_of bad m.types e in
        any-in (λ T. is_refused m T (ancestors m T)) x.1 (refused-is x.0 ∙ or_left _ x.2)
        ∙ sym (or_left _ (sym lost-anywhere ∙ e)))
        (λ e.
        any-agree (λ T. is_refused m T (ancestors m T)) rest m.types (λ X i. rest-is X i (any-not bad e i))
        ∙ rw (sym lost-anywhere ∙ e))
