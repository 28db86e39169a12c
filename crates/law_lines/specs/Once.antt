-- On a map with no refused type no item stands twice.
use Rattle.std.specs.Prelude.{Bool, true, false, ◌≡◌, ℕ, zero}
use mathlib.Core.List.Memᴰ
use mathlib.Core.List.{List, [], ◌∷◌, ◌++◌, map, append_cancel_right, head-eq_of_cons-eq}
use Rattle.std.proofs.Math.Logic.{⊎_elim}
use Rattle.std.proofs.Math.Path.{refl, sym, ap}
use Rattle.std.proofs.Common.{ap₂, ◌∙◌, subst, arith}
use borrow.Author.Tests.{ltb-true}
use Rattle.std.proofs.Math.Dec.{eqb}
use Rattle.lists.specs.Lists.{In, At, Sorted, filter, each}
use Rattle.lists.specs.Tests.{never, filter-of, each_of}
use Rattle.lists.specs.Sorting.{Distinct, Ascending, sorted-append, sorted_filter, sorted-imp, sort_sorted, set-sorted}
use Rattle.definitions.specs.Records.{Name, Resource, make_list, associate, nest_associate, alias, inherit, derive, no_derive, Annotation, TypeInfo, Sheet, Item, synthesized, extension}
use Rattle.definitions.specs.Comparisons.{name_before, dotted}
use Rattle.definitions.specs.Map.{LineType, LineMap, type_map_of, line_type_of, line_map_of}
use Rattle.definitions.specs.Making.{create_synthetic_resource, extension_line}
use Rattle.definitions.specs.Items.{associate_of, owned, given, of_word, associate_word, ancestors, own_resource, own_classes, inherited_resource, words_made, items_at, items_for, items_of}
use Rattle.definitions.specs.Lines.{OwnResource, Source, Making, ClassOf, Refused}
use Rattle.definitions.specs.ItemOrder.{type_of, word_of, parents_in}
use Rattle.lists.specs.Members.{sorted-at, sorted-map, sorted-each, in-at, distinct-each, distinct-map}
use Rattle.lists.specs.Strict.{number-strict}
use Rattle.law_orders.specs.Comparisons.{name-strict}
use Rattle.law_lines.specs.Statements.{Readable, line_map, NoneIdentical, DeclaredFor, ItemsOnce}
use Rattle.law_lines.specs.Declarations.{declarations-distinct, type-of, one-declaration}
use Rattle.law_lines.specs.Associating.{own-at, owned-of, above, word-is}
use Rattle.law_lines.specs.Lines.{accepted-declared, own-making-in, own-classes-are, inherited-making-is, class-above}

-- ---- the parts of an item

abbrev pub is_made : Item → Bool
is_made (synthesized n r v ps ms) = true
is_made (extension n v t r) = false

module _ (m : LineMap) (T : LineType) where
  pub own-word : (r : ℕ) (c : Name) → word_of (own_resource m T r c) ≡ r
  unfolding own_resource create_synthetic_resource
  own-word r c = refl

  own-type : (r : ℕ) (c : Name) → type_of (own_resource m T r c) ≡ T.name
  unfolding own_resource create_synthetic_resource
  own-type r c = refl

  pub own-made : (r : ℕ) (c : Name) → is_made (own_resource m T r c) ≡ true
  unfolding own_resource create_synthetic_resource
  own-made r c = refl

  -- an own resource has its class as its first parent
  pub own-class : (r q : ℕ) (c d : Name) → own_resource m T r c ≡ own_resource m T q d → c ≡ d
  unfolding own_resource create_synthetic_resource
  own-class r q c d e = head-eq_of_cons-eq (ap parents_in e)

  pub inherited-word : (As : List LineType) (r : ℕ) → word_of (inherited_resource m T As r) ≡ r
  unfolding inherited_resource create_synthetic_resource
  inherited-word As r = refl

  inherited-type : (As : List LineType) (r : ℕ) → type_of (inherited_resource m T As r) ≡ T.name
  unfolding inherited_resource create_synthetic_resource
  inherited-type As r = refl

  pub inherited-made : (As : List LineType) (r : ℕ) → is_made (inherited_resource m T As r) ≡ true
  unfolding inherited_resource create_synthetic_resource
  inherited-made As r = refl

  line_word : (r : ℕ) → word_of (extension_line T r) ≡ r
  unfolding extension_line
  line_word r = refl

  line-type : (r : ℕ) → type_of (extension_line T r) ≡ T.name
  unfolding extension_line
  line-type r = refl

  pub line-not : (r : ℕ) → is_made (extension_line T r) ≡ false
  unfolding extension_line
  line-not r = refl

  -- what stands at T and r has that type and word
  pub at_key : (As : List LineType) (r : ℕ) {x : Item} → In x (items_at m T As r) → (type_of x ≡ T.name) × (word_of x ≡ r)
  unfolding items_at
  at_key As r {x} h =
      ⊎_elim
      (λ j. let y = Memᴰ.of_map (own_resource m T r) (own_classes m T r) j in (ap type_of (sym y.2) ∙ own-type r y.0, ap word_of (sym y.2) ∙ own-word r y.0))
      (λ j.
      ⊎_elim
      (λ k.
      let y = Memᴰ.of_map (inherited_resource m T As) (filter (associate_word As) (r ∷ [])) k in
      let z = filter-of (associate_word As) (r ∷ []) y.1 in
      (ap type_of (sym y.2) ∙ inherited-type As y.0, ap word_of (sym y.2) ∙ inherited-word As y.0 ∙ Memᴰ.eq_of_singleton z.0))
      (λ k. let e = Memᴰ.eq_of_singleton k in (ap type_of e ∙ line-type r, ap word_of e ∙ line_word r))
      (Memᴰ.append_cases (map (inherited_resource m T As) (filter (associate_word As) (r ∷ []))) j))
      (Memᴰ.append_cases (map (own_resource m T r) (own_classes m T r)) h)

  pub for-type : (As : List LineType) {x : Item} → In x (items_for m T As) → type_of x ≡ T.name
  unfolding items_for
  for-type As p = let y = each_of (items_at m T As) (words_made T As) p in (at_key As y.0 y.2).0

-- ---- sources

abbrev pub first_place : Source → ℕ
first_place (Source.own i j) = i
first_place (Source.inherited r) = zero

abbrev pub second_place : Source → ℕ
second_place (Source.own i j) = j
second_place (Source.inherited r) = zero

abbrev pub is_own : Source → Bool
is_own (Source.own i j) = true
is_own (Source.inherited r) = false

-- two resources with one word and one dom
abbrev pub SameResource : Resource → Resource → Type 0
SameResource u w = (u.word ≡ w.word) × (u.dom ≡ w.dom)

module _ (s : Sheet) (ok : Readable s) (T : TypeInfo) (d : DeclaredFor s T) where
  own-making : {i j : ℕ} {u : Resource} → OwnResource T i j u → {x : Item} → x ≡ own_resource (line_map s) (line_type_of T) u.word (dotted u.dom u.word)
      → Making s T (Source.own i j) x
  own-making {i} {j} {u} o e = Making.own i j refl (own-making-in s ok T u o (d (dotted u.dom u.word) (ClassOf.own i j u o refl)) e)

  module _ (n : NoneIdentical s T) where
    -- resources at two places are unlike
    apart-at : {i j k l : ℕ} {u w : Resource} → OwnResource T i j u → OwnResource T k l w → (Source.own i j ≡ Source.own k l → ⊥) → SameResource u w → ⊥
    apart-at {i} {j} {k} {l} {u} {w} o p h e =
        n (Source.own i j) (Source.own k l) (own_resource (line_map s) (line_type_of T) u.word (dotted u.dom u.word)) h (own-making o refl)
        (own-making p (ap₂ (λ r d. own_resource (line_map s) (line_type_of T) r (dotted d r)) e.0 e.1))

    within : {i : ℕ} (a : Annotation) → At a i T.annotations → Sorted (λ u w. SameResource u w → ⊥) (associate_of a)
    within make_list p = tt
    within {i} (associate rs) p =
        sorted-at (λ u w. SameResource u w → ⊥) rs (λ j l u w q q' h.
        apart-at (record { resources = rs; annotation = p; resource = q }) (record { resources = rs; annotation = p; resource = q' })
        (λ e. let f : j ≡ l = ap second_place e in omega arith))
    within (nest_associate rs) p = tt
    within (alias w) p = tt
    within (inherit ns) p = tt
    within (derive t) p = tt
    within no_derive p = tt

    pub owned-apart : Sorted (λ u w. SameResource u w → ⊥) (owned (line_type_of T))
    unfolding owned line_type_of
    owned-apart =
        sorted-each (λ u w. SameResource u w → ⊥) associate_of T.annotations
        (λ a i. within a (in-at i).1)
        (sorted-at _ T.annotations (λ i k a b p q h u w iu iw.
        let x = own-at a p iu in
        let y = own-at b q iw in
        apart-at x.1 y.1 (λ e. let f : i ≡ k = ap first_place e in omega arith)))

    -- the own classes of a word ascend by name, each once
    pub classes-ascend : (r : ℕ) → Ascending (name_before s.words) (own_classes (line_map s) (line_type_of T) r)
    unfolding own_classes line_map_of type_map_of
    classes-ascend r =
        let us = owned (line_type_of T) in
        let f : Resource → Name = λ u. dotted u.dom r in
        sort_sorted (name-strict s.words) (λ (c : Name). c) (map f (of_word r us))
        (sorted-map (λ a b. a ≡ b → ⊥) f (of_word r us)
        (sorted-imp (of_word r us)
        (λ u w i j h e. h (((word-is r us u).0 i).1 ∙ sym ((word-is r us w).0 j).1, append_cancel_right u.dom w.dom (r ∷ []) e))
        (sorted_filter (λ u w. SameResource u w → ⊥) (λ (u : Resource). eqb u.word r) us owned-apart)))

    classes-once : (r : ℕ) → Distinct (own_classes (line_map s) (line_type_of T) r)
    classes-once r = sorted-imp (own_classes (line_map s) (line_type_of T) r) (λ c d _ _ b e. never b (rw e ((name-strict s.words).irreflexive d))) (classes-ascend r)

    at_once : (r : ℕ) → Distinct (items_at (line_map s) (line_type_of T) (above s ok T) r)
    unfolding items_at
    at_once r =
        sorted-append (λ a b. a ≡ b → ⊥) owns (aboves ++ (extension_line D r ∷ []))
        (distinct-map (own_resource m D r) (own_classes m D r) (classes-once r) (λ c e _ _ q. own-class m D r r c e q))
        (sorted-append (λ a b. a ≡ b → ⊥) aboves (extension_line D r ∷ [])
        (distinct-map (inherited_resource m D As) (filter (associate_word As) (r ∷ [])) single (λ x y i j e. is-r i ∙ sym (is-r j)))
        (λ y i _. absurd (Memᴰ.not-nil i), tt)
        (λ x y i j e.
        let a = Memᴰ.of_map (inherited_resource m D As) (filter (associate_word As) (r ∷ [])) i in
        never (inherited-made m D As a.0) (ap is_made (a.2 ∙ e ∙ Memᴰ.eq_of_singleton j) ∙ line-not m D r)))
        (λ x y i j e.
        let a = Memᴰ.of_map (own_resource m D r) (own_classes m D r) i in
        ⊎_elim
        (λ k.
        let b = Memᴰ.of_map (inherited_resource m D As) (filter (associate_word As) (r ∷ [])) k in
        let z = filter-of (associate_word As) (r ∷ []) b.1 in
        let c = (own-classes-are s ok T r a.0).0 a.1 in
        let u = c.0 in
        let o = owned-of T c.1 in
        n (Source.own o.0 o.1) (Source.inherited b.0) x (λ q. never {b = is_own (Source.own o.0 o.1)} refl (ap is_own q))
        (own-making o.2 (sym a.2 ∙ ap (own_resource m D r) (sym c.3) ∙ ap (λ w. own_resource m D w (dotted u.dom w)) (sym c.2)))
        (Making.inherited b.0 refl ((inherited-making-is s ok T b.0 x).1 (z.1, λ c i. d c (class-above s ok T b.0 i), e ∙ sym b.2))))
        (λ k. never (own-made m D r a.0) (ap is_made (a.2 ∙ e ∙ Memᴰ.eq_of_singleton k) ∙ line-not m D r))
        (Memᴰ.append_cases aboves j))
      where
        m : LineMap
        m = line_map s

        D : LineType
        D = line_type_of T

        As : List LineType
        As = above s ok T

        owns : List Item
        owns = map (own_resource m D r) (own_classes m D r)

        aboves : List Item
        aboves = map (inherited_resource m D As) (filter (associate_word As) (r ∷ []))

        single : Distinct (filter (associate_word As) (r ∷ []))
        single = sorted_filter (λ a b. a ≡ b → ⊥) (associate_word As) (r ∷ []) (λ y i _. absurd (Memᴰ.not-nil i), tt)

        is-r : {q : ℕ} → In q (filter (associate_word As) (r ∷ [])) → q ≡ r
        is-r i = Memᴰ.eq_of_singleton (filter-of (associate_word As) (r ∷ []) i).0

    -- the items of T, each once
    pub for-once : Distinct (items_for (line_map s) (line_type_of T) (above s ok T))
    unfolding items_for words_made
    for-once =
        let m = line_map s in
        let As = above s ok T in
        let W = words_made (line_type_of T) As in
        distinct-each (items_at m (line_type_of T) As) W
        (sorted-imp W (λ a b _ _ l e. let h = ltb-true a b l in omega arith)
        (set-sorted number-strict (map (λ (u : Resource). u.word) (owned (line_type_of T) ++ each given As))))
        (λ r _. at_once r)
        (λ r q x _ _ i j. sym (at_key m (line_type_of T) As r i).1 ∙ (at_key m (line_type_of T) As q j).1)

-- ---- the theorem

pub items-once : ItemsOnce
unfolding items_of
items-once s ok a =
    distinct-each f m.types (declarations-distinct s ok)
    (λ X i.
    let t = type-of s i in
    subst (λ D. Distinct (f D)) t.2 (for-once s ok t.0 (accepted-declared s ok a t.0 t.1) (λ p q x h u w. a t.0 t.1 (Refused.identical p q x h u w))))
    (λ X Y x i j p q. one-declaration s ok i j (sym (name_of X p) ∙ name_of Y q))
  where
    m : LineMap
    m = line_map s

    f : LineType → List Item
    f D = items_for m D (ancestors m D)

    name_of : (D : LineType) {x : Item} → In x (f D) → type_of x ≡ D.name
    name_of D p = for-type m D (ancestors m D) p
