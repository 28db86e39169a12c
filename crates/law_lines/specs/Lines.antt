-- The items are the lines.
use Rattle.std.specs.Prelude.{true, List, [], ◌∷◌, map, ◌↔◌, ◌≡◌, ℕ}
use mathlib.Core.List.Memᴰ
use Rattle.std.proofs.Math.Logic.{⊎_elim}
use Rattle.std.proofs.Math.Path.{refl, sym, ap, ap₂, subst}
use Rattle.std.proofs.Common.{◌∙◌}
use Rattle.lists.specs.Lists.{In, null, filter}
use Rattle.lists.specs.Tests.{by, filter-in, filter-of, each_in, each_of}
use Rattle.lists.specs.Strict.{asymmetric}
use Rattle.lists.specs.Sorting.{sorted-unique, sort-is}
use Rattle.definitions.specs.Records.{Name, Dom, Resource, TypeInfo, Sheet, Item}
use Rattle.definitions.specs.Comparisons.{name_before, dom_before, dotted}
use Rattle.definitions.specs.Map.{line_type_of}
use Rattle.definitions.specs.Making.{declared, class_names, create_synthetic_resource, extension_line}
use Rattle.definitions.specs.Items.{owned, of_word, associate_word, ancestors, own_resource, own_classes, doms_above, parents_above, inherited_resource, words_made, items_at, items_for, items_of}
use Rattle.definitions.specs.Lines.{OwnResource, HasMaking, OwnMaking, InheritedMaking, Source, Making, ExtensionLine, LineOf, ClassOf, Refused}
use Rattle.law_orders.specs.Comparisons.{name-strict, dom-strict}
use Rattle.law_lines.specs.Statements.{Readable, line_map, Declared, AllDeclared, ItemsAreLines, LinesAreItems, DeclaredItemsAreLines, AcceptedIsDeclared}
use Rattle.law_lines.specs.Declarations.{type-in, type-of, declared-some, declared-none}
use Rattle.law_lines.specs.Making.{makes-are, dotted-of, dotted-in}
use Rattle.law_lines.specs.Associating.{word-is, owned-of, owned_in, above, associated-above, doms-are, made-is, names_passing, parents-above-is, parents-above-are}

-- ---- classes

pub accepted-declared : AcceptedIsDeclared
accepted-declared s ok a T t c h =
    by (null (declared (line_map s) c))
    (λ e. absurd (a T t (Refused.undeclared c h (declared-none s ok c e))))
    (declared-some s ok c)

one-declared : (s : Sheet) {c : Name} → Declared s c → AllDeclared s (c ∷ [])
one-declared s h x i = (h.0, h.1, h.2 ∙ sym (Memᴰ.eq_of_singleton i))

module _ (s : Sheet) (ok : Readable s) (T : TypeInfo) where
  -- ---- own resources

  pub own-making-of : {i j : ℕ} {x : Item} → OwnMaking s T i j x
      → (u : Resource) × OwnResource T i j u × Declared s (dotted u.dom u.word) × (x ≡ own_resource (line_map s) (line_type_of T) u.word (dotted u.dom u.word))
  unfolding own_resource
  own-making-of {x = x} h =
      let u = h.from in
      let k = (makes-are s ok T u.word (h.class ∷ []) (h.class ∷ []) x).0 h.makes in
      let e = ap (λ c. create_synthetic_resource (line_map s) (line_type_of T) u.word (c ∷ []) (c ∷ [])) h.is_class in
      (u, h.own, subst (Declared s) h.is_class (k.0 h.class (Memᴰ.head refl)), k.1 ∙ e)

  pub own-making-in : {i j : ℕ} {x : Item} (u : Resource) → OwnResource T i j u → Declared s (dotted u.dom u.word)
      → x ≡ own_resource (line_map s) (line_type_of T) u.word (dotted u.dom u.word) → OwnMaking s T i j x
  unfolding own_resource
  own-making-in {x = x} u o d e =
      let c = dotted u.dom u.word in
      record { from = u; own = o; class = c; is_class = refl; makes = (makes-are s ok T u.word (c ∷ []) (c ∷ []) x).1 (one-declared s d, e) }

  -- the own classes of a word
  pub own-classes-are : (r : ℕ) (c : Name) → In c (own_classes (line_map s) (line_type_of T) r) ↔ ((u : Resource) × In u (owned (line_type_of T)) × (u.word ≡ r) × (dotted u.dom r ≡ c))
  unfolding own_classes
  own-classes-are r c =
      let f : Resource → Name = λ u. dotted u.dom r in
      let us = of_word r (owned (line_type_of T)) in (
        λ i.
            let x = Memᴰ.of_map f us ((sort-is (name_before (line_map s).words) (map f us) c).0 i) in
            let w = (word-is r (owned (line_type_of T)) x.0).0 x.1 in
            (x.0, w.0, w.1, x.2),
        λ h. (sort-is (name_before (line_map s).words) (map f us) c).1 (Memᴰ.cast (sym h.3) (Memᴰ.map f ((word-is r (owned (line_type_of T)) h.0).1 (h.1, h.2)))),
      )

  -- ---- inherited resources

  pub inherited-making-is : (r : ℕ) (x : Item) → InheritedMaking s T r x
      ↔ ((associate_word (above s ok T) r ≡ true) × AllDeclared s (class_names (doms_above (above s ok T) r) r)
      × (x ≡ inherited_resource (line_map s) (line_type_of T) (above s ok T) r))
  unfolding inherited_resource
  inherited-making-is r x =
      let m = line_map s in
      let D = doms-are s ok T r in
      let P = parents-above-are s ok T r in
      let ds = doms_above (above s ok T) r in
      let ps = names_passing m (line_type_of T) r in (
        λ h.
            let k = (makes-are s ok T r h.classes h.firsts x).0 h.makes in
            let d : h.doms ≡ ds =
            sorted-unique (λ d e. dom_before d e ≡ true) (asymmetric dom-strict) h.doms ds h.is_doms.sorted D.sorted
            (λ d j. (D.exactly d).1 ((h.is_doms.exactly d).0 j)) (λ d j. (h.is_doms.exactly d).1 ((D.exactly d).0 j)) in
            let p : h.parents ≡ ps =
            sorted-unique (λ a b. name_before s.words a b ≡ true) (asymmetric (name-strict s.words)) h.parents ps h.is_parents.sorted P.sorted
            (λ d j. (P.exactly d).1 ((h.is_parents.exactly d).0 j)) (λ d j. (h.is_parents.exactly d).1 ((P.exactly d).0 j)) in
            let c : h.classes ≡ class_names ds r = dotted-of h.is_classes ∙ ap (λ l. class_names l r) d in
            let f : h.firsts ≡ parents_above m (line_type_of T) r = dotted-of h.is_firsts ∙ ap (λ l. class_names l r) p ∙ sym (parents-above-is m (line_type_of T) r) in
            ((associated-above s ok T r).1 h.associated, subst (AllDeclared s) c k.0, k.1 ∙ ap₂ (create_synthetic_resource m (line_type_of T) r) c f),
        λ h. record {
          associated = (associated-above s ok T r).0 h.0;
          doms = ds;
          is_doms = D;
          classes = class_names ds r;
          is_classes = dotted-in r ds;
          parents = ps;
          is_parents = P;
          firsts = class_names ps r;
          is_firsts = dotted-in r ps;
          makes = (makes-are s ok T r (class_names ds r) (class_names ps r) x).1
              (h.1, h.2 ∙ ap (create_synthetic_resource m (line_type_of T) r (class_names ds r)) (parents-above-is m (line_type_of T) r));
        },
      )

  -- the classes of an inherited resource are classes of T
  pub class-above : (r : ℕ) {c : Name} → In c (class_names (doms_above (above s ok T) r) r) → ClassOf s T c
  class-above r i =
      let x = Memᴰ.of_map (λ (d : Dom). dotted d r) (doms_above (above s ok T) r) i in
      ClassOf.inherited r x.0 (((doms-are s ok T r).exactly x.0).0 x.1) (sym x.2)

  -- ---- the items at a word

  abbrev pub owns : ℕ → List Item
  owns r = map (own_resource (line_map s) (line_type_of T) r) (own_classes (line_map s) (line_type_of T) r)

  abbrev pub inherits : ℕ → List Item
  inherits r = map (inherited_resource (line_map s) (line_type_of T) (above s ok T)) (filter (associate_word (above s ok T)) (r ∷ []))

  -- what each part of them is made from, where every class of T is declared
  module _ (d : (c : Name) → ClassOf s T c → Declared s c) (r : ℕ) {x : Item} where
    pub own_of : In x (owns r) → (i j : ℕ) × OwnMaking s T i j x
    own_of k =
        let y = Memᴰ.of_map (own_resource (line_map s) (line_type_of T) r) (own_classes (line_map s) (line_type_of T) r) k in
        let c = (own-classes-are r y.0).0 y.1 in
        let u = c.0 in
        let o = owned-of T c.1 in
        let e : x ≡ own_resource (line_map s) (line_type_of T) u.word (dotted u.dom u.word) =
        sym y.2 ∙ ap (own_resource (line_map s) (line_type_of T) r) (sym c.3) ∙ ap (λ w. own_resource (line_map s) (line_type_of T) w (dotted u.dom w)) (sym c.2) in
        (o.0, o.1, own-making-in u o.2 (d (dotted u.dom u.word) (ClassOf.own o.0 o.1 u o.2 refl)) e)

    pub inherited-of : In x (inherits r) → (q : ℕ) × InheritedMaking s T q x
    inherited-of k =
        let y = Memᴰ.of_map (inherited_resource (line_map s) (line_type_of T) (above s ok T)) (filter (associate_word (above s ok T)) (r ∷ [])) k in
        let z = filter-of (associate_word (above s ok T)) (r ∷ []) y.1 in
        (y.0, (inherited-making-is y.0 x).1 (z.1, λ c i. d c (class-above y.0 i), sym y.2))

  pub line_of : (r : ℕ) → HasMaking s T r → {x : Item} → In x (extension_line (line_type_of T) r ∷ []) → ExtensionLine s T x
  unfolding extension_line line_type_of
  line_of r w k = record { word = r; made = w; item = Memᴰ.eq_of_singleton k }

  at-line : In T s.types → ((c : Name) → ClassOf s T c → Declared s c) → (r : ℕ) → HasMaking s T r → {x : Item}
      → In x (items_at (line_map s) (line_type_of T) (above s ok T) r) → LineOf s x
  unfolding items_at
  at-line t d r w {x} h =
      ⊎_elim
      (λ j. let o = own_of d r j in LineOf.resource T (Source.own o.0 o.1) t (Making.own o.0 o.1 refl o.2))
      (λ j.
      ⊎_elim
      (λ k. let o = inherited-of d r k in LineOf.resource T (Source.inherited o.0) t (Making.inherited o.0 refl o.1))
      (λ k. LineOf.line T t (line_of r w k))
      (Memᴰ.append_cases (inherits r) j))
      (Memᴰ.append_cases (owns r) h)

  making-at : {a : Source} {x : Item} → Making s T a x → (r : ℕ) × HasMaking s T r × In x (items_at (line_map s) (line_type_of T) (above s ok T) r)
  unfolding items_at
  making-at {x = x} (Making.own i j e h) =
      let k = own-making-of h in
      let u = k.0 in (
        u.word,
        HasMaking.own i j u k.1 refl,
        Memᴰ.append_left _ (Memᴰ.cast k.3
            (Memᴰ.map (own_resource (line_map s) (line_type_of T) u.word) ((own-classes-are u.word (dotted u.dom u.word)).1 (u, owned_in k.1, refl, refl)))),
      )
  making-at {x = x} (Making.inherited r e h) =
      let k = (inherited-making-is r x).0 h in (
        r,
        HasMaking.inherited h.associated,
        Memᴰ.append_right (owns r) (Memᴰ.append_left (extension_line (line_type_of T) r ∷ [])
            (Memᴰ.cast k.2 (Memᴰ.map (inherited_resource (line_map s) (line_type_of T) (above s ok T))
            (filter-in (associate_word (above s ok T)) {l = r ∷ []} (Memᴰ.head refl) k.0)))),
      )

  line_at : {x : Item} (h : ExtensionLine s T x) → In x (items_at (line_map s) (line_type_of T) (above s ok T) h.word)
  unfolding items_at extension_line line_type_of
  line_at h = Memᴰ.append_right (owns h.word) (Memᴰ.append_right (inherits h.word) (Memᴰ.head h.item))

  pub for-item : In T s.types → (r : ℕ) → HasMaking s T r → {x : Item} → In x (items_at (line_map s) (line_type_of T) (above s ok T) r) → In x (items_of (line_map s))
  unfolding items_of items_for
  for-item t r w i =
      each_in (λ D. items_for (line_map s) D (ancestors (line_map s) D)) (type-in s t)
      (each_in (items_at (line_map s) (line_type_of T) (above s ok T)) ((made-is s ok T r).1 w) i)

-- ---- the theorems

-- an item stands at a type and a word
pub item-at : (s : Sheet) (ok : Readable s) {x : Item} → In x (items_of (line_map s))
    → (T : TypeInfo) × In T s.types × ((r : ℕ) × HasMaking s T r × In x (items_at (line_map s) (line_type_of T) (above s ok T) r))
unfolding items_of items_for
item-at s ok {x} i =
    let m = line_map s in
    let y = each_of (λ D. items_for m D (ancestors m D)) m.types i in
    let t = type-of s y.1 in
    let z = each_of (items_at m (line_type_of t.0) (above s ok t.0)) (words_made (line_type_of t.0) (above s ok t.0))
    (subst (λ D. In x (items_for m D (ancestors m D))) (sym t.2) y.2) in
    (t.0, t.1, (z.0, (made-is s ok t.0 z.0).0 z.1, z.2))

pub declared-items-are-lines : DeclaredItemsAreLines
declared-items-are-lines s ok d x i = let y = item-at s ok i in at-line s ok y.0 y.1 (d y.0 y.1) y.2.0 y.2.1 y.2.2

pub lines-are-items : LinesAreItems
lines-are-items s ok x (LineOf.resource T a t h) = let k = making-at s ok T h in for-item s ok T t k.0 k.1 k.2
lines-are-items s ok x (LineOf.line T t h) = for-item s ok T t h.word h.made (line_at s ok T h)

pub items-are-lines : ItemsAreLines
items-are-lines s ok a x = (declared-items-are-lines s ok (accepted-declared s ok a) x, lines-are-items s ok x)
