-- The items of an accepted map stand in their order, and no other list of its lines does.
use Rattle.std.specs.Prelude.{Bool, true, false, List, [], ◌∷◌, ◌++◌, map, ◌⊎◌, ◌↔◌, ◌≡◌, refl, ℕ, ◌<◌}
use mathlib.Core.List.Memᴰ
use Rattle.std.proofs.Common.{inl, inr, ap, ◌∙◌, arith, ltb-true}
use Rattle.std.proofs.Math.Logic.{⊎_elim}
use Rattle.std.proofs.Math.Path.{sym, subst}
use Rattle.lists.specs.Lists.{In, At, Sorted, keep, each}
use Rattle.lists.specs.Tests.{by, never}
use Rattle.lists.specs.Strict.{asymmetric, number-strict, which}
use Rattle.lists.specs.Sorting.{sorted-append, sorted-unique, sorted-imp, set-sorted}
use Rattle.lists.specs.Members.{in-at, at-sorted, sorted-map, sorted-each}
use Rattle.lists.specs.Places.{one_at}
use Rattle.definitions.specs.Records.{Name, Resource, TypeInfo, Sheet, Item}
use Rattle.definitions.specs.Comparisons.{name_before}
use Rattle.definitions.specs.Map.{LineType, LineMap, line_type_of}
use Rattle.definitions.specs.Making.{create_synthetic_resource, extension_parents, extension_line}
use Rattle.definitions.specs.Items.{owned, given, associate_word, ancestors, own_resource, own_classes, inherited_resource, words_made, items_at, items_for, items_of}
use Rattle.definitions.specs.Lines.{OwnMaking, InheritedMaking, HasMaking, Source, Making, ExtensionLine, LineOf, Refused}
use Rattle.definitions.specs.ItemOrder.{type_of, word_of, parents_in, Part, rank, PartOf, NamesBefore, ItemBefore, InOrder}
use Rattle.law_orders.specs.Comparisons.{name-strict}
use Rattle.law_lines.specs.Statements.{Readable, line_map, Accepted, NoneIdentical, OneSource, OnePart, EachHasPart, OwnListsByClass, NotBothWays, OneWay, BeforeAllThatFollow, ItemsInOrder, OneInOrder}
use Rattle.law_lines.specs.Declarations.{one_type, type-of, declarations-ascend}
use Rattle.law_lines.specs.Making.{makes-are}
use Rattle.law_lines.specs.Associating.{above, made-is}
use Rattle.law_lines.specs.Lines.{owns, inherits, own_of, inherited-of, line_of, accepted-declared, items-are-lines}
use Rattle.law_lines.specs.Once.{is_made, is_own, at_key, for-type, classes-ascend}
use Rattle.law_lines.specs.Identical.{same_source, same_source_lem, source-self}

-- ---- lists of names

module _ (ws : List (List ℕ)) where
  -- a name that goes before another is another
  name-apart : {C : Type 0} {a b : Name} → name_before ws a b ≡ true → a ≡ b → C
  name-apart {b = b} h e = never h (rw e ((name-strict ws).irreflexive b))

  names-asymmetric : (k l : List Name) → NamesBefore ws k l → NamesBefore ws l k → ⊥
  names-asymmetric [] [] h g = h
  names-asymmetric [] (y ∷ l) h g = g
  names-asymmetric (x ∷ k) [] h g = h
  names-asymmetric (x ∷ k) (y ∷ l) h g =
      ⊎_elim
      (λ p. ⊎_elim (asymmetric (name-strict ws) x y p) (λ q. name-apart p (sym q.0)) g)
      (λ p. ⊎_elim (λ q. name-apart q (sym p.0)) (λ q. names-asymmetric k l p.1 q.1) g)
      h

  -- where all behind the first name is the same, the first names decide
  names-by-first : (a b : Name) (l : List Name) → NamesBefore ws (a ∷ l) (b ∷ l) ↔ (name_before ws a b ≡ true)
  names-by-first a b l = (⊎_elim (λ p. p) (λ p. absurd (names-asymmetric l l p.1 p.1)), λ p. inl p)

-- ---- own resources

-- the parents of an own resource: its class, and what it has in common with all others of its type and word
abbrev parents_behind : LineMap → LineType → ℕ → List Name
parents_behind m T r = (m.resource ∷ []) ∷ extension_parents m T.name r

own-parents : (s : Sheet) → Readable s → (T : TypeInfo) {i j : ℕ} {x : Item} (h : OwnMaking s T i j x)
    → parents_in x ≡ h.class ∷ parents_behind (line_map s) (line_type_of T) h.from.word
unfolding create_synthetic_resource
own-parents s ok T {x = x} h = ap parents_in ((makes-are s ok T h.from.word (h.class ∷ []) (h.class ∷ []) x).0 h.makes).1

pub own-lists-by-class : OwnListsByClass
own-lists-by-class s ok T i j k l x y g h e =
    let p = own-parents s ok T g in
    let q = own-parents s ok T h ∙ ap (λ r. h.class ∷ parents_behind (line_map s) (line_type_of T) r) (sym e) in
    rw (p, q) (names-by-first s.words g.class h.class (parents_behind (line_map s) (line_type_of T) g.from.word))

-- ---- one source, one part

-- of which type a making is, the item says
making-type : {s : Sheet} {T : TypeInfo} {a : Source} {x : Item} → Making s T a x → type_of x ≡ T.name
making-type (Making.own i j e h) = ap type_of h.makes.item
making-type (Making.inherited r e h) = ap type_of h.makes.item

making-made : {s : Sheet} {T : TypeInfo} {a : Source} {x : Item} → Making s T a x → is_made x ≡ true
making-made (Making.own i j e h) = ap is_made h.makes.item
making-made (Making.inherited r e h) = ap is_made h.makes.item

pub one-source : OneSource
one-source s ok a T U p q x t u h g =
    let e : T ≡ U = one_type s ok t u (sym (making-type h) ∙ making-type g) in
    let k : Making s T q x = subst (λ W. Making s W q x) (sym e) g in (
      e,
      by (same_source p q) (same_source_lem p q)
          (λ f. absurd (a T t (Refused.identical p q x (λ c. never (subst (λ b. same_source p b ≡ true) c (source-self p)) f) h k))),
    )

module _ (s : Sheet) (ok : Readable s) (a : Accepted s) where
  not-both : {C : Type 0} {T U : TypeInfo} {i j r : ℕ} {x : Item} → In T s.types → In U s.types
      → OwnMaking s T i j x → InheritedMaking s U r x → C
  not-both {T = T} {U} {i} {j} {r} {x} t u h g =
      never {b = is_own (Source.own i j)} refl
      (ap is_own (one-source s ok a T U (Source.own i j) (Source.inherited r) x t u (Making.own i j refl h) (Making.inherited r refl g)).1)

  no_line : {C : Type 0} {T U : TypeInfo} {p : Source} {x : Item} → Making s T p x → ExtensionLine s U x → C
  no_line h g = never (making-made h) (ap is_made g.item)

  part-is : {x : Item} {p q : Part} → PartOf s x p → PartOf s x q → p ≡ q
  part-is (PartOf.own T i j t h e) (PartOf.own U k l u g f) = e ∙ sym f
  part-is (PartOf.own T i j t h e) (PartOf.inherited U r u g f) = not-both t u h g
  part-is (PartOf.own T i j t h e) (PartOf.line U u g f) = no_line (Making.own i j refl h) g
  part-is (PartOf.inherited T r t h e) (PartOf.own U k l u g f) = not-both u t g h
  part-is (PartOf.inherited T r t h e) (PartOf.inherited U q u g f) = e ∙ sym f
  part-is (PartOf.inherited T r t h e) (PartOf.line U u g f) = no_line (Making.inherited r refl h) g
  part-is (PartOf.line T t h e) (PartOf.own U k l u g f) = no_line (Making.own k l refl g) h
  part-is (PartOf.line T t h e) (PartOf.inherited U q u g f) = no_line (Making.inherited q refl g) h
  part-is (PartOf.line T t h e) (PartOf.line U u g f) = e ∙ sym f

  -- ---- no two go before each other

  asymmetric-items : {x y : Item} → ItemBefore s x y → ItemBefore s y x → ⊥
  asymmetric-items {x} {y} (ItemBefore.type h) (ItemBefore.type g) = asymmetric (name-strict s.words) (type_of x) (type_of y) h g
  asymmetric-items (ItemBefore.type h) (ItemBefore.word e l) = name-apart s.words h (sym e)
  asymmetric-items (ItemBefore.type h) (ItemBefore.part e f p q u v l) = name-apart s.words h (sym e)
  asymmetric-items (ItemBefore.type h) (ItemBefore.parents e f u v l) = name-apart s.words h (sym e)
  asymmetric-items (ItemBefore.word e l) (ItemBefore.type g) = name-apart s.words g (sym e)
  asymmetric-items (ItemBefore.word e l) (ItemBefore.word f k) = omega arith
  asymmetric-items (ItemBefore.word e l) (ItemBefore.part f d p q u v k) = omega arith
  asymmetric-items (ItemBefore.word e l) (ItemBefore.parents f d u v k) = omega arith
  asymmetric-items (ItemBefore.part e d p q u v l) (ItemBefore.type g) = name-apart s.words g (sym e)
  asymmetric-items (ItemBefore.part e d p q u v l) (ItemBefore.word f k) = omega arith
  asymmetric-items (ItemBefore.part e d p q u v l) (ItemBefore.part f c p' q' u' v' k) =
      let i : rank q ≡ rank p' = ap rank (part-is v u') in
      let j : rank p ≡ rank q' = ap rank (part-is u v') in
      omega arith
  asymmetric-items (ItemBefore.part e d p q u v l) (ItemBefore.parents f c u' v' k) =
      let i : rank q ≡ 0 = ap rank (part-is v u') in
      omega arith
  asymmetric-items (ItemBefore.parents e d u v l) (ItemBefore.type g) = name-apart s.words g (sym e)
  asymmetric-items (ItemBefore.parents e d u v l) (ItemBefore.word f k) = omega arith
  asymmetric-items (ItemBefore.parents e d u v l) (ItemBefore.part f c p' q' u' v' k) =
      let i : rank q' ≡ 0 = ap rank (part-is v' u) in
      omega arith
  asymmetric-items {x} {y} (ItemBefore.parents e d u v l) (ItemBefore.parents f c u' v' k) =
      names-asymmetric s.words (parents_in x) (parents_in y) l k

pub one-part : OnePart
one-part s ok a x p q h g = part-is s ok a h g

pub not-both-ways : NotBothWays
not-both-ways s ok a x y h g = asymmetric-items s ok a h g

pub each-has-part : EachHasPart
each-has-part s x = (to, λ h. from h.1)
  where
    to : LineOf s x → (p : Part) × PartOf s x p
    to (LineOf.resource T a t (Making.own i j e h)) = (Part.own, PartOf.own T i j t h refl)
    to (LineOf.resource T a t (Making.inherited r e h)) = (Part.inherited, PartOf.inherited T r t h refl)
    to (LineOf.line T t h) = (Part.line, PartOf.line T t h refl)

    from : {p : Part} → PartOf s x p → LineOf s x
    from (PartOf.own T i j t h e) = LineOf.resource T (Source.own i j) t (Making.own i j refl h)
    from (PartOf.inherited T r t h e) = LineOf.resource T (Source.inherited r) t (Making.inherited r refl h)
    from (PartOf.line T t h e) = LineOf.line T t h

-- ---- the items

-- at most one
kept-sorted : {A B : Type 0} (R : B → B → Type 0) (f : A → B) (b : Bool) (x : A) → Sorted R (map f (keep b x []))
kept-sorted R f true x = (λ y i. absurd (Memᴰ.not-nil i), tt)
kept-sorted R f false x = tt

module _ (s : Sheet) (ok : Readable s) (a : Accepted s) (T : TypeInfo) (t : In T s.types) where
  abbrev m : LineMap
  m = line_map s

  abbrev D : LineType
  D = line_type_of T

  none : NoneIdentical s T
  none p q x n h g = a T t (Refused.identical p q x n h g)

  -- the own resources of a word, by their parents
  own-sorted : (r : ℕ)
      → Sorted (λ c d. NamesBefore s.words (parents_in (own_resource m D r c)) (parents_in (own_resource m D r d))) (own_classes m D r)
  unfolding own_resource create_synthetic_resource
  own-sorted r =
      sorted-imp (own_classes m D r) (λ c d _ _ b. (names-by-first s.words c d (parents_behind m D r)).1 b)
      (classes-ascend s ok T (accepted-declared s ok a T t) none r)

  module _ (r : ℕ) (w : HasMaking s T r) where
    own-part : {x : Item} → In x (owns s ok T r) → PartOf s x Part.own
    own-part i = let o = own_of s ok T (accepted-declared s ok a T t) r i in PartOf.own T o.0 o.1 t o.2 refl

    inherited-part : {x : Item} → In x (inherits s ok T r) → PartOf s x Part.inherited
    inherited-part i = let o = inherited-of s ok T (accepted-declared s ok a T t) r i in PartOf.inherited T o.0 t o.1 refl

    line-part : {x : Item} → In x (extension_line D r ∷ []) → PartOf s x Part.line
    line-part i = PartOf.line T t (line_of s ok T r w i) refl

    -- two items at T and r have one type and one word
    one_key : {x y : Item} → In x (items_at m D (above s ok T) r) → In y (items_at m D (above s ok T) r)
        → (type_of x ≡ type_of y) × (word_of x ≡ word_of y)
    one_key i j =
        let p = at_key m D (above s ok T) r i in
        let q = at_key m D (above s ok T) r j in
        (p.0 ∙ sym q.0, p.1 ∙ sym q.1)

    at_own : {x : Item} → In x (owns s ok T r) → In x (items_at m D (above s ok T) r)
    unfolding items_at
    at_own i = Memᴰ.append_left (inherits s ok T r ++ (extension_line D r ∷ [])) i

    at-inherited : {x : Item} → In x (inherits s ok T r) → In x (items_at m D (above s ok T) r)
    unfolding items_at
    at-inherited i = Memᴰ.append_right (owns s ok T r) (Memᴰ.append_left (extension_line D r ∷ []) i)

    at-line : {x : Item} → In x (extension_line D r ∷ []) → In x (items_at m D (above s ok T) r)
    unfolding items_at
    at-line i = Memᴰ.append_right (owns s ok T r) (Memᴰ.append_right (inherits s ok T r) i)

    -- own resources by their parents; behind them the inherited one, then the extension line
    word-sorted : Sorted (ItemBefore s) (items_at m D (above s ok T) r)
    unfolding items_at
    word-sorted =
        sorted-append (ItemBefore s) (owns s ok T r) (inherits s ok T r ++ (extension_line D r ∷ []))
        (sorted-map (ItemBefore s) (own_resource m D r) (own_classes m D r)
        (sorted-imp (own_classes m D r) (λ c d i j b.
        let x = Memᴰ.map (own_resource m D r) i in
        let y = Memᴰ.map (own_resource m D r) j in
        let k = one_key (at_own x) (at_own y) in
        ItemBefore.parents k.0 k.1 (own-part x) (own-part y) b)
        (own-sorted r)))
        (sorted-append (ItemBefore s) (inherits s ok T r) (extension_line D r ∷ [])
        (kept-sorted (ItemBefore s) (inherited_resource m D (above s ok T)) (associate_word (above s ok T) r) r)
        (λ y i. absurd (Memᴰ.not-nil i), tt)
        (λ x y i j.
        let k = one_key (at-inherited i) (at-line j) in
        ItemBefore.part k.0 k.1 Part.inherited Part.line (inherited-part i) (line-part j) (omega arith)))
        (λ x y i j.
        ⊎_elim
        (λ l. let k = one_key (at_own i) (at-inherited l) in ItemBefore.part k.0 k.1 Part.own Part.inherited (own-part i) (inherited-part l) (omega arith))
        (λ l. let k = one_key (at_own i) (at-line l) in ItemBefore.part k.0 k.1 Part.own Part.line (own-part i) (line-part l) (omega arith))
        (Memᴰ.append_cases (inherits s ok T r) j))

  -- the words of a type ascend
  type-sorted : Sorted (ItemBefore s) (items_for m D (above s ok T))
  unfolding items_for words_made
  type-sorted =
      let As = above s ok T in
      let W = words_made D As in
      sorted-each (ItemBefore s) (items_at m D As) W
      (λ r i. word-sorted r ((made-is s ok T r).0 i))
      (sorted-imp W (λ r q _ _ l x y i j.
      let p = at_key m D As r i in
      let k = at_key m D As q j in
      let b : word_of x < word_of y = subst (λ n. n < word_of y) (sym p.1) (subst (λ n. r < n) (sym k.1) (ltb-true r q l)) in
      ItemBefore.word (p.0 ∙ sym k.0) b)
      (set-sorted number-strict (map (λ (u : Resource). u.word) (owned D ++ each given As))))

-- the types go by name
items-sorted : (s : Sheet) → Readable s → Accepted s → Sorted (ItemBefore s) (items_of (line_map s))
unfolding items_of
items-sorted s ok a =
    sorted-each (ItemBefore s) f (line_map s).types
    (λ X i. let t = type-of s i in subst (λ D. Sorted (ItemBefore s) (f D)) t.2 (type-sorted s ok a t.0 t.1))
    (sorted-imp (line_map s).types (λ X Y _ _ b x y i j.
    let p = for-type (line_map s) X (ancestors (line_map s) X) i in
    let q = for-type (line_map s) Y (ancestors (line_map s) Y) j in
    ItemBefore.type (rw (p, q) b))
    (declarations-ascend s ok))
  where
    f : LineType → List Item
    f D = items_for (line_map s) D (ancestors (line_map s) D)

pub one-in-order : OneInOrder
one-in-order s ok a l k h g =
    sorted-unique (ItemBefore s) (not-both-ways s ok a) l k h.sorted g.sorted
    (λ x i. (g.lines x).1 ((h.lines x).0 i)) (λ x i. (h.lines x).1 ((g.lines x).0 i))

pub items-in-order : ItemsInOrder
items-in-order s ok a =
    let o : InOrder s (items_of (line_map s)) = record { lines = items-are-lines s ok a; sorted = items-sorted s ok a } in
    record { ordered = o; only = λ k h. one-in-order s ok a k (items_of (line_map s)) h o }

-- ---- the order is total

module _ (s : Sheet) (ok : Readable s) (a : Accepted s) where
  abbrev items : List Item
  items = items_of (line_map s)

  -- a line stands at a place of the items
  at_place : {x : Item} → LineOf s x → (i : ℕ) × At x i items
  at_place {x} h = in-at ((items-are-lines s ok a x).1 h)

  by_place : {x y : Item} {i j : ℕ} → At x i items → At y j items → i < j → ItemBefore s x y
  by_place p q l = at-sorted (ItemBefore s) (items-sorted s ok a) p q l

  -- what goes before another stands before it
  place-before : {x y : Item} {i j : ℕ} → At x i items → At y j items → ItemBefore s x y → i < j
  place-before {x} {y} {i} {j} p q b =
      ⊎_elim (λ l. l)
      (⊎_elim (λ l. absurd (not-both-ways s ok a x y b (by_place q p l)))
      (λ e.
      let c : ItemBefore s x x = subst (ItemBefore s x) (one_at q (subst (λ k. At x k items) e p)) b in
      absurd (not-both-ways s ok a x x c c)))
      (which i j)

  one-way-here : {x y : Item} → LineOf s x → LineOf s y → (x ≡ y) ⊎ (ItemBefore s x y ⊎ ItemBefore s y x)
  one-way-here {x} h g =
      let p = at_place h in
      let q = at_place g in
      ⊎_elim (λ l. inr (inl (by_place p.1 q.1 l)))
      (⊎_elim (λ l. inr (inr (by_place q.1 p.1 l))) (λ e. inl (one_at (subst (λ k. At x k items) e p.1) q.1)))
      (which p.0 q.0)

pub one_way : OneWay
one_way s ok a x y h g = one-way-here s ok a h g

pub before-all-that-follow : BeforeAllThatFollow
before-all-that-follow s ok a x y z h g k b c =
    let p = at_place s ok a h in
    let q = at_place s ok a g in
    let r = at_place s ok a k in
    let l = place-before s ok a p.1 q.1 b in
    let n = place-before s ok a q.1 r.1 c in
    by_place s ok a p.1 r.1 (omega arith)
