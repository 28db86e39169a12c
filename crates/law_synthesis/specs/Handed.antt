-- What a type hands on to its children: its own associates and those of its ancestors, word by word.
use Rattle.std.proofs.Math.Bool.{Bool}
use Rattle.std.specs.Prelude.{true, false, ◌||◌, not, ◌⊎◌, ◌↔◌, ◌≡◌, refl, ltb, length}
use mathlib.Core.List.Memᴰ
use mathlib.Core.List.{List, [], ◌∷◌, ◌++◌, map}
use Rattle.std.proofs.Math.Logic.{inl, inr, ⊎_elim}
use Rattle.std.proofs.Math.Option.{Option, none, some}
use Rattle.std.proofs.Common.{sym, ap₂, ◌∙◌}
use Rattle.std.proofs.Math.Path.{ap, subst}
use Prim.Native.Nat.{ℕ, zero, suc}
use borrow.Author.Tests.{eq-eqb, not-true}
use Rattle.std.proofs.Math.Dec.{eqb}
use Rattle.lists.specs.Lists.{In, Sorted, any, null, repeats, filter, each, sort}
use Rattle.lists.specs.Tests.{never, and_left, and_right, or-false-left, or-false-right, null-in, any-not, filter-in, filter-of, each_in, each_of}
use Rattle.lists.specs.Sorting.{one_key, sorted-imp, repeats-not, sort-is, sort_sorted}
use Rattle.definitions.specs.Records.{Name, Dom, Resource, AssociatedResource, make_list, associate, nest_associate, alias, inherit, derive, no_derive, Annotation, AnnotationInfo, TypeInfo, Sheet}
use Rattle.definitions.specs.Comparisons.{dom_before}
use Rattle.definitions.specs.Checks.{kind_of, resources_of, names_twice, keys_twice, words_twice, annotations_twice, something_twice}
use Rattle.definitions.specs.Map.{TypeMap, type_map_of}
use Rattle.definitions.specs.Order.{inherits_self, passes, last_pass, has_order}
use Rattle.definitions.specs.OrderRows.{type_named}
use Rattle.definitions.specs.Annotations.{associated_of, associated_set, info_of, has_associated_word, annotation_before}
use Rattle.definitions.specs.Inherited.{InheritedAnnotation, dedup, own_associates, as_associate, under, hands_on}
use Rattle.definitions.specs.Synthesis.{listed_parents}
use Rattle.definitions.specs.Ancestry.{Parent, Ancestor, direct, further}
use Rattle.definitions.specs.Lines.{Gives, plainly, nested, Associates, GivenAbove, AssociatedAbove, DomsAbove, Passes, ParentsAbove}
use Rattle.law_orders.specs.Comparisons.{look-up-is, types-is, types-apart, names-once}
use Rattle.law_orders.specs.Passes.{Placed, placed-type, placed-or-waits, listed-placed}
use Rattle.law_orders.specs.Rounds.{no-cycle}
use Rattle.law_synthesis.specs.Statements.{GivesAs}
use Rattle.lists.specs.Appending.{each-each, map-map, map_each, map_same, each_same, map-append}
use Rattle.lists.specs.Permutations.{sorted-map}
use Rattle.lists.specs.Strict.{number-strict}
use Rattle.law_lines.specs.Associating.{gives-in}
use Rattle.law_synthesis.specs.Entries.{Entry, entry, as_inherited, merged, dedup_is, Fact, word, dom, parent, Says, has_in, has_of, SaysIn, says-more, says-append, Ascending, AllAscending}
use Rattle.law_synthesis.specs.Merged.{merged-says, merged-entry, merged-ascending, use-doms}

-- ---- what is handed on, as entries

abbrev pub own_hands : TypeInfo → List Entry
own_hands T = map (λ (a : AnnotationInfo). entry (resources_of a) (T.name ∷ [])) (own_associates T)

unfoldable pub hands_of : ℕ → TypeMap → TypeInfo → List Entry
hands_of zero m T = []
hands_of (suc k) m T = own_hands T ++ map (λ (e : Entry). entry e.uses (T.name ∷ [])) (merged m.words (each (hands_of k m) (listed_parents m T)))

-- an own associate is one
as-associate : (a : AnnotationInfo) → (eqb (kind_of a) 1 || eqb (kind_of a) 2) ≡ true → as_associate a ≡ associate (resources_of a)
as-associate make_list e = never e refl
as-associate (associate us) e = refl
as-associate (nest_associate us) e = refl
as-associate (alias w) e = never e refl
as-associate (inherit ns) e = never e refl
as-associate (derive t) e = never e refl
as-associate no_derive e = never e refl

own_of : (T : TypeInfo) {a : AnnotationInfo} → In a (own_associates T) → (b : Annotation) × In b T.annotations × (info_of b ≡ a) × ((eqb (kind_of a) 1 || eqb (kind_of a) 2) ≡ true)
unfolding own_associates
own_of T {a} i =
    let f : AnnotationInfo → Bool = λ a. eqb (kind_of a) 1 || eqb (kind_of a) 2 in
    let x = filter-of f (map info_of T.annotations) ((sort-is annotation_before (filter f (map info_of T.annotations)) a).0 i) in
    let y = Memᴰ.of_map info_of T.annotations x.0 in
    (y.0, y.1, y.2, x.1)

own_in : (T : TypeInfo) (b : Annotation) → In b T.annotations → (eqb (kind_of (info_of b)) 1 || eqb (kind_of (info_of b)) 2) ≡ true → In (info_of b) (own_associates T)
unfolding own_associates
own_in T b i e =
    let f : AnnotationInfo → Bool = λ a. eqb (kind_of a) 1 || eqb (kind_of a) 2 in
    (sort-is annotation_before (filter f (map info_of T.annotations)) (info_of b)).1 (filter-in f (Memᴰ.map info_of i) e)

pub hands-is : (k : ℕ) (m : TypeMap) (T : TypeInfo) → hands_on k m T ≡ map as_inherited (hands_of k m T)
unfolding hands_on hands_of listed_parents
hands-is zero m T = refl
hands-is (suc k) m T =
    let got = each (hands_of k m) (listed_parents m T) in
    let a : map (λ a. under T.name (as_associate a)) (own_associates T) ≡ map as_inherited (own_hands T) =
    map_same (λ a. under T.name (as_associate a)) (λ a. as_inherited (entry (resources_of a) (T.name ∷ []))) (own_associates T)
    (λ a i. ap (under T.name) (as-associate a (own_of T i).3))
    ∙ sym (map-map as_inherited (λ (a : AnnotationInfo). entry (resources_of a) (T.name ∷ [])) (own_associates T)) in
    let g : each (λ p. each (hands_on k m) (type_named m p)) T.parents ≡ map as_inherited got =
    sym (each-each (type_named m) (hands_on k m) T.parents)
    ∙ each_same (hands_on k m) (λ P. map as_inherited (hands_of k m P)) (listed_parents m T) (λ P i. hands-is k m P)
    ∙ sym (map_each as_inherited (hands_of k m) (listed_parents m T)) in
    let h : dedup m.words (each (λ p. each (hands_on k m) (type_named m p)) T.parents) ≡ map as_inherited (merged m.words got) = ap (dedup m.words) g ∙ dedup_is m.words got in
    let b : map (λ (e : InheritedAnnotation). under T.name e.annotation) (dedup m.words (each (λ p. each (hands_on k m) (type_named m p)) T.parents))
    ≡ map as_inherited (map (λ (e : Entry). entry e.uses (T.name ∷ [])) (merged m.words got)) =
    ap (map (λ (e : InheritedAnnotation). under T.name e.annotation)) h
    ∙ map-map (λ (e : InheritedAnnotation). under T.name e.annotation) as_inherited (merged m.words got)
    ∙ sym (map-map as_inherited (λ (e : Entry). entry e.uses (T.name ∷ [])) (merged m.words got)) in
    ap₂ (λ x y. x ++ y) a b ∙ sym (map-append as_inherited (own_hands T) (map (λ (e : Entry). entry e.uses (T.name ∷ [])) (merged m.words got)))

-- each entry that a type hands on is under it
pub hands-parent : (k : ℕ) (m : TypeMap) (T : TypeInfo) {e : Entry} → In e (hands_of k m T) → e.parents ≡ T.name ∷ []
unfolding hands_of
hands-parent zero m T i = absurd (Memᴰ.not-nil i)
hands-parent (suc k) m T i =
    ⊎_elim
    (λ j. let x = Memᴰ.of_map (λ (a : AnnotationInfo). entry (resources_of a) (T.name ∷ [])) (own_associates T) j in ap (λ (e : Entry). e.parents) (sym x.2))
    (λ j.
    let x = Memᴰ.of_map (λ (e : Entry). entry e.uses (T.name ∷ [])) (merged m.words (each (hands_of k m) (listed_parents m T))) j in
    ap (λ (e : Entry). e.parents) (sym x.2))
    (Memᴰ.append_cases (own_hands T) i)

-- ---- a type's own words and doms

gives_of : {A : TypeInfo} {u : Resource} → Gives A u
    → (a : Annotation) × In a A.annotations × In u (resources_of a) × ((eqb (kind_of (info_of a)) 1 || eqb (kind_of (info_of a)) 2) ≡ true)
gives_of (plainly rs i j) = (associate rs, i, j, refl)
gives_of (nested rs i j) = (nest_associate rs, i, j, refl)

info-resources : (a : Annotation) → resources_of (info_of a) ≡ associated_set (resources_of a)
unfolding associated_set sort
info-resources make_list = refl
info-resources (associate rs) = refl
info-resources (nest_associate rs) = refl
info-resources (alias w) = refl
info-resources (inherit ns) = refl
info-resources (derive t) = refl
info-resources no_derive = refl

associated-is : (rs : List Resource) (v : AssociatedResource) → In v (associated_set rs) ↔ ((u : Resource) × In u rs × (associated_of u ≡ v))
unfolding associated_set
associated-is rs v =
    let x = sort-is (λ (u v : AssociatedResource). ltb u.word v.word) (map associated_of rs) v in
    (λ i. Memᴰ.of_map associated_of rs (x.0 i), λ h. x.1 (Memᴰ.cast (sym h.2) (Memᴰ.map associated_of h.1)))

-- a word, or a word with a dom
abbrev pub fact_of : Option Dom → Fact
fact_of none = word
fact_of (some d) = dom d

abbrev pub Own : TypeInfo → ℕ → Option Dom → Type 0
Own A r none = Associates A r
Own A r (some d) = GivesAs A r d

-- the dom, if one is asked for, is among these
abbrev Among : Option Dom → List Dom → Type 0
Among none ds = Unit {0}
Among (some d) ds = In d ds

-- a resource of an entry, with what it says
says_of : (e : Entry) (r : ℕ) (o : Option Dom) → Says e r (fact_of o) → (v : AssociatedResource) × In v e.uses × (v.word ≡ r) × Among o v.doms
says_of e r none s = let x = has_of e.uses r s in (x.0, x.1, x.2, tt)
says_of e r (some d) s = (s.from, s.listed, s.of_word, s.has)

says-use : (e : Entry) (r : ℕ) (o : Option Dom) {v : AssociatedResource} → In v e.uses → v.word ≡ r → Among o v.doms → Says e r (fact_of o)
says-use e r none i q h = has_in i q
says-use e r (some d) {v} i q h = record { from = v; listed = i; of_word = q; has = h }

-- an entry under other parents says the same
retag : (us : List AssociatedResource) (ps qs : List Name) (r : ℕ) (o : Option Dom) → Says (entry us ps) r (fact_of o) → Says (entry us qs) r (fact_of o)
retag us ps qs r none s = s
retag us ps qs r (some d) s = s

own-made : (T : TypeInfo) (r : ℕ) (o : Option Dom) {u : Resource} → Gives T u → u.word ≡ r → Among o (u.dom ∷ []) → Own T r o
own-made T r none {u} g w h = record { resource = u; gives = g; word = w }
own-made T r (some d) {u} g w h = record { resource = u; gives = g; of_word = w; has = sym (Memᴰ.eq_of_singleton h) }

own-parts : (T : TypeInfo) (r : ℕ) (o : Option Dom) → Own T r o → (u : Resource) × Gives T u × (u.word ≡ r) × Among o (u.dom ∷ [])
own-parts T r none h = (h.resource, h.gives, h.word, tt)
own-parts T r (some d) h = (h.resource, h.gives, h.of_word, Memᴰ.head (sym h.has))

own-says : (T : TypeInfo) (r : ℕ) (o : Option Dom) → SaysIn (own_hands T) r (fact_of o) ↔ Own T r o
own-says T r o = (
  λ s.
      let x = Memᴰ.of_map (λ (a : AnnotationInfo). entry (resources_of a) (T.name ∷ [])) (own_associates T) s.listed in
      let b = own_of T x.1 in
      let v = says_of s.entry r o s.says in
      let i : In v.0 (associated_set (resources_of b.0)) =
      subst (In v.0) (ap (λ (e : Entry). e.uses) (sym x.2) ∙ ap resources_of (sym b.2) ∙ info-resources b.0) v.1 in
      let u = (associated-is (resources_of b.0) v.0).0 i in
      own-made T r o (gives-in b.0 b.1 u.1) (ap (λ (v : AssociatedResource). v.word) u.2 ∙ v.2)
      (subst (λ (w : AssociatedResource). Among o w.doms) (sym u.2) v.3),
  λ h.
      let p = own-parts T r o h in
      let g = gives_of p.1 in
      let i : In (associated_of p.0) (resources_of (info_of g.0)) =
      subst (In (associated_of p.0)) (sym (info-resources g.0)) ((associated-is (resources_of g.0) (associated_of p.0)).1 (p.0, g.2, refl)) in
      record {
        entry = entry (resources_of (info_of g.0)) (T.name ∷ []);
        listed = Memᴰ.map (λ (a : AnnotationInfo). entry (resources_of a) (T.name ∷ [])) (own_in T g.0 g.1 g.3);
        says = says-use (entry (resources_of (info_of g.0)) (T.name ∷ [])) r o i p.2 p.3;
      },
)

-- ---- through parents

-- the parents that are declared, as listed
pub listed-is : (s : Sheet) (T P : TypeInfo) → In P (listed_parents (type_map_of s) T) ↔ Parent s P T
unfolding listed_parents
listed-is s T P = (
  λ i.
      let x = each_of (type_named (type_map_of s)) T.parents i in
      let y = (look-up-is (λ (T : TypeInfo). T.name) (type_map_of s).types x.0 P).0 x.2 in
      record { declared = (types-is s P).0 y.0; listed = Memᴰ.cast y.1 x.1 },
  λ p.
      each_in (type_named (type_map_of s)) p.listed
      ((look-up-is (λ (T : TypeInfo). T.name) (type_map_of s).types P.name P).1 ((types-is s P).1 p.declared, refl)),
)

module _ (s : Sheet) where
  abbrev m : TypeMap
  m = type_map_of s

  abbrev pub OwnAbove : TypeInfo → ℕ → Option Dom → Type 0
  OwnAbove T r none = AssociatedAbove s T r
  OwnAbove T r (some d) = GivenAbove s T r d

  above-made : {A T : TypeInfo} (r : ℕ) (o : Option Dom) → Ancestor s A T → Own A r o → OwnAbove T r o
  above-made {A} r none a h = record { by = A; above = a; associates = h }
  above-made {A} r (some d) a h = record { by = A; above = a; resource = h.resource; gives = h.gives; word = h.of_word; dom = h.has }

  above-parts : {T : TypeInfo} (r : ℕ) (o : Option Dom) → OwnAbove T r o → (A : TypeInfo) × Ancestor s A T × Own A r o
  above-parts r none h = (h.by, h.above, h.associates)
  above-parts r (some d) h = (h.by, h.above, record { resource = h.resource; gives = h.gives; of_word = h.word; has = h.dom })

  -- what an ancestor gives comes through a parent
  pub above_cases : {T : TypeInfo} (r : ℕ) (o : Option Dom) → OwnAbove T r o → (P : TypeInfo) × Parent s P T × (Own P r o ⊎ OwnAbove P r o)
  above_cases {T} r o h = let x = above-parts r o h in go x.1 x.2
    where
      go : {A U : TypeInfo} → Ancestor s A U → Own A r o → (P : TypeInfo) × Parent s P U × (Own P r o ⊎ OwnAbove P r o)
      go {A = A} (direct p) q = (A, p, inl q)
      go (further {P = P} p a) q = (P, p, inr (above-made r o a q))

  above_from : {P T : TypeInfo} (r : ℕ) (o : Option Dom) → Parent s P T → Own P r o ⊎ OwnAbove P r o → OwnAbove T r o
  above_from r o p c = ⊎_elim (λ h. above-made r o (direct p) h) (λ h. let x = above-parts r o h in above-made r o (further p x.1) x.2) c

  -- what is handed on comes from the type or from above it
  pub hands-of : (k : ℕ) (T : TypeInfo) (r : ℕ) (o : Option Dom) → SaysIn (hands_of k m T) r (fact_of o) → Own T r o ⊎ OwnAbove T r o
  unfolding hands_of
  hands-of zero T r o h = absurd (Memᴰ.not-nil h.listed)
  hands-of (suc k) T r o h =
      ⊎_elim
      (λ h. inl ((own-says T r o).0 h))
      (λ (h : SaysIn (map (λ (e : Entry). entry e.uses (T.name ∷ [])) (merged m.words (each (hands_of k m) (listed_parents m T)))) r (fact_of o)).
      let x = Memᴰ.of_map (λ (e : Entry). entry e.uses (T.name ∷ [])) (merged m.words (each (hands_of k m) (listed_parents m T))) h.listed in
      let t : Says (entry x.0.uses (T.name ∷ [])) r (fact_of o) = subst (λ (e : Entry). Says e r (fact_of o)) (sym x.2) h.says in
      let g =
      (merged-says m.words (each (hands_of k m) (listed_parents m T)) r (fact_of o)).0
      (record { entry = x.0; listed = x.1; says = retag x.0.uses (T.name ∷ []) x.0.parents r o t }) in
      let y = each_of (hands_of k m) (listed_parents m T) g.listed in
      inr (above_from r o ((listed-is s T y.0).0 y.1) (hands-of k y.0 r o (record { entry = g.entry; listed = y.2; says = g.says }))))
      (says-append (own_hands T) r (fact_of o) h)

  -- no chain of parents above T is longer than k
  abbrev pub Deep : ℕ → TypeInfo → Type 0
  Deep zero T = ⊥
  Deep (suc k) T = (P : TypeInfo) → Parent s P T → Deep k P

  -- and all of that is handed on
  hands_in : (k : ℕ) (T : TypeInfo) → Deep k T → (r : ℕ) (o : Option Dom) → Own T r o ⊎ OwnAbove T r o → SaysIn (hands_of k m T) r (fact_of o)
  unfolding hands_of
  hands_in zero T n r o c = absurd n
  hands_in (suc k) T n r o c =
      ⊎_elim
      (λ h. says-more (λ e i. Memᴰ.append_left (map (λ (e : Entry). entry e.uses (T.name ∷ [])) (merged m.words (each (hands_of k m) (listed_parents m T)))) i) ((own-says T r o).1 h))
      (λ h.
      let x = above_cases r o h in
      let f = hands_in k x.0 (n x.0 x.1) r o x.2 in
      let y =
      (merged-says m.words (each (hands_of k m) (listed_parents m T)) r (fact_of o)).1
      (record { entry = f.entry; listed = each_in (hands_of k m) ((listed-is s T x.0).1 x.1) f.listed; says = f.says }) in
      record {
        entry = entry y.entry.uses (T.name ∷ []);
        listed = Memᴰ.append_right (own_hands T) (Memᴰ.map (λ (e : Entry). entry e.uses (T.name ∷ [])) y.listed);
        says = retag y.entry.uses y.entry.parents (T.name ∷ []) r o y.says;
      })
      c

  -- more depth than there is changes nothing
  pub deep-same : (k j : ℕ) (T : TypeInfo) → Deep k T → Deep j T → hands_on k m T ≡ hands_on j m T
  unfolding hands_on listed_parents
  deep-same zero j T n o = absurd n
  deep-same (suc k) zero T n o = absurd o
  deep-same (suc k) (suc j) T n o =
      ap
      (λ l. map (λ a. under T.name (as_associate a)) (own_associates T) ++ map (λ (e : InheritedAnnotation). under T.name e.annotation) (dedup m.words l))
      (sym (each-each (type_named m) (hands_on k m) T.parents)
      ∙ each_same (hands_on k m) (hands_on j m) (each (type_named m) T.parents)
      (λ P i. let p = (listed-is s T P).0 i in deep-same k j P (n P p) (o P p))
      ∙ each-each (type_named m) (hands_on j m) T.parents)

  -- ---- words ascend

  module _ (once : something_twice s ≡ false) where
    words-once : words_twice s ≡ false
    unfolding something_twice
    words-once =
        or-false-left (words_twice s) (annotations_twice s)
        (or-false-right (keys_twice s) (words_twice s || annotations_twice s)
        (or-false-right (names_twice s) (keys_twice s || (words_twice s || annotations_twice s)) once))

    words-apart : (T : TypeInfo) → In T s.types → (a : Annotation) → In a T.annotations → Sorted (λ (u v : Resource). u.word ≡ v.word → ⊥) (resources_of a)
    unfolding words_twice
    words-apart T i a j =
        let f : Annotation → Bool = λ (a : Annotation). repeats (λ (u v : Resource). eqb u.word v.word) (resources_of a) in
        sorted-imp (resources_of a) (λ u v p q e w. never (eq-eqb u.word v.word w) e)
        (repeats-not (λ (u v : Resource). eqb u.word v.word) (resources_of a)
        (any-not f (any-not (λ (T : TypeInfo). any f T.annotations) words-once i) j))

    own-ascending : (T : TypeInfo) → In T s.types → AllAscending m.words (own_hands T)
    unfolding associated_set
    own-ascending T i e j =
        let x = Memᴰ.of_map (λ (a : AnnotationInfo). entry (resources_of a) (T.name ∷ [])) (own_associates T) j in
        let b = own_of T x.1 in
        let q : entry (associated_set (resources_of b.0)) (T.name ∷ []) ≡ e =
        ap (λ us. entry us (T.name ∷ [])) (sym (info-resources b.0) ∙ ap resources_of b.2) ∙ x.2 in
        subst (Ascending m.words) q (record {
          words =
              sort_sorted number-strict (λ (u : AssociatedResource). u.word) (map associated_of (resources_of b.0))
              (sorted-map (λ (u v : Resource). u.word ≡ v.word → ⊥) (λ (u v : AssociatedResource). u.word ≡ v.word → ⊥) associated_of (resources_of b.0)
              (λ u v k l h. h) (words-apart T i b.0 b.1));
          doms = λ u k.
              let v = (associated-is (resources_of b.0) u).0 k in
              subst (λ (u : AssociatedResource). Sorted (λ c d. dom_before c d ≡ true) u.doms) v.2 (λ y l. absurd (Memᴰ.not-nil l), tt);
          parents = (λ y l. absurd (Memᴰ.not-nil l), tt);
        })

    pub hands-ascending : (k : ℕ) (T : TypeInfo) → In T s.types → AllAscending m.words (hands_of k m T)
    unfolding hands_of
    hands-ascending zero T i e j = absurd (Memᴰ.not-nil j)
    hands-ascending (suc k) T i e j =
        ⊎_elim (own-ascending T i e)
        (λ h.
        let x = Memᴰ.of_map (λ (e : Entry). entry e.uses (T.name ∷ [])) (merged m.words (each (hands_of k m) (listed_parents m T))) h in
        let a =
        merged-ascending m.words (each (hands_of k m) (listed_parents m T))
        (λ f l. let y = each_of (hands_of k m) (listed_parents m T) l in hands-ascending k y.0 ((listed-is s T y.0).0 y.1).declared f y.2)
        x.0 x.1 in
        subst (Ascending m.words) x.2 (record { words = a.words; doms = a.doms; parents = (λ y l. absurd (Memᴰ.not-nil l), tt) }))
        (Memᴰ.append_cases (own_hands T) j)

    -- ---- an order

    module _ (order : has_order m ≡ true) where
      no_self : inherits_self m ≡ false
      unfolding has_order
      no_self = not-true (inherits_self m) (and_left (not (inherits_self m)) (null (last_pass m).waiting) order)

      none-wait : null (passes m (length m.types)).waiting ≡ true
      unfolding has_order last_pass
      none-wait = and_right (not (inherits_self m)) (null (last_pass m).waiting) order

      placed : (T : TypeInfo) → In T s.types → Placed m T (length m.types)
      placed T i = ⊎_elim (λ h. h) (λ w. absurd (null-in none-wait w)) (placed-or-waits m (length m.types) ((types-is s T).1 i))

      placed-deep : (k : ℕ) (T : TypeInfo) → Placed m T k → Deep k T
      unfolding passes
      placed-deep zero T i = absurd (Memᴰ.not-nil i)
      placed-deep (suc k) T i =
          λ P p.
          let r = listed-placed m no_self k i p.listed in
          let e : r.0 ≡ P =
          one_key (λ (T : TypeInfo). T.name) m.types (types-apart s (names-once s once)) (placed-type m k r.1) ((types-is s P).1 p.declared) r.2 in
          placed-deep k P (subst (λ U. Placed m U k) e r.1)

      -- no type is its own ancestor
      pub acyclic : (T : TypeInfo) → In T s.types → Ancestor s T T → ⊥
      acyclic T i a = no-cycle s (names-once s once) no_self (length m.types) (placed T i) a

      pub all-deep : (T : TypeInfo) → In T s.types → Deep (length m.types) T
      all-deep T i = placed-deep (length m.types) T (placed T i)

      abbrev pub handed : TypeInfo → List Entry
      handed T = hands_of (length m.types) m T

      -- what a type hands on is what it associates and what its ancestors do
      pub handed-says : (T : TypeInfo) → In T s.types → (r : ℕ) (o : Option Dom) → SaysIn (handed T) r (fact_of o) ↔ (Own T r o ⊎ OwnAbove T r o)
      handed-says T i r o = (hands-of (length m.types) T r o, hands_in (length m.types) T (all-deep T i) r o)

      -- what all parents of a type hand on
      abbrev pub heard : TypeInfo → List Entry
      heard T = each handed (listed_parents m T)

      heard-says : (T : TypeInfo) (r : ℕ) (o : Option Dom) → SaysIn (heard T) r (fact_of o) ↔ OwnAbove T r o
      heard-says T r o = (
        λ h.
            let y = each_of handed (listed_parents m T) h.listed in
            let p = (listed-is s T y.0).0 y.1 in
            above_from r o p ((handed-says y.0 p.declared r o).0 (record { entry = h.entry; listed = y.2; says = h.says })),
        λ h.
            let x = above_cases r o h in
            let f = (handed-says x.0 x.1.declared r o).1 x.2 in
            record { entry = f.entry; listed = each_in handed ((listed-is s T x.0).1 x.1) f.listed; says = f.says },
      )

      heard-parent : (T : TypeInfo) (r : ℕ) (q : Name) → SaysIn (heard T) r (parent q) ↔ ((P : TypeInfo) × Parent s P T × Passes s P r × (P.name ≡ q))
      heard-parent T r q = (
        λ h.
            let y = each_of handed (listed_parents m T) h.listed in
            let p = (listed-is s T y.0).0 y.1 in (
              y.0,
              p,
              (handed-says y.0 p.declared r none).0 (record { entry = h.entry; listed = y.2; says = h.says.0 }),
              sym (Memᴰ.eq_of_singleton (subst (In q) (hands-parent (length m.types) m y.0 y.2) h.says.1)),
            ),
        λ h.
            let f = (handed-says h.0 h.1.declared r none).1 h.2 in
            record {
              entry = f.entry;
              listed = each_in handed ((listed-is s T h.0).1 h.1) f.listed;
              says = (f.says, subst (In q) (sym (hands-parent (length m.types) m h.0 f.listed)) (Memᴰ.head (sym h.3)));
            },
      )

      pub heard-ascending : (T : TypeInfo) → AllAscending m.words (heard T)
      heard-ascending T e i =
          let y = each_of handed (listed_parents m T) i in
          hands-ascending (length m.types) y.0 ((listed-is s T y.0).0 y.1).declared e y.2

      -- ---- the entries that are left: a word has the doms that are given above, from the parents that pass it

      pub left_word : (T : TypeInfo) (r : ℕ) → SaysIn (merged m.words (heard T)) r word ↔ AssociatedAbove s T r
      left_word T r =
          let x = merged-says m.words (heard T) r word in
          let y = heard-says T r none in
          (λ h. y.0 (x.0 h), λ h. x.1 (y.1 h))

      pub left-doms : (T : TypeInfo) (e : Entry) → In e (merged m.words (heard T)) → (u : AssociatedResource) → In u e.uses → DomsAbove s T u.word u.doms
      left-doms T e i u j =
          let a = merged-ascending m.words (heard T) (heard-ascending T) e i in
          record {
            sorted = a.doms u j;
            exactly = λ d.
                let x = use-doms m.words e a u j d in
                let y = merged-entry m.words (heard T) u.word (dom d) i (has_in j refl) in
                let z = heard-says T u.word (some d) in
                (λ k. z.0 (y.0 (x.0 k)), λ h. x.1 (y.1 (z.1 h)));
          }

      pub left-parents : (T : TypeInfo) (e : Entry) → In e (merged m.words (heard T)) → (r : ℕ) → has_associated_word e.uses r ≡ true → ParentsAbove s T r e.parents
      unfolding type_map_of
      left-parents T e i r w =
          let a = merged-ascending m.words (heard T) (heard-ascending T) e i in
          record {
            sorted = a.parents;
            exactly = λ q.
                let y = merged-entry m.words (heard T) r (parent q) i w in
                let z = heard-parent T r q in
                (λ k. z.0 (y.0 (w, k)), λ h. (y.1 (z.1 h)).1);
          }
