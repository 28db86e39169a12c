-- What a type associates, itself or through an ancestor: the computed lists say what the statements say.
use Rattle.std.specs.Prelude.{Bool, true, ◌↔◌, ◌≡◌, refl, ℕ, eqb}
use mathlib.Core.List.Memᴰ
use mathlib.Core.List.{List, ◌∷◌, ◌++◌, map, map-map}
use Rattle.std.proofs.Common.{inl, inr, sym, ap, ap₂, ◌∙◌, subst, eq-eqb, eqb-true}
use Rattle.std.proofs.Math.Logic.{⊎_elim}
use Rattle.lists.specs.Lists.{In, At, filter, each}
use Rattle.lists.specs.Tests.{or_cases, or_left, or_right, any-in, any_of, filter-in, filter-of, each_in, each_of, at_in}
use Rattle.lists.specs.Strict.{number-strict}
use Rattle.lists.specs.Sorting.{sorted_filter, set_is, set-sorted}
use Rattle.definitions.specs.Records.{Name, Dom, Resource, make_list, associate, nest_associate, alias, inherit, derive, no_derive, Annotation, TypeInfo, Sheet}
use Rattle.definitions.specs.Comparisons.{name_before, dotted}
use Rattle.definitions.specs.Checks.{resources_of}
use Rattle.definitions.specs.Map.{LineType, LineMap, line_type_of}
use Rattle.definitions.specs.Making.{class_names}
use Rattle.definitions.specs.Items.{associate_of, owned, given, of_word, has_word, associate_word, parents_of, ancestors, doms_above, parents_above, words_made}
use Rattle.definitions.specs.Ancestry.{Ancestor}
use Rattle.definitions.specs.Lines.{Gives, plainly, nested, Associates, GivenAbove, AssociatedAbove, OwnResource, HasMaking, DomsAbove, Passes, ParentsAbove, ClassOf}
use Rattle.law_orders.specs.Comparisons.{dom-strict}
use Rattle.lists.specs.Members.{in-at, sorted-map}
use Rattle.law_lines.specs.Statements.{Readable, line_map, classes_of}
use Rattle.law_lines.specs.Declarations.{name-is, declarations-ascend}
use Rattle.law_lines.specs.Ancestors.{ancestor-in, ancestor-of, parents-are}

-- ---- resources

pub word-is : (r : ℕ) (us : List Resource) (u : Resource) → In u (of_word r us) ↔ (In u us × (u.word ≡ r))
word-is r us u = (
  λ i. let x = filter-of (λ (u : Resource). eqb u.word r) us i in (x.0, eqb-true u.word r x.1),
  λ h. filter-in (λ (u : Resource). eqb u.word r) h.0 (eq-eqb u.word r h.1),
)

pub has_word_lem : {r : ℕ} {us : List Resource} {u : Resource} → In u us → u.word ≡ r → has_word us r ≡ true
has_word_lem {r} {u = u} i e = any-in (λ (u : Resource). eqb u.word r) i (eq-eqb u.word r e)

pub word-of : (us : List Resource) (r : ℕ) → has_word us r ≡ true → (u : Resource) × In u us × (u.word ≡ r)
word-of us r e = let x = any_of (λ (u : Resource). eqb u.word r) us e in (x.0, x.1, eqb-true x.0.word r x.2)

-- ---- a type's own

pub gives-in : {A : TypeInfo} {u : Resource} (a : Annotation) → In a A.annotations → In u (resources_of a) → Gives A u
gives-in make_list i j = absurd (Memᴰ.not-nil j)
gives-in (associate rs) i j = plainly rs i j
gives-in (nest_associate rs) i j = nested rs i j
gives-in (alias w) i j = absurd (Memᴰ.not-nil j)
gives-in (inherit ns) i j = absurd (Memᴰ.not-nil j)
gives-in (derive t) i j = absurd (Memᴰ.not-nil j)
gives-in no_derive i j = absurd (Memᴰ.not-nil j)

gives_of : {A : TypeInfo} {u : Resource} → Gives A u → In u (each resources_of A.annotations)
gives_of (plainly rs i j) = each_in resources_of i j
gives_of (nested rs i j) = each_in resources_of i j

-- what a type associates, nested or not (FORMAT 4.1)
pub given_is : (A : TypeInfo) (u : Resource) → In u (given (line_type_of A)) ↔ Gives A u
unfolding given line_type_of
given_is A u = (λ i. let x = each_of resources_of A.annotations i in gives-in x.0 x.1 x.2, gives_of)

pub associates-is : (A : TypeInfo) (r : ℕ) → (has_word (given (line_type_of A)) r ≡ true) ↔ Associates A r
associates-is A r = (
  λ e. let x = word-of (given (line_type_of A)) r e in record { resource = x.0; gives = (given_is A x.0).0 x.1; word = x.2 },
  λ h. has_word_lem ((given_is A h.resource).1 h.gives) h.word,
)

pub own-at : {T : TypeInfo} {i : ℕ} {u : Resource} (a : Annotation) → At a i T.annotations → In u (associate_of a) → (j : ℕ) × OwnResource T i j u
own-at make_list p k = absurd (Memᴰ.not-nil k)
own-at (associate rs) p k = let x = in-at k in (x.0, record { resources = rs; annotation = p; resource = x.1 })
own-at (nest_associate rs) p k = absurd (Memᴰ.not-nil k)
own-at (alias w) p k = absurd (Memᴰ.not-nil k)
own-at (inherit ns) p k = absurd (Memᴰ.not-nil k)
own-at (derive t) p k = absurd (Memᴰ.not-nil k)
own-at no_derive p k = absurd (Memᴰ.not-nil k)

-- what makes a type's own resources (FORMAT 4.3)
pub owned-of : (T : TypeInfo) {u : Resource} → In u (owned (line_type_of T)) → (i j : ℕ) × OwnResource T i j u
unfolding owned line_type_of
owned-of T k =
    let x = each_of associate_of T.annotations k in
    let p = in-at x.1 in
    let q = own-at x.0 p.1 x.2 in
    (p.0, q.0, q.1)

pub owned_in : {T : TypeInfo} {i j : ℕ} {u : Resource} → OwnResource T i j u → In u (owned (line_type_of T))
unfolding owned line_type_of
owned_in h = each_in associate_of (at_in h.annotation) (at_in h.resource)

-- ---- through ancestors

module _ (s : Sheet) (ok : Readable s) (T : TypeInfo) where
  abbrev pub above : List LineType
  above = ancestors (line_map s) (line_type_of T)

  pub above-is : (u : Resource) → In u (each given above) ↔ ((A : TypeInfo) × Ancestor s A T × Gives A u)
  above-is u = (
    λ i.
        let x = each_of given above i in
        let a = ancestor-of s ok T x.1 in
        (a.0, a.1, (given_is a.0 u).0 (subst (λ D. In u (given D)) (sym a.2) x.2)),
    λ h. each_in given (ancestor-in s h.1) ((given_is h.0 u).1 h.2),
  )

  pub associated-above : (r : ℕ) → (associate_word above r ≡ true) ↔ AssociatedAbove s T r
  associated-above r = (
    λ e.
        let x = any_of (λ A. has_word (given A) r) above e in
        let a = ancestor-of s ok T x.1 in
        record { by = a.0; above = a.1; associates = (associates-is a.0 r).0 (subst (λ D. has_word (given D) r ≡ true) (sym a.2) x.2) },
    λ h. any-in (λ A. has_word (given A) r) (ancestor-in s h.above) ((associates-is h.by r).1 h.associates),
  )

  pub passes-is : (r : ℕ) → (associate_word (line_type_of T ∷ above) r ≡ true) ↔ Passes s T r
  passes-is r = (
    λ e. ⊎_elim (λ p. inl ((associates-is T r).0 p)) (λ p. inr ((associated-above r).0 p)) (or_cases (has_word (given (line_type_of T)) r) (associate_word above r) e),
    ⊎_elim (λ p. or_left (associate_word above r) ((associates-is T r).1 p)) (λ p. or_right (has_word (given (line_type_of T)) r) ((associated-above r).1 p)),
  )

  pub given_above : (r : ℕ) (d : Dom) → In d (map (λ (u : Resource). u.dom) (of_word r (each given above))) ↔ GivenAbove s T r d
  given_above r d = (
    λ i.
        let x = Memᴰ.of_map (λ (u : Resource). u.dom) (of_word r (each given above)) i in
        let w = (word-is r (each given above) x.0).0 x.1 in
        let a = (above-is x.0).0 w.0 in
        record { by = a.0; above = a.1; resource = x.0; gives = a.2; word = w.1; dom = x.2 },
    λ h.
        Memᴰ.cast (sym h.dom)
        (Memᴰ.map (λ (u : Resource). u.dom) ((word-is r (each given above) h.resource).1 ((above-is h.resource).1 (h.by, h.above, h.gives), h.word))),
  )

  -- the doms that proper ancestors give r, in their order (FORMAT 4.4)
  pub doms-are : (r : ℕ) → DomsAbove s T r (doms_above above r)
  unfolding doms_above
  doms-are r = record {
    sorted = set-sorted dom-strict (map (λ (u : Resource). u.dom) (of_word r (each given above)));
    exactly = λ d.
        let l = map (λ (u : Resource). u.dom) (of_word r (each given above)) in
        (λ i. (given_above r d).0 ((set_is dom-strict l d).0 i), λ h. (set_is dom-strict l d).1 ((given_above r d).1 h));
  }

  -- the words with a making
  pub made-is : (r : ℕ) → In r (words_made (line_type_of T) above) ↔ HasMaking s T r
  unfolding words_made
  made-is r =
      let us = owned (line_type_of T) ++ each given above in
      let l = map (λ (u : Resource). u.word) us in (
        λ i.
            let x = Memᴰ.of_map (λ (u : Resource). u.word) us ((set_is number-strict l r).0 i) in
            ⊎_elim
            (λ k. let o = owned-of T k in HasMaking.own o.0 o.1 x.0 o.2 x.2)
            (λ k.
            let a = (above-is x.0).0 k in
            HasMaking.inherited (record { by = a.0; above = a.1; associates = record { resource = x.0; gives = a.2; word = x.2 } }))
            (Memᴰ.append_cases (owned (line_type_of T)) x.1),
        λ h. (set_is number-strict l r).1 (of h),
      )
    where
      of : HasMaking s T r → In r (map (λ (u : Resource). u.word) (owned (line_type_of T) ++ each given above))
      of (HasMaking.own i j u h e) = Memᴰ.cast (sym e) (Memᴰ.map (λ (u : Resource). u.word) (Memᴰ.append_left (each given above) (owned_in h)))
      of (HasMaking.inherited h) =
          Memᴰ.cast (sym h.associates.word)
          (Memᴰ.map (λ (u : Resource). u.word) (Memᴰ.append_right (owned (line_type_of T)) ((above-is h.associates.resource).1 (h.by, h.above, h.associates.gives))))

-- the direct parents that associate r, or have an ancestor that does
abbrev pub passing : LineMap → LineType → ℕ → List LineType
passing m T r = filter (λ P. associate_word (P ∷ ancestors m P) r) (parents_of m T)

abbrev pub names_passing : LineMap → LineType → ℕ → List Name
names_passing m T r = map (λ (P : LineType). P.name) (passing m T r)

pub parents-above-is : (m : LineMap) (T : LineType) (r : ℕ) → parents_above m T r ≡ class_names (names_passing m T r) r
unfolding parents_above
parents-above-is m T r = sym (map-map (λ (n : Name). dotted n r) (λ (P : LineType). P.name) (passing m T r))

-- the direct parents that pass r on, ascending, each once (FORMAT 4.4)
pub parents-above-are : (s : Sheet) → Readable s → (T : TypeInfo) (r : ℕ) → ParentsAbove s T r (names_passing (line_map s) (line_type_of T) r)
unfolding parents_of
parents-above-are s ok T r =
    let m = line_map s in
    let f : LineType → Bool = λ P. associate_word (P ∷ ancestors m P) r in
    let g : LineType → Bool = λ P. (line_type_of T).inherits P.name in
    record {
      sorted =
          sorted-map (λ P Q. name_before s.words P Q ≡ true) (λ (P : LineType). P.name) (passing m (line_type_of T) r)
          (sorted_filter (λ (P Q : LineType). name_before s.words P.name Q.name ≡ true) f (parents_of m (line_type_of T))
          (sorted_filter (λ (P Q : LineType). name_before s.words P.name Q.name ≡ true) g m.types (declarations-ascend s ok)));
      exactly = λ p. (
        λ i.
            let x = Memᴰ.of_map (λ (P : LineType). P.name) (passing m (line_type_of T) r) i in
            let y = filter-of f (parents_of m (line_type_of T)) x.1 in
            let q = (parents-are s T x.0).0 y.0 in
            let k : f (line_type_of q.0) ≡ true = subst (λ D. f D ≡ true) (sym q.2) y.1 in
            (q.0, q.1, (passes-is s ok q.0 r).0 k, sym (name-is q.0) ∙ ap (λ (D : LineType). D.name) q.2 ∙ x.2),
        λ h.
            Memᴰ.cast (sym h.3 ∙ sym (name-is h.0))
            (Memᴰ.map (λ (P : LineType). P.name) (filter-in f ((parents-are s T (line_type_of h.0)).1 (h.0, h.1, refl)) ((passes-is s ok h.0 r).1 h.2))),
      );
    }

-- ---- classes

pub classes-are : (s : Sheet) → Readable s → (T : TypeInfo) (c : Name) → In c (classes_of (line_type_of T) (ancestors (line_map s) (line_type_of T))) ↔ ClassOf s T c
classes-are s ok T c =
    let us = owned (line_type_of T) ++ each given (above s ok T) in (
      λ i.
          let x = Memᴰ.of_map (λ (u : Resource). dotted u.dom u.word) us i in
          ⊎_elim
          (λ k. let o = owned-of T k in ClassOf.own o.0 o.1 x.0 o.2 (sym x.2))
          (λ k.
          let a = (above-is s ok T x.0).0 k in
          ClassOf.inherited x.0.word x.0.dom (record { by = a.0; above = a.1; resource = x.0; gives = a.2; word = refl; dom = refl }) (sym x.2))
          (Memᴰ.append_cases (owned (line_type_of T)) x.1),
      from,
    )
  where
    from : ClassOf s T c → In c (classes_of (line_type_of T) (ancestors (line_map s) (line_type_of T)))
    from (ClassOf.own i j u h e) = Memᴰ.cast e (Memᴰ.map (λ (u : Resource). dotted u.dom u.word) (Memᴰ.append_left (each given (above s ok T)) (owned_in h)))
    from (ClassOf.inherited r d h e) =
        Memᴰ.cast (e ∙ ap₂ (λ d r. dotted d r) (sym h.dom) (sym h.word))
        (Memᴰ.map (λ (u : Resource). dotted u.dom u.word) (Memᴰ.append_right (owned (line_type_of T)) ((above-is s ok T h.resource).1 (h.by, h.above, h.gives))))
