-- Interpreting a type adds no row exactly if each of its makings is fit and no two are identical; then it makes these and a
-- line for each word, each once.
use mathlib.Core.Bool.{Bool, true, false, not}
use mathlib.Core.List.Memᴰ
use mathlib.Core.List.{List, [], ◌∷◌, ◌++◌, map, cons≢nil}
use Rattle.std.specs.Prelude.{◌⊎◌, ◌↔◌, ◌≡◌, ℕ}
use Rattle.std.proofs.Math.Logic.{inl, inr, ⊎_elim}
use Rattle.std.proofs.Math.Path.{refl, sym, ap, ap₂, subst}
use Rattle.std.proofs.Common.{◌∙◌}
use borrow.Author.Tests.{not-false}
use Rattle.lists.specs.Lists.{In, any, null, keep, filter, each, first_of}
use Rattle.lists.specs.Tests.{by, never, not_so, or-false-left, or-false-right, cons-elim, any-in, any_of, filter-in, first-none, first-not}
use Rattle.lists.specs.Sorting.{Distinct, sorted-append}
use Rattle.definitions.specs.Records.{Name, AssociatedResource, Item, synthesized, extension}
use Rattle.definitions.specs.Comparisons.{dotted}
use Rattle.definitions.specs.Checks.{resources_of}
use Rattle.definitions.specs.Map.{LineType, LineMap}
use Rattle.definitions.specs.Making.{declared, class_names, is_resource, create_synthetic_resource, extension_line, same_item}
use Rattle.definitions.specs.Inherited.{InheritedAnnotation}
use Rattle.definitions.specs.Synthesis.{Interpreted, interpreted, behind_row, Verdict, unknown_classes, ends, no_resource, duplicate, makes, judge, class_row, first_parents, is_duplicate, with_making, interpret_words, interpret_all}
use Rattle.lists.specs.Members.{filter_none}
use Rattle.law_lines.specs.SameItem.{same_item_lem, item-same}
use Rattle.lists.specs.Appending.{append-empty}

-- ---- makings

-- what is needed to make T.r
pub record Job : Type 0 where
  pub word : ℕ
  pub classes : List Name
  pub firsts : List Name

abbrev pub job_of : List Name → AssociatedResource → Job
job_of Ps u = record { word = u.word; classes = class_names u.doms u.word; firsts = first_parents Ps (class_names u.doms u.word) u.word }

abbrev pub jobs_in : InheritedAnnotation → List Job
jobs_in a = map (job_of a.parents) (resources_of a.annotation)

abbrev pub jobs_of : List InheritedAnnotation → List Job
jobs_of l = each jobs_in l

abbrev is_made : Item → Bool
is_made (synthesized n r v ps ms) = true
is_made (extension n v t r) = false

module _ (m : LineMap) (T : LineType) where
  abbrev pub made : Job → Item
  made j = create_synthetic_resource m T j.word j.classes j.firsts

  abbrev pub line : Job → Item
  line j = extension_line T j.word

  pub made-not-line : (j k : Job) → made j ≡ line k → ⊥
  unfolding create_synthetic_resource extension_line
  made-not-line j k e = mathlib.Core.Bool.true≢false (ap is_made e)

  -- every class is declared and a resource, and T.r is no declared type
  pub record Fit (j : Job) : Type 0 where
    pub known : (c : Name) → In c j.classes → null (declared m c) ≡ false
    pub right : (c : Name) → In c j.classes → is_resource m c ≡ true
    pub free : null (declared m (dotted T.name j.word)) ≡ true

  -- what the word comes to after the items
  abbrev unknown : Job → List Name
  unknown j = filter (λ c. null (declared m c)) j.classes

  abbrev wrong : Job → List Name
  wrong j = first_of (λ c. not (is_resource m c)) j.classes

  abbrev twice : Job → List Item → Bool
  twice j is = is_duplicate m T j.word (made j) is

  record Makes (j : Job) (is : List Item) : Type 0 where
    known : unknown j ≡ []
    right : wrong j ≡ []
    new : twice j is ≡ false

  pub Passes : List Job → List Item → Type 0
  Passes [] is = Unit {0}
  Passes (j ∷ js) is = Makes j is × Passes js (with_making T j.word (made j) is)

  onto : List Job → List Item → List Item
  onto [] is = is
  onto (j ∷ js) is = onto js (with_making T j.word (made j) is)

  -- ---- the words of an annotation

  -- what follows from the verdict over a word
  follow : ℕ → Item → List Item → Verdict → (Bool → List Item → Interpreted) → Interpreted
  follow r new is v go =
      elim v [
        | unknown_classes xs ↦ interpreted (map (class_row 4 T r) xs) is
        | ends ↦ interpreted [] is
        | no_resource c ↦ behind_row (class_row 5 T r c) (go true is)
        | duplicate ↦ behind_row (class_row 6 T r []) (go true is)
        | makes ↦ go false (with_making T r new is)
      ]

  step : (Ps : List Name) (u : AssociatedResource) (us : List AssociatedResource) (is : List Item)
      → interpret_words m T Ps (u ∷ us) false is
      ≡ follow u.word (made (job_of Ps u)) is (judge false (unknown (job_of Ps u)) (wrong (job_of Ps u)) (twice (job_of Ps u) is)) (λ f is. interpret_words m T Ps us f is)
  unfolding interpret_words follow
  step Ps u us is = refl

  follow-of : (r : ℕ) (new : Item) (is : List Item) (xs ns : List Name) (d : Bool) (go : Bool → List Item → Interpreted)
      → (follow r new is (judge false xs ns d) go).rows ≡ []
      → (xs ≡ []) × (ns ≡ []) × (d ≡ false) × (follow r new is (judge false xs ns d) go ≡ go false (with_making T r new is))
  unfolding follow
  follow-of r new is (c ∷ xs) ns d go e = absurd (cons≢nil e)
  follow-of r new is [] (c ∷ ns) d go e = absurd (cons≢nil e)
  follow-of r new is [] [] true go e = absurd (cons≢nil e)
  follow-of r new is [] [] false go e = (refl, refl, refl, refl)

  follow-in : (r : ℕ) (new : Item) (is : List Item) {xs ns : List Name} {d : Bool} (go : Bool → List Item → Interpreted) → xs ≡ [] → ns ≡ [] → d ≡ false
      → follow r new is (judge false xs ns d) go ≡ go false (with_making T r new is)
  unfolding follow
  follow-in r new is go p q t = rw (p, q, t)

  words_of : (Ps : List Name) (us : List AssociatedResource) (is : List Item) → (interpret_words m T Ps us false is).rows ≡ []
      → Passes (map (job_of Ps) us) is × ((interpret_words m T Ps us false is).items ≡ onto (map (job_of Ps) us) is)
  unfolding Passes onto
  words_of Ps [] is e = unfold interpret_words in (tt, refl)
  words_of Ps (u ∷ us) is e =
      let j = job_of Ps u in
      let q = step Ps u us is in
      let x = follow-of u.word (made j) is (unknown j) (wrong j) (twice j is) (λ f is. interpret_words m T Ps us f is) (sym (ap (λ (i : Interpreted). i.rows) q) ∙ e) in
      let h = words_of Ps us (with_making T u.word (made j) is) (sym (ap (λ (i : Interpreted). i.rows) (q ∙ x.3)) ∙ e) in
      ((record { known = x.0; right = x.1; new = x.2 }, h.0), ap (λ (i : Interpreted). i.items) (q ∙ x.3) ∙ h.1)

  words-in : (Ps : List Name) (us : List AssociatedResource) (is : List Item) → Passes (map (job_of Ps) us) is
      → ((interpret_words m T Ps us false is).rows ≡ []) × ((interpret_words m T Ps us false is).items ≡ onto (map (job_of Ps) us) is)
  unfolding Passes onto
  words-in Ps [] is p = unfold interpret_words in (refl, refl)
  words-in Ps (u ∷ us) is p =
      let j = job_of Ps u in
      let q : interpret_words m T Ps (u ∷ us) false is ≡ interpret_words m T Ps us false (with_making T u.word (made j) is) =
      step Ps u us is ∙ follow-in u.word (made j) is (λ f is. interpret_words m T Ps us f is) p.0.known p.0.right p.0.new in
      let h = words-in Ps us (with_making T u.word (made j) is) p.1 in
      (ap (λ (i : Interpreted). i.rows) q ∙ h.0, ap (λ (i : Interpreted). i.items) q ∙ h.1)

  passes_append : (js ks : List Job) (is : List Item) → Passes (js ++ ks) is ↔ (Passes js is × Passes ks (onto js is))
  unfolding Passes onto
  passes_append [] ks is = (λ p. (tt, p), λ p. p.1)
  passes_append (j ∷ js) ks is =
      let r = passes_append js ks (with_making T j.word (made j) is) in
      (λ p. let x = r.0 p.1 in ((p.0, x.0), x.1), λ p. (p.0.0, r.1 (p.0.1, p.1)))

  onto-append : (js ks : List Job) (is : List Item) → onto (js ++ ks) is ≡ onto ks (onto js is)
  unfolding onto
  onto-append [] ks is = refl
  onto-append (j ∷ js) ks is = onto-append js ks (with_making T j.word (made j) is)

  -- ---- all annotations

  all_of : (l : List InheritedAnnotation) (is : List Item) → (interpret_all m T l is).rows ≡ [] → Passes (jobs_of l) is × ((interpret_all m T l is).items ≡ onto (jobs_of l) is)
  unfolding interpret_all
  all_of [] is e = unfold Passes onto in (tt, refl)
  all_of (a ∷ l) is e =
      let i = interpret_words m T a.parents (resources_of a.annotation) false is in
      let x = append-empty i.rows (interpret_all m T l i.items).rows e in
      let y = words_of a.parents (resources_of a.annotation) is x.0 in
      let h = all_of l i.items x.1 in (
        (passes_append (jobs_in a) (jobs_of l) is).1 (y.0, subst (Passes (jobs_of l)) y.1 h.0),
        h.1 ∙ ap (onto (jobs_of l)) y.1 ∙ sym (onto-append (jobs_in a) (jobs_of l) is),
      )

  all_in : (l : List InheritedAnnotation) (is : List Item) → Passes (jobs_of l) is → (interpret_all m T l is).rows ≡ []
  unfolding interpret_all
  all_in [] is p = refl
  all_in (a ∷ l) is p =
      let i = interpret_words m T a.parents (resources_of a.annotation) false is in
      let x = (passes_append (jobs_in a) (jobs_of l) is).0 p in
      let y = words-in a.parents (resources_of a.annotation) is x.0 in
      ap₂ (λ u v. u ++ v) y.0 (all_in l i.items (subst (Passes (jobs_of l)) (sym y.1) x.1))

  -- ---- fit and distinct

  makes-is : (j : Job) (is : List Item) → Makes j is ↔ (Fit j × ((x : Item) → In x is → made j ≡ x → ⊥))
  unfolding is_duplicate
  makes-is j is = (
    λ h. (
      record {
        known = λ c i. not_so (λ e. Memᴰ.not-nil (subst (In c) h.known (filter-in (λ c. null (declared m c)) i e)));
        right = λ c i. not-false (is_resource m c) (first-not (λ c. not (is_resource m c)) h.right i);
        free = not-false (null (declared m (dotted T.name j.word))) (or-false-left (not (null (declared m (dotted T.name j.word)))) (any (same_item (made j)) is) h.new);
      },
      λ x i e.
          never (any-in (same_item (made j)) i (item-same e))
          (or-false-right (not (null (declared m (dotted T.name j.word)))) (any (same_item (made j)) is) h.new),
    ),
    λ h.
        let e : any (same_item (made j)) is ≡ false = not_so (λ t. let x = any_of (same_item (made j)) is t in h.1 x.0 x.1 (same_item_lem (made j) x.0 x.2)) in
        record {
          known = filter_none (λ c. null (declared m c)) j.classes h.0.known;
          right = first-none (λ c. not (is_resource m c)) j.classes (λ c i. ap not (h.0.right c i));
          new = rw (h.0.free, e);
        },
  )

  -- the items after a making: those before, the making, and its line
  with-of : (j : Job) (is : List Item) {x : Item} → In x (with_making T j.word (made j) is) → In x is ⊎ ((x ≡ made j) ⊎ (x ≡ line j))
  unfolding with_making
  with-of j is {x} i =
      ⊎_elim inl
      (λ k. cons-elim k (λ e. inr (inl e)) (λ h. inr (inr (line_of (not (any (same_item (line j)) is)) h))))
      (Memᴰ.append_cases is i)
    where
      line_of : (b : Bool) → In x (keep b (line j) []) → x ≡ line j
      line_of true h = Memᴰ.eq_of_singleton h
      line_of false h = absurd (Memᴰ.not-nil h)

  with-old : (j : Job) (is : List Item) {x : Item} → In x is → In x (with_making T j.word (made j) is)
  unfolding with_making
  with-old j is i = Memᴰ.append_left (made j ∷ keep (not (any (same_item (line j)) is)) (line j) []) i

  with-made : (j : Job) (is : List Item) → In (made j) (with_making T j.word (made j) is)
  unfolding with_making
  with-made j is = Memᴰ.append_right is (Memᴰ.head refl)

  with-line : (j : Job) (is : List Item) → In (line j) (with_making T j.word (made j) is)
  unfolding with_making
  with-line j is =
      by (any (same_item (line j)) is)
      (λ e. let x = any_of (same_item (line j)) is e in rw e (Memᴰ.append_left (made j ∷ []) (Memᴰ.cast (same_item_lem (line j) x.0 x.2) x.1)))
      (λ e. rw e (Memᴰ.append_right is (Memᴰ.tail (Memᴰ.head refl))))

  with-distinct : (j : Job) (is : List Item) → Makes j is → Distinct is → Distinct (with_making T j.word (made j) is)
  unfolding with_making
  with-distinct j is h d =
      by (any (same_item (line j)) is)
      (λ e. rw e (sorted-append (λ x y. x ≡ y → ⊥) is (made j ∷ []) d (λ y i. absurd (Memᴰ.not-nil i), tt) (λ x y i k q. old i (Memᴰ.eq_of_singleton k) q)))
      (λ e.
      rw e
      (sorted-append (λ x y. x ≡ y → ⊥) is (made j ∷ line j ∷ []) d
      (λ y i q. made-not-line j j (q ∙ Memᴰ.eq_of_singleton i), (λ y i. absurd (Memᴰ.not-nil i), tt))
      (λ x y i k q.
      cons-elim k
      (λ p. old i p q)
      (λ p. never (any-in (same_item (line j)) i (item-same (sym (q ∙ Memᴰ.eq_of_singleton p)))) e))))
    where
      old : {x y : Item} → In x is → y ≡ made j → x ≡ y → ⊥
      old {x} i p q = ((makes-is j is).0 h).1 x i (sym (q ∙ p))

  -- no making stands among the items
  abbrev New : List Job → List Item → Type 0
  New js is = (j : Job) → In j js → (x : Item) → In x is → made j ≡ x → ⊥

  passes-is : (js : List Job) (is : List Item) → Passes js is ↔ (((j : Job) → In j js → Fit j) × Distinct (map made js) × New js is)
  unfolding Passes
  passes-is [] is = (λ p. (λ j h. absurd (Memᴰ.not-nil h), tt, λ j h. absurd (Memᴰ.not-nil h)), λ p. tt)
  passes-is (j ∷ js) is =
      let next = with_making T j.word (made j) is in (
        λ p.
            let v = (makes-is j is).0 p.0 in
            let r = (passes-is js next).0 p.1 in (
              λ k h. cons-elim h (λ e. subst Fit (sym e) v.0) (r.0 k),
              (λ x h e. let y = Memᴰ.of_map made js h in r.2 y.0 y.1 (made j) (with-made j is) (y.2 ∙ sym e), r.1),
              λ k h x i e. cons-elim h (λ q. v.1 x i (ap made (sym q) ∙ e)) (λ q. r.2 k q x (with-old j is i) e),
            ),
        λ p. (
          (makes-is j is).1 (p.0 j (Memᴰ.head refl), p.2 j (Memᴰ.head refl)),
          (passes-is js next).1 (
            λ k h. p.0 k (Memᴰ.tail h),
            p.1.1,
            λ k h x i e.
                ⊎_elim
                (λ q. p.2 k (Memᴰ.tail h) x q e)
                (λ c. ⊎_elim (λ q. p.1.0 (made k) (Memᴰ.map made h) (sym (e ∙ q))) (λ q. made-not-line k j (e ∙ q)) c)
                (with-of j is i),
          ),
        ),
      )

  -- ---- what is left

  onto-distinct : (js : List Job) (is : List Item) → Passes js is → Distinct is → Distinct (onto js is)
  unfolding Passes onto
  onto-distinct [] is p d = d
  onto-distinct (j ∷ js) is p d = onto-distinct js (with_making T j.word (made j) is) p.1 (with-distinct j is p.0 d)

  -- a making of the list, or the line of one
  pub data Among (js : List Job) (x : Item) : Type 0 where
    making : (j : Job) → In j js → x ≡ made j → Among js x
    lined : (j : Job) → In j js → x ≡ line j → Among js x

  among-more : {js ks : List Job} {x : Item} → ((j : Job) → In j js → In j ks) → Among js x → Among ks x
  among-more h (making j i e) = making j (h j i) e
  among-more h (lined j i e) = lined j (h j i) e

  onto-of : (js : List Job) (is : List Item) {x : Item} → In x (onto js is) → In x is ⊎ Among js x
  unfolding onto
  onto-of [] is i = inl i
  onto-of (j ∷ js) is {x} i =
      ⊎_elim
      (λ k. ⊎_elim inl (λ c. inr (⊎_elim (making j (Memᴰ.head refl)) (lined j (Memᴰ.head refl)) c)) (with-of j is k))
      (λ a. inr (among-more (λ k h. Memᴰ.tail h) a))
      (onto-of js (with_making T j.word (made j) is) i)

  onto-old : (js : List Job) (is : List Item) {x : Item} → In x is → In x (onto js is)
  unfolding onto
  onto-old [] is i = i
  onto-old (j ∷ js) is i = onto-old js (with_making T j.word (made j) is) (with-old j is i)

  onto-made : (js : List Job) (is : List Item) {j : Job} → In j js → In (made j) (onto js is) × In (line j) (onto js is)
  unfolding onto
  onto-made [] is i = absurd (Memᴰ.not-nil i)
  onto-made (k ∷ js) is {j} i =
      let next = with_making T k.word (made k) is in
      cons-elim i
      (λ e. (
        onto-old js next (Memᴰ.cast (ap made e) (with-made k is)),
        onto-old js next (Memᴰ.cast (ap line e) (with-line k is)),
      ))
      (onto-made js next)

  -- ---- the statements

  -- no row exactly if every making is fit and no two are identical
  pub no_row : (l : List InheritedAnnotation) → ((interpret_all m T l []).rows ≡ []) ↔ (((j : Job) → In j (jobs_of l) → Fit j) × Distinct (map made (jobs_of l)))
  no_row l = (
    λ e. let x = (passes-is (jobs_of l) []).0 (all_of l [] e).0 in (x.0, x.1),
    λ h. all_in l [] ((passes-is (jobs_of l) []).1 (h.0, h.1, λ j k x i. absurd (Memᴰ.not-nil i))),
  )

  -- then the items are the makings and their lines
  pub no-row-items : (l : List InheritedAnnotation) → (interpret_all m T l []).rows ≡ [] → (x : Item) → In x (interpret_all m T l []).items ↔ Among (jobs_of l) x
  no-row-items l e x =
      let a = all_of l [] e in (
        λ i. ⊎_elim (λ k. absurd (Memᴰ.not-nil k)) (λ k. k) (onto-of (jobs_of l) [] (subst (In x) a.1 i)),
        λ h. subst (In x) (sym a.1) (of h),
      )
    where
      of : Among (jobs_of l) x → In x (onto (jobs_of l) [])
      of (making j i q) = Memᴰ.cast q (onto-made (jobs_of l) [] i).0
      of (lined j i q) = Memᴰ.cast q (onto-made (jobs_of l) [] i).1

  -- each once
  pub no-row-once : (l : List InheritedAnnotation) → (interpret_all m T l []).rows ≡ [] → Distinct (interpret_all m T l []).items
  no-row-once l e = let a = all_of l [] e in subst Distinct (sym a.1) (onto-distinct (jobs_of l) [] a.0 tt)
