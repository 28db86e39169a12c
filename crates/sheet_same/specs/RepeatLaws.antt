-- Laws of words and rows.
use Rattle.std.specs.Prelude.{Bool, true, false, ◌&&◌, ◌||◌, cond, List, [], ◌∷◌, map, ◌≡◌, refl, ℕ, zero, suc, ◌+◌, ◌-◌, ◌<◌, eqb, ltb, length, get_or, drop, ◌⊎◌}
use Rattle.std.specs.List.{range_with_len, list_any, list_all}
use Rattle.std.proofs.Math.Bool.{and-true}
use Rattle.std.proofs.Common.{sym, ap, ap₂, subst, ◌∙◌, inl, inr, arith, eq-eqb, ne_eqb, eqb-true}
use Rattle.std.proofs.lemmas.Bool.{eqb-false}
use Rattle.std.proofs.lemmas.List.{length-map, get_or-map}
use Rattle.lists.specs.Lists.{In, any, all, repeats, same_list, set_of}
use Rattle.lists.specs.Tests.{by, same_test, and_left, and_right, and_both, any-in, any_of, all_in, all_of}
use Rattle.lists.specs.Strict.{number-strict}
use Rattle.lists.specs.Sorting.{set-members, sets-equal}
use Rattle.lists.specs.Lexicographic.{same_numbers, numbers-same}
use Rattle.lists.specs.Tabulating.{length-tabulate, get_d_tabulate, get_d-places, map-tabulate}
use Rattle.lists.specs.Places.{any_step, any-end, all-step, all_end, repeats-step, repeats-end, same_step, same_end}
use Rattle.lists.specs.Appending.{repeats-map}
use Rattle.definitions.specs.Checks.{resources_of, kind_of, content_of, same_annotation, names_twice, keys_twice, words_twice, annotations_twice, something_twice}
use Rattle.definitions.specs.Records.{Resource, AnnotationOf}
use Rattle.definitions.specs.Records as records
use Rattle.fields.specs.Fields.{two_words, of_names}
use Rattle.fields.specs.FieldLaws.{same-words}
use Rattle.sheet_records.specs.AnnotationLaws.{annotations-places, length-of_annotations}
use Rattle.sheet_records.specs.Annotations.{resource_of, word_of_rows, annotation_as, annotation_of, zero_annotation, Annotations, of_annotations}
use Rattle.sheet_records.specs.declared.Annotation.{Annotation}
use Rattle.sheet_records.specs.declared.Kind.{Kind}
use Rattle.sheet_records.specs.declared.Kind.TheVariants.{MakeList, Associate, NestAssociate, Alias, Inherit, Derive, NoDerive}
use Rattle.sheet_records.specs.Kinds.{number_of}
use Rattle.sheet_same.specs.RangeLaws.{any-range, all-range}
use Rattle.sheet_same.specs.Repeats.{words_of, row_at, rows_of, same_word, repeats_word, same_content, repeats_in, type_repeats, same_type_name, same_extension_key}

pub length-words_of : (a : Annotation) → length (words_of a) ≡ a.count
unfolding words_of
length-words_of a = length-tabulate (λ i. get_or a.words i 0) a.count

pub word-of : (a : Annotation) (i : ℕ) → i < a.count → get_or (words_of a) i 0 ≡ get_or a.words i 0
unfolding words_of
word-of a i h = get_d_tabulate (λ i. get_or a.words i 0) a.count i 0 h

-- a test of the words from a place on
pub words-any : (a : Annotation) (w from : ℕ) →
    list_any (λ j. eqb w (get_or a.words j 0)) (range_with_len from (a.count - from)) ≡ any (eqb w) (drop from (words_of a))
words-any a w from =
    any-range
    (λ j. eqb w (get_or a.words j 0))
    (λ k. any (eqb w) (drop k (words_of a)))
    a.count
    (λ k h. any_step (eqb w) (words_of a) k 0 (omega (arith, length-words_of a)) ∙ rw (word-of a k h))
    (λ k h. any-end (eqb w) (words_of a) k (omega (arith, length-words_of a)))
    from

-- a word and the words behind it
pub words-twice : (a : Annotation) →
    list_any (λ i. any (eqb (get_or a.words i 0)) (drop (i + 1) (words_of a))) (range_with_len 0 (a.count - 0)) ≡ repeats eqb (words_of a)
words-twice a =
    any-range
    (λ i. any (eqb (get_or a.words i 0)) (drop (i + 1) (words_of a)))
    (λ k. repeats eqb (drop k (words_of a)))
    a.count
    (λ k h. repeats-step eqb (words_of a) k 0 (omega (arith, length-words_of a)) ∙ rw (word-of a k h))
    (λ k h. repeats-end eqb (words_of a) k (omega (arith, length-words_of a)))
    0

-- the words of one among those of another
pub words-all : (a : Annotation) (ws : List ℕ) →
    list_all (λ i. any (eqb (get_or a.words i 0)) ws) (range_with_len 0 (a.count - 0)) ≡ all (λ w. any (eqb w) ws) (words_of a)
words-all a ws =
    all-range
    (λ i. any (eqb (get_or a.words i 0)) ws)
    (λ k. all (λ w. any (eqb w) ws) (drop k (words_of a)))
    a.count
    (λ k h. all-step (λ w. any (eqb w) ws) (words_of a) k 0 (omega (arith, length-words_of a)) ∙ rw (word-of a k h))
    (λ k h. all_end (λ w. any (eqb w) ws) (words_of a) k (omega (arith, length-words_of a)))
    0

pub length-rows_of : (a : Annotation) → length (rows_of a) ≡ a.count
unfolding rows_of of_names
length-rows_of a = length-tabulate (λ i. two_words (get_or a.words i 0) (get_or a.doms i 0)) a.count

pub row_of : (a : Annotation) (i : ℕ) → i < a.count → get_or (rows_of a) i [] ≡ row_at a i
unfolding rows_of of_names row_at
row_of a i h = get_d_tabulate (λ i. two_words (get_or a.words i 0) (get_or a.doms i 0)) a.count i [] h

-- rows, place by place
pub rows-all : (a b : Annotation) → a.count ≡ b.count →
    list_all (λ i. same_list eqb (row_at a i) (row_at b i)) (range_with_len 0 (a.count - 0)) ≡ same_list (same_list eqb) (rows_of a) (rows_of b)
rows-all a b e =
    all-range
    (λ i. same_list eqb (row_at a i) (row_at b i))
    (λ k. same_list (same_list eqb) (drop k (rows_of a)) (drop k (rows_of b)))
    a.count
    (λ k h.
    same_step (same_list eqb) (rows_of a) (rows_of b) k [] (omega (arith, length-rows_of a)) (omega (arith, length-rows_of b))
    ∙ rw (row_of a k h, row_of b k (omega arith)))
    (λ k h. same_end (same_list eqb) (rows_of a) (rows_of b) k (omega (arith, length-rows_of a)) (omega (arith, length-rows_of b)))
    0

-- the words of the rows are the words
first-words : (a : Annotation) → map (λ (u : Resource). u.word) (map resource_of (rows_of a)) ≡ words_of a
unfolding rows_of of_names words_of
first-words a =
    ap (map (λ (u : Resource). u.word)) (map-tabulate resource_of (λ i. two_words (get_or a.words i 0) (get_or a.doms i 0)) a.count)
    ∙ map-tabulate (λ (u : Resource). u.word) (λ i. resource_of (two_words (get_or a.words i 0) (get_or a.doms i 0))) a.count

-- a word twice in an associate, and in no other annotation
module _ (a : Annotation) where
  rows-twice : repeats same_word (map resource_of (rows_of a)) ≡ repeats eqb (words_of a)
  rows-twice = sym (repeats-map eqb (λ (u : Resource). u.word) (map resource_of (rows_of a))) ∙ ap (repeats eqb) (first-words a)

  of-kind : (k : Kind) → Bool
  of-kind MakeList = false
  of-kind Associate = repeats eqb (words_of a)
  of-kind NestAssociate = repeats eqb (words_of a)
  of-kind Alias = false
  of-kind Inherit = false
  of-kind Derive = false
  of-kind NoDerive = false

  by-kind : (k : Kind) → repeats same_word (resources_of (annotation_as (number_of k) (rows_of a))) ≡ of-kind k
  unfolding annotation_as of-kind
  by-kind MakeList = refl
  by-kind Associate = rows-twice
  by-kind NestAssociate = rows-twice
  by-kind Alias = refl
  by-kind Inherit = refl
  by-kind Derive = refl
  by-kind NoDerive = refl

  twice-is : repeats_word (annotation_of a) ≡ of-kind a.kind
  unfolding repeats_word annotation_of rows_of
  twice-is = by-kind a.kind

  pub twice-words : (a.kind ≡ Associate) ⊎ (a.kind ≡ NestAssociate) → repeats_word (annotation_of a) ≡ repeats eqb (words_of a)
  unfolding of-kind
  twice-words (inl e) = twice-is ∙ ap of-kind e
  twice-words (inr e) = twice-is ∙ ap of-kind e

  pub twice-none : (a.kind ≡ MakeList) ⊎ ((a.kind ≡ Alias) ⊎ ((a.kind ≡ Inherit) ⊎ ((a.kind ≡ Derive) ⊎ (a.kind ≡ NoDerive)))) → repeats_word (annotation_of a) ≡ false
  unfolding of-kind
  twice-none (inl e) = twice-is ∙ ap of-kind e
  twice-none (inr (inl e)) = twice-is ∙ ap of-kind e
  twice-none (inr (inr (inl e))) = twice-is ∙ ap of-kind e
  twice-none (inr (inr (inr (inl e)))) = twice-is ∙ ap of-kind e
  twice-none (inr (inr (inr (inr e)))) = twice-is ∙ ap of-kind e

pub same_row : (a b : Annotation) (i : ℕ) →
    same_list eqb (row_at a i) (row_at b i) ≡ (eqb (get_or a.words i 0) (get_or b.words i 0) && eqb (get_or a.doms i 0) (get_or b.doms i 0))
unfolding row_at
same_row a b i = same-words (get_or a.words i 0) (get_or a.doms i 0) (get_or b.words i 0) (get_or b.doms i 0)

-- ---- sets

within : (xs ys : List ℕ) → all (λ w. any (eqb w) ys) xs ≡ true → (x : ℕ) → In x xs → In x ys
within xs ys e x i =
    let r = any_of (eqb x) ys (all_in (λ w. any (eqb w) ys) e i) in
    subst (λ w. In w ys) (sym (eqb-true x r.0 r.2)) r.1

within_of : (xs ys : List ℕ) → ((x : ℕ) → In x xs → In x ys) → all (λ w. any (eqb w) ys) xs ≡ true
within_of xs ys h = all_of (λ w. any (eqb w) ys) xs (λ x i. any-in (eqb x) (h x i) (eq-eqb x x refl))

-- two sets are equal exactly if each is within the other
pub same-sets : (xs ys : List ℕ) → same_list eqb (set_of ltb xs) (set_of ltb ys) ≡ (all (λ w. any (eqb w) ys) xs && all (λ w. any (eqb w) xs) ys)
same-sets xs ys =
    same_test
    (λ e.
    let q = same_numbers (set_of ltb xs) (set_of ltb ys) e in
    and_both
    (within_of xs ys (set-members number-strict xs ys q))
    (within_of ys xs (set-members number-strict ys xs (sym q))))
    (λ e.
    let f = within xs ys (and_left (all (λ w. any (eqb w) ys) xs) (all (λ w. any (eqb w) xs) ys) e) in
    let g = within ys xs (and_right (all (λ w. any (eqb w) ys) xs) (all (λ w. any (eqb w) xs) ys) e) in
    numbers-same
    (sets-equal number-strict xs ys (λ x. (f x, g x))))

-- ---- equality of annotations

kind-of : (k : Kind) (rows : List (List ℕ)) → kind_of (annotation_as (number_of k) rows) ≡ number_of k
unfolding annotation_as
kind-of MakeList rows = refl
kind-of Associate rows = refl
kind-of NestAssociate rows = refl
kind-of Alias rows = refl
kind-of Inherit rows = refl
kind-of Derive rows = refl
kind-of NoDerive rows = refl

-- a number is that of one kind
same-kind : (k j : Kind) → number_of k ≡ number_of j → k ≡ j
same-kind k j e = sym (back k) ∙ ap kind_at e ∙ back j
  where
    kind_at : ℕ → Kind
    kind_at n = get_or (MakeList ∷ Associate ∷ NestAssociate ∷ Alias ∷ Inherit ∷ Derive ∷ []) n NoDerive

    back : (k : Kind) → kind_at (number_of k) ≡ k
    back MakeList = refl
    back Associate = refl
    back NestAssociate = refl
    back Alias = refl
    back Inherit = refl
    back Derive = refl
    back NoDerive = refl

same-content : (a b : Annotation) (k : Kind) →
    same_list (same_list eqb) (content_of (annotation_as (number_of k) (rows_of a))) (content_of (annotation_as (number_of k) (rows_of b))) ≡ same_content k a b
unfolding annotation_as same_content
same-content a b k = go k
  where
    sets : (same_list eqb (set_of ltb (map (λ (u : Resource). u.word) (map resource_of (rows_of a)))) (set_of ltb (map (λ (u : Resource). u.word) (map resource_of (rows_of b)))) && true)
        ≡ (all (λ w. any (eqb w) (words_of b)) (words_of a) && all (λ w. any (eqb w) (words_of a)) (words_of b))
    sets = and-true _ ∙ ap₂ (λ (x y : List ℕ). same_list eqb (set_of ltb x) (set_of ltb y)) (first-words a) (first-words b) ∙ same-sets (words_of a) (words_of b)

    word : ((eqb (word_of_rows (rows_of a)) (word_of_rows (rows_of b)) && true) && true) ≡ eqb (word_of_rows (rows_of a)) (word_of_rows (rows_of b))
    word = and-true _ ∙ and-true _

    go : (k : Kind) → same_list (same_list eqb) (content_of (annotation_as (number_of k) (rows_of a))) (content_of (annotation_as (number_of k) (rows_of b))) ≡ same_content k a b
    go MakeList = refl
    go Associate = sets
    go NestAssociate = sets
    go Alias = word
    go Inherit = refl
    go Derive = word
    go NoDerive = refl

module _ (a b : Annotation) where
  content : Bool
  content = same_list (same_list eqb) (content_of (annotation_as (number_of a.kind) (rows_of a))) (content_of (annotation_as (number_of b.kind) (rows_of b)))

  same-is : same_annotation (annotation_of a) (annotation_of b) ≡ (eqb (number_of a.kind) (number_of b.kind) && content)
  unfolding same_annotation annotation_of rows_of content
  same-is = ap₂ (λ (x y : ℕ). eqb x y && content) (kind-of a.kind (rows_of a)) (kind-of b.kind (rows_of b))

  -- annotations of one kind are equal by their contents, and those of unlike kinds are not
  pub same-annotation : a.kind ≡ b.kind → same_annotation (annotation_of a) (annotation_of b) ≡ same_content a.kind a b
  unfolding content
  same-annotation e =
      same-is
      ∙ ap
      (λ (k : Kind).
      eqb (number_of a.kind) (number_of k) && same_list (same_list eqb) (content_of (annotation_as (number_of a.kind) (rows_of a))) (content_of (annotation_as (number_of k) (rows_of b))))
      (sym e)
      ∙ rw (eq-eqb (number_of a.kind) (number_of a.kind) refl) (same-content a b a.kind)

  pub unlike-kinds : (a.kind ≡ b.kind → ⊥) → same_annotation (annotation_of a) (annotation_of b) ≡ false
  unlike-kinds h = same-is ∙ rw (ne_eqb (number_of a.kind) (number_of b.kind) (λ e. h (same-kind a.kind b.kind e)))

-- the contents of one of several kinds
module _ (k : Kind) (a b : Annotation) where
  pub content-sets : (k ≡ Associate) ⊎ (k ≡ NestAssociate) →
      same_content k a b ≡ (all (λ w. any (eqb w) (words_of b)) (words_of a) && all (λ w. any (eqb w) (words_of a)) (words_of b))
  unfolding same_content
  content-sets (inl e) = rw e
  content-sets (inr e) = rw e

  pub content-words : (k ≡ Alias) ⊎ (k ≡ Derive) → same_content k a b ≡ eqb (word_of_rows (rows_of a)) (word_of_rows (rows_of b))
  unfolding same_content
  content-words (inl e) = rw e
  content-words (inr e) = rw e

  pub content-none : (k ≡ MakeList) ⊎ (k ≡ NoDerive) → same_content k a b ≡ true
  unfolding same_content
  content-none (inl e) = rw e
  content-none (inr e) = rw e

pub only-word : (a : Annotation) → word_of_rows (rows_of a) ≡ cond (eqb a.count 0) 255 (get_or a.words 0 0)
unfolding row_at
only-word a =
    by (eqb a.count 0)
    (λ e. rw e (none (eqb-true a.count 0 e)))
    (λ e. rw e (some (eqb-false a.count 0 e)))
  where
    none : a.count ≡ 0 → word_of_rows (rows_of a) ≡ 255
    none e = empty (rows_of a) (length-rows_of a ∙ e)
      where
        empty : (l : List (List ℕ)) → length l ≡ 0 → word_of_rows l ≡ 255
        empty [] h = refl
        empty (x ∷ l) h = absurd (omega (arith, h))

    some : (a.count ≡ 0 → ⊥) → word_of_rows (rows_of a) ≡ get_or a.words 0 0
    some h = ap (λ (r : List ℕ). get_or r 0 255) (row_of a 0 (positive a.count h))
      where
        positive : (n : ℕ) → (n ≡ 0 → ⊥) → 0 < n
        positive zero h = absurd (h refl)
        positive (suc n) h = omega arith

-- ---- annotations by place

pub annotation-of : (t : Annotations) (i : ℕ) (d : AnnotationOf Resource) → i < t.count → get_or (of_annotations t) i d ≡ annotation_of (get_or t.items i zero_annotation)
annotation-of t i d h = ap (λ (l : List (AnnotationOf Resource)). get_or l i d) (annotations-places t) ∙ get_d-places annotation_of zero_annotation t.items t.count i d h

-- tests of a list by its places, where g gives what stands at each
module _ (l : List (AnnotationOf Resource)) (g : ℕ → AnnotationOf Resource) (n : ℕ) (d : AnnotationOf Resource) (long : length l ≡ n) (there : (i : ℕ) → i < n → get_or l i d ≡ g i) where
  places-any : (f : AnnotationOf Resource → Bool) (from : ℕ) → list_any (λ j. f (g j)) (range_with_len from (n - from)) ≡ any f (drop from l)
  places-any f from =
      any-range
      (λ j. f (g j))
      (λ k. any f (drop k l))
      n
      (λ k h. any_step f l k d (omega (arith, long)) ∙ rw (there k h))
      (λ k h. any-end f l k (omega (arith, long)))
      from

  places-twice : list_any (λ i. any (same_annotation (g i)) (drop (i + 1) l)) (range_with_len 0 (n - 0)) ≡ repeats same_annotation l
  places-twice =
      any-range
      (λ i. any (same_annotation (g i)) (drop (i + 1) l))
      (λ k. repeats same_annotation (drop k l))
      n
      (λ k h. repeats-step same_annotation l k d (omega (arith, long)) ∙ rw (there k h))
      (λ k h. repeats-end same_annotation l k (omega (arith, long)))
      0

-- a test of the annotations from a place on
pub annotations-any : (f : AnnotationOf Resource → Bool) (t : Annotations) (from : ℕ) →
    list_any (λ j. f (annotation_of (get_or t.items j zero_annotation))) (range_with_len from (t.count - from)) ≡ any f (drop from (of_annotations t))
annotations-any f t from =
    let d = annotation_of zero_annotation in
    places-any (of_annotations t) (λ j. annotation_of (get_or t.items j zero_annotation)) t.count d (length-of_annotations t) (λ i h. annotation-of t i d h) f from

-- an annotation and those behind it
pub annotations-twice : (t : Annotations) →
    list_any (λ i. any (same_annotation (annotation_of (get_or t.items i zero_annotation))) (drop (i + 1) (of_annotations t))) (range_with_len 0 (t.count - 0))
    ≡ repeats same_annotation (of_annotations t)
annotations-twice t =
    let d = annotation_of zero_annotation in
    places-twice (of_annotations t) (λ i. annotation_of (get_or t.items i zero_annotation)) t.count d (length-of_annotations t) (λ i h. annotation-of t i d h)

-- the same of a slice of any length
pub slice-any : (f : AnnotationOf Resource → Bool) (l : List Annotation) (from : ℕ) →
    list_any (λ j. f (annotation_of (get_or l j zero_annotation))) (range_with_len from (length l - from)) ≡ any f (drop from (map annotation_of l))
slice-any f l from =
    let d = annotation_of zero_annotation in
    places-any (map annotation_of l) (λ j. annotation_of (get_or l j zero_annotation)) (length l) d (length-map l annotation_of) (λ i h. get_or-map annotation_of l i zero_annotation d h) f from

pub slice-twice : (l : List Annotation) →
    list_any (λ i. any (same_annotation (annotation_of (get_or l i zero_annotation))) (drop (i + 1) (map annotation_of l))) (range_with_len 0 (length l - 0))
    ≡ repeats same_annotation (map annotation_of l)
slice-twice l =
    let d = annotation_of zero_annotation in
    places-twice (map annotation_of l) (λ i. annotation_of (get_or l i zero_annotation)) (length l) d (length-map l annotation_of) (λ i h. get_or-map annotation_of l i zero_annotation d h)

-- MakeList, whatever the rows
pub no_rows : (words doms : List ℕ) → annotation_of (record { kind = MakeList; count = 0; words = words; doms = doms }) ≡ annotation_of zero_annotation
unfolding annotation_of annotation_as
no_rows words doms = refl

-- one of two tests holds of an element exactly if one of them holds of the list
pub any-or : {A : Type 0} (f g : A → Bool) (l : List A) → any (λ x. f x || g x) l ≡ (any f l || any g l)
any-or f g [] = refl
any-or f g (x ∷ l) = ap (λ (b : Bool). (f x || g x) || b) (any-or f g l) ∙ swap (f x) (g x) (any f l) (any g l)
  where
    swap : (a b c d : Bool) → ((a || b) || (c || d)) ≡ ((a || c) || (b || d))
    swap true b c d = refl
    swap false true true d = refl
    swap false true false d = refl
    swap false false c d = refl

-- the two conditions are one over the types
pub twice-within : (s : records.Sheet) → any type_repeats s.types ≡ (words_twice s || annotations_twice s)
unfolding words_twice annotations_twice repeats_in repeats_word
twice-within s =
    any-or (λ (T : records.TypeInfo). any repeats_word T.annotations) (λ (T : records.TypeInfo). repeats same_annotation T.annotations) s.types

-- refusal 6 from its parts
pub something-twice : (s : records.Sheet) →
    something_twice s ≡ (repeats same_type_name s.types || (repeats same_extension_key s.extensions || any type_repeats s.types))
unfolding something_twice names_twice keys_twice
something-twice s = ap (λ (b : Bool). repeats same_type_name s.types || (repeats same_extension_key s.extensions || b)) (sym (twice-within s))
