-- The tests of refusals 7, 5 and 6 say what 01 says of the fill and of a map.
use Rattle.std.specs.Prelude.{Bool, true, false, ◌&&◌, ◌||◌, not, List, [], ◌∷◌, ◌≡◌, refl, ℕ, zero, suc, eqb, leb, ltb, length, get_or}
use mathlib.Core.List.Memᴰ
use Rattle.std.proofs.Common.{sym, ap, ◌∙◌, subst, leb-false, eq-eqb, eqb-true}
use Rattle.std.proofs.lemmas.Bool.{lt-leb, not-false}
use Rattle.lists.specs.Lists.{In, Sorted, any, repeats, ascends, same_list, set_of}
use Rattle.lists.specs.Tests.{never, not_so, and_left, and_right, and_both, or-false-left, or-false-right, any-in, any_of, any-not, any_none, or-false-both}
use Rattle.lists.specs.Sorting.{sorted-imp, repeats-not, ascends-sorted, sorted-ascends, set-members, sets-equal}
use Rattle.lists.specs.Lexicographic.{same_self, same_true, same_numbers, numbers-same}
use Rattle.lists.specs.Strict.{number-strict}
use Rattle.definitions.specs.Records.{Name, Resource, make_list, associate, nest_associate, alias, inherit, derive, no_derive, Annotation, TypeInfo, Extension, Sheet}
use Rattle.definitions.specs.Comparisons.{same_name, bytes_before}
use Rattle.definitions.specs.Checks.{bad_fill, resource_bytes, self_bytes, bad_words, names_twice, keys_twice, words_twice, annotations_twice, something_twice, resources_of, kind_of, content_of, same_annotation}
use Rattle.definitions.specs.Legal.{Every, words_of, SameWords, Equal, two_make_list, two_associate, two_nest_associate, two_alias, two_inherit, two_derive, two_no_derive, GoodWords, NothingTwice}
use Rattle.law_orders.specs.Comparisons.{bytes-strict}
use Rattle.law_reading.specs.Statements.{FillExactly, WordsExactly, TwiceExactly}

-- ---- lists

pub repeats-none : {A : Type 0} (same : A → A → Bool) (l : List A) → Sorted (λ x y. same x y ≡ false) l → repeats same l ≡ false
repeats-none same [] s = refl
repeats-none same (x ∷ l) s = or-false-both (any_none (same x) l s.0) (repeats-none same l s.1)

-- where the test is R, the list repeats nothing exactly if no two places stand in R
module _ {A : Type 0} (same : A → A → Bool) (R : A → A → Type 0) (there : (x y : A) → same x y ≡ true → R x y) (back : (x y : A) → R x y → same x y ≡ true) where
  apart_of : (l : List A) → repeats same l ≡ false → Sorted (λ x y. R x y → ⊥) l
  apart_of l e = sorted-imp l (λ x y i j h r. never (back x y r) h) (repeats-not same l e)

  of-apart : (l : List A) → Sorted (λ x y. R x y → ⊥) l → repeats same l ≡ false
  of-apart l s = repeats-none same l (sorted-imp l (λ x y i j h. not_so (λ e. h (there x y e))) s)

-- ---- refusal 7

every-false : (l : List Bool) → any (λ b. b) l ≡ false → Every (λ b. b ≡ false) l
every-false [] e = tt
every-false (b ∷ l) e = (or-false-left b (any (λ b. b) l) e, every-false l (or-false-right b (any (λ b. b) l) e))

pub none-set : (l : List Bool) → Every (λ b. b ≡ false) l → any (λ b. b) l ≡ false
none-set [] h = refl
none-set (b ∷ l) h = rw h.0 (none-set l h.1)

pub fill-exactly : FillExactly
unfolding bad_fill
fill-exactly rest =
    let a = leb 8 (length rest) in
    let b = any (λ b. b) rest in (
      λ e. (leb-false 8 (length rest) (or-false-left a b e), every-false rest (or-false-right a b e)),
      λ h. rw (lt-leb 8 (length rest) h.0) (none-set rest h.1),
    )

-- ---- refusal 5

holds-word : (w : List ℕ) (ws : List (List ℕ)) → any (same_list eqb w) ws ≡ true → In w ws
holds-word w ws e = let r = any_of (same_list eqb w) ws e in Memᴰ.cast (same_numbers w r.0 r.2) r.1

words-good : (ws : List (List ℕ)) → bad_words ws ≡ false → GoodWords ws
unfolding bad_words
words-good ws e =
    let a = ascends bytes_before ws in
    let r = any (same_list eqb resource_bytes) ws in
    let f = any (same_list eqb self_bytes) ws in
    let g = or-false-right (not a) (not r || not f) e in
    record {
      ascend = ascends-sorted bytes-strict ws (not-false a (or-false-left (not a) (not r || not f) e));
      has_resource = holds-word resource_bytes ws (not-false r (or-false-left (not r) (not f) g));
      has_self = holds-word self_bytes ws (not-false f (or-false-right (not r) (not f) g));
    }

good-words : (ws : List (List ℕ)) → GoodWords ws → bad_words ws ≡ false
unfolding bad_words
good-words ws g =
    rw (
      sorted-ascends bytes_before ws g.ascend,
      any-in (same_list eqb resource_bytes) g.has_resource (numbers-same {l = resource_bytes} refl),
      any-in (same_list eqb self_bytes) g.has_self (numbers-same {l = self_bytes} refl),
    )

pub words-exactly : WordsExactly
words-exactly ws = (words-good ws, good-words ws)

-- ---- equal annotations

-- what the kind's number says of an annotation
abbrev Form : Annotation → ℕ → Type 0
Form b zero = b ≡ make_list
Form b (suc zero) = (rs : List Resource) × (b ≡ associate rs)
Form b (suc (suc zero)) = (rs : List Resource) × (b ≡ nest_associate rs)
Form b (suc (suc (suc zero))) = (w : ℕ) × (b ≡ alias w)
Form b (suc (suc (suc (suc zero)))) = (ns : List Name) × (b ≡ inherit ns)
Form b (suc (suc (suc (suc (suc zero))))) = (t : ℕ) × (b ≡ derive t)
Form b (suc (suc (suc (suc (suc (suc k)))))) = b ≡ no_derive

form : (b : Annotation) → Form b (kind_of b)
form make_list = refl
form (associate rs) = (rs, refl)
form (nest_associate rs) = (rs, refl)
form (alias w) = (w, refl)
form (inherit ns) = (ns, refl)
form (derive t) = (t, refl)
form no_derive = refl

same-form : (a b : Annotation) → same_annotation a b ≡ true → Form b (kind_of a)
unfolding same_annotation
same-form a b e = subst (Form b) (sym (eqb-true (kind_of a) (kind_of b) (and_left (eqb (kind_of a) (kind_of b)) (same_list (same_list eqb) (content_of a) (content_of b)) e))) (form b)

same-content : (a b : Annotation) → same_annotation a b ≡ true → content_of a ≡ content_of b
unfolding same_annotation
same-content a b e =
    same_true (same_list eqb) same_numbers (content_of a) (content_of b)
    (and_right (eqb (kind_of a) (kind_of b)) (same_list (same_list eqb) (content_of a) (content_of b)) e)

same-words : (rs qs : List Resource) → set_of ltb (words_of rs) ∷ [] ≡ set_of ltb (words_of qs) ∷ [] → SameWords rs qs
same-words rs qs e w =
    let p : set_of ltb (words_of rs) ≡ set_of ltb (words_of qs) = ap (λ l. get_or l 0 []) e in
    (set-members number-strict (words_of rs) (words_of qs) p w, set-members number-strict (words_of qs) (words_of rs) (sym p) w)

one_number : (w v : ℕ) → (w ∷ []) ∷ [] ≡ (v ∷ []) ∷ [] → w ≡ v
one_number w v e = ap (λ l. get_or (get_or l 0 []) 0 0) e

same-equal : (a b : Annotation) → same_annotation a b ≡ true → Equal a b
same-equal make_list b e = rw (same-form make_list b e) two_make_list
same-equal (associate rs) b e =
    let f = same-form (associate rs) b e in
    rw f.1 (two_associate (same-words rs f.0 (same-content (associate rs) b e ∙ ap content_of f.1)))
same-equal (nest_associate rs) b e =
    let f = same-form (nest_associate rs) b e in
    rw f.1 (two_nest_associate (same-words rs f.0 (same-content (nest_associate rs) b e ∙ ap content_of f.1)))
same-equal (alias w) b e =
    let f = same-form (alias w) b e in
    rw f.1 (two_alias (one_number w f.0 (same-content (alias w) b e ∙ ap content_of f.1)))
same-equal (inherit ns) b e =
    let f = same-form (inherit ns) b e in
    rw f.1 (two_inherit (same-content (inherit ns) b e ∙ ap content_of f.1))
same-equal (derive t) b e =
    let f = same-form (derive t) b e in
    rw f.1 (two_derive (one_number t f.0 (same-content (derive t) b e ∙ ap content_of f.1)))
same-equal no_derive b e = rw (same-form no_derive b e) two_no_derive

contents-same : {x y : List (List ℕ)} → x ≡ y → same_list (same_list eqb) x y ≡ true
contents-same {x} e = rw (← e) (same_self (same_list eqb) (λ l. numbers-same {l = l} refl) x)

same-of : {a b : Annotation} → Equal a b → same_annotation a b ≡ true
unfolding same_annotation
same-of two_make_list = refl
same-of (two_associate {rs = rs} {qs = qs} h) = contents-same (ap (λ l. l ∷ []) (sets-equal number-strict (words_of rs) (words_of qs) h))
same-of (two_nest_associate {rs = rs} {qs = qs} h) = contents-same (ap (λ l. l ∷ []) (sets-equal number-strict (words_of rs) (words_of qs) h))
same-of (two_alias e) = contents-same (ap (λ n. (n ∷ []) ∷ []) e)
same-of (two_inherit e) = contents-same e
same-of (two_derive e) = contents-same (ap (λ n. (n ∷ []) ∷ []) e)
same-of two_no_derive = refl

equal-same : (a b : Annotation) → Equal a b → same_annotation a b ≡ true
equal-same a b e = same-of e

-- ---- refusal 6

-- what two entries of a list may not share: types a name, extensions a key, resources of an associate a word (FORMAT 2.12)
abbrev OneName : TypeInfo → TypeInfo → Type 0
OneName T U = T.name ≡ U.name

abbrev OneKey : Extension → Extension → Type 0
OneKey e f = (e.name ≡ f.name) × (e.word ≡ f.word)

abbrev OneWord : Resource → Resource → Type 0
OneWord u v = u.word ≡ v.word

key_of : (e f : Extension) → (same_name e.name f.name && eqb e.word f.word) ≡ true → OneKey e f
key_of e f h = (
  same_numbers e.name f.name (and_left (same_name e.name f.name) (eqb e.word f.word) h),
  eqb-true e.word f.word (and_right (same_name e.name f.name) (eqb e.word f.word) h),
)

-- no member of a list of lists has the test
any-any-none : {A B : Type 0} (f : B → Bool) (g : A → List B) (l : List A) → ((x : A) → In x l → (y : B) → In y (g x) → f y ≡ false) → any (λ x. any f (g x)) l ≡ false
any-any-none f g l h = any_none (λ x. any f (g x)) l (λ x i. any_none f (g x) (h x i))

nothing-twice : (s : Sheet) → something_twice s ≡ false → NothingTwice s
unfolding something_twice names_twice keys_twice words_twice annotations_twice
nothing-twice s e =
    let a = or-false-right (names_twice s) (keys_twice s || (words_twice s || annotations_twice s)) e in
    let b = or-false-right (keys_twice s) (words_twice s || annotations_twice s) a in
    record {
      names =
          apart_of (λ (T U : TypeInfo). same_name T.name U.name) OneName (λ T U h. same_numbers T.name U.name h) (λ T U h. numbers-same h) s.types
          (or-false-left (names_twice s) (keys_twice s || (words_twice s || annotations_twice s)) e);
      keys =
          apart_of (λ (e f : Extension). same_name e.name f.name && eqb e.word f.word) OneKey key_of
          (λ e f h. and_both (numbers-same h.0) (eq-eqb e.word f.word h.1)) s.extensions
          (or-false-left (keys_twice s) (words_twice s || annotations_twice s) a);
      words = λ T i x j.
          apart_of (λ (u v : Resource). eqb u.word v.word) OneWord (λ u v h. eqb-true u.word v.word h) (λ u v h. eq-eqb u.word v.word h) (resources_of x)
          (any-not (λ (a : Annotation). repeats (λ (u v : Resource). eqb u.word v.word) (resources_of a))
          (any-not (λ (T : TypeInfo). any (λ (a : Annotation). repeats (λ (u v : Resource). eqb u.word v.word) (resources_of a)) T.annotations)
          (or-false-left (words_twice s) (annotations_twice s) b) i)
          j);
      annotations = λ T i.
          apart_of same_annotation Equal same-equal equal-same T.annotations
          (any-not (λ (T : TypeInfo). repeats same_annotation T.annotations) (or-false-right (words_twice s) (annotations_twice s) b) i);
    }

twice-nothing : (s : Sheet) → NothingTwice s → something_twice s ≡ false
unfolding something_twice names_twice keys_twice words_twice annotations_twice
twice-nothing s h =
    or-false-both
    (of-apart (λ (T U : TypeInfo). same_name T.name U.name) OneName (λ T U h. same_numbers T.name U.name h) (λ T U h. numbers-same h) s.types h.names)
    (or-false-both
    (of-apart (λ (e f : Extension). same_name e.name f.name && eqb e.word f.word) OneKey key_of
    (λ e f h. and_both (numbers-same h.0) (eq-eqb e.word f.word h.1)) s.extensions h.keys)
    (or-false-both
    (any-any-none (λ (a : Annotation). repeats (λ (u v : Resource). eqb u.word v.word) (resources_of a)) (λ (T : TypeInfo). T.annotations) s.types
    (λ T i a j.
    of-apart (λ (u v : Resource). eqb u.word v.word) OneWord (λ u v h. eqb-true u.word v.word h) (λ u v h. eq-eqb u.word v.word h) (resources_of a)
    (h.words T i a j)))
    (any_none (λ (T : TypeInfo). repeats same_annotation T.annotations) s.types
    (λ T i. of-apart same_annotation Equal same-equal equal-same T.annotations (h.annotations T i)))))

pub twice-exactly : TwiceExactly
twice-exactly s = (nothing-twice s, twice-nothing s)
