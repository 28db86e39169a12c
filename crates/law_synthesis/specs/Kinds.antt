-- The other kinds do not matter to the Associates: the dedup of a list of all kinds has the Associates that the dedup of its
-- Associates has.
use Rattle.std.specs.Prelude.{Bool, true, false, not, List, [], ◌∷◌, ◌++◌, ◌≡◌, refl, ℕ, eqb}
use Rattle.std.proofs.Common.{⊎_elim, sym, ap, ap₂, ◌∙◌}
use Rattle.std.proofs.Math.Option.{Option, none, some}
use Rattle.lists.specs.Lists.{null, filter, set_of}
use Rattle.lists.specs.Tests.{by, never}
use Rattle.definitions.specs.Records.{Name, AssociatedResource, make_list, associate, nest_associate, alias, inherit, derive, no_derive, AnnotationInfo}
use Rattle.definitions.specs.Comparisons.{name_before}
use Rattle.definitions.specs.Checks.{kind_of, resources_of}
use Rattle.definitions.specs.Annotations.{Overlap, nothing, whole, by_word, overlap_of, same_alias, some_if, with_resources, shared, less, intersection_by, intersection, difference_by, difference}
use Rattle.definitions.specs.Inherited.{InheritedAnnotation, under_parents, shared_entry, rest_entry, to_list, dedup_one, dedup_onto}
use Rattle.lists.specs.Appending.{filter-append}
use Rattle.law_synthesis.specs.Statements.{Parted, equal, apart, is_plain, OtherKindsApart}
use Rattle.law_synthesis.specs.Annotations.{parted}

-- ---- kinds stay

-- nothing, or an annotation of the kind
abbrev OfKind : ℕ → Option AnnotationInfo → Type 0
OfKind k none = Unit {0}
OfKind k (some a) = kind_of a ≡ k

with-kind : (a : AnnotationInfo) (us : List AssociatedResource) → kind_of (with_resources a us) ≡ kind_of a
with-kind make_list us = refl
with-kind (associate rs) us = refl
with-kind (nest_associate rs) us = refl
with-kind (alias w) us = refl
with-kind (inherit ns) us = refl
with-kind (derive t) us = refl
with-kind no_derive us = refl

some-kind : (k : ℕ) (b : Bool) (a : AnnotationInfo) → kind_of a ≡ k → OfKind k (some_if b a)
some-kind k true a e = e
some-kind k false a e = tt

difference-kind : (a b : AnnotationInfo) → OfKind (kind_of a) (difference a b)
unfolding difference
difference-kind a b = go (overlap_of a b)
  where
    go : (o : Overlap) → OfKind (kind_of a) (difference_by o a b)
    go nothing = refl
    go whole = some-kind (kind_of a) (not (same_alias a b)) a refl
    go by_word =
        let us = less (resources_of a) (resources_of b) in
        some-kind (kind_of a) (not (null us)) (with_resources a us) (with-kind a us)

intersection-kind : (a b : AnnotationInfo) → OfKind (kind_of a) (intersection a b)
unfolding intersection
intersection-kind a b = go (overlap_of a b)
  where
    go : (o : Overlap) → OfKind (kind_of a) (intersection_by o a b)
    go nothing = tt
    go whole = some-kind (kind_of a) (same_alias a b) a refl
    go by_word =
        let us = shared (resources_of a) (resources_of b) in
        some-kind (kind_of a) (not (null us)) (with_resources a us) (with-kind a us)

-- ---- unlike kinds share nothing

record Unlike (a b : AnnotationInfo) : Type 0 where
  common : intersection a b ≡ none
  left : difference a b ≡ some a
  right : difference b a ≡ some b

unlike : (a b : AnnotationInfo) → eqb (kind_of a) 1 ≡ true → eqb (kind_of b) 1 ≡ false → Unlike a b
unlike a b p q = go (parted a b)
  where
    not_equal : {C : Type 0} → kind_of a ≡ kind_of b → C
    not_equal e = never (ap (λ k. eqb k 1) (sym e) ∙ p) q

    go : Parted a b → Unlike a b
    go (Parted.by_word us vs c t) =
        ⊎_elim (λ x. not_equal (ap kind_of x.0 ∙ sym (ap kind_of x.1))) (λ x. not_equal (ap kind_of x.0 ∙ sym (ap kind_of x.1))) c
    go (equal e x y z) = not_equal (ap kind_of e)
    go (apart x y z w) = record { common = x; left = y; right = z }

-- ---- entries

-- those that are Associates
abbrev only_plain : Option InheritedAnnotation → Option InheritedAnnotation
only_plain none = none
only_plain (some n) = some_if (is_plain n) n

abbrev plain : List InheritedAnnotation → List InheritedAnnotation
plain l = filter is_plain l

-- under parents an annotation of kind 1 stays, one of another kind goes
kept : (ps : List Name) (k : ℕ) (o : Option AnnotationInfo) → OfKind k o → eqb k 1 ≡ true
    → (plain (to_list (under_parents ps o)) ≡ to_list (under_parents ps o)) × (only_plain (under_parents ps o) ≡ under_parents ps o)
kept ps k none e p = (refl, refl)
kept ps k (some a) e p = let q : eqb (kind_of a) 1 ≡ true = ap (λ n. eqb n 1) e ∙ p in (rw q, rw q)

gone : (ps : List Name) (k : ℕ) (o : Option AnnotationInfo) → OfKind k o → eqb k 1 ≡ false
    → (plain (to_list (under_parents ps o)) ≡ []) × (only_plain (under_parents ps o) ≡ none)
gone ps k none e p = (refl, refl)
gone ps k (some a) e p = let q : eqb (kind_of a) 1 ≡ false = ap (λ n. eqb n 1) e ∙ p in (rw q, rw q)

one_none : (ws : List (List ℕ)) (l : List InheritedAnnotation) → dedup_one ws l none ≡ l
unfolding dedup_one
one_none ws [] = refl
one_none ws (e ∷ l) = refl

one_plain : (ws : List (List ℕ)) (l : List InheritedAnnotation) (o : Option InheritedAnnotation) → plain (dedup_one ws l o) ≡ dedup_one ws (plain l) (only_plain o)
unfolding dedup_one rest_entry shared_entry
one_plain ws [] none = refl
one_plain ws [] (some n) = by (is_plain n) (λ p. rw p) (λ p. rw p)
one_plain ws (e ∷ l) none = sym (one_none ws (plain (e ∷ l)))
one_plain ws (e ∷ l) (some n) =
    let a = e.annotation in
    let b = n.annotation in
    let ps = set_of (name_before ws) (e.parents ++ n.parents) in
    let rest = to_list (rest_entry e n) in
    let both = to_list (shared_entry ws e n) in
    let later = one_plain ws l (rest_entry n e) in
    let split : plain (rest ++ (both ++ dedup_one ws l (rest_entry n e))) ≡ plain rest ++ (plain both ++ dedup_one ws (plain l) (only_plain (rest_entry n e))) =
    filter-append is_plain rest (both ++ dedup_one ws l (rest_entry n e)) ∙ ap (λ k. plain rest ++ k) (filter-append is_plain both (dedup_one ws l (rest_entry n e)) ∙ ap (λ k. plain both ++ k) later) in
    by (is_plain e)
    (λ p.
    by (is_plain n)
    (λ q.
    split
    ∙ ap₂ (λ x y. x ++ y) (kept e.parents (kind_of a) (difference a b) (difference-kind a b) p).0
    (ap₂ (λ x y. x ++ y) (kept ps (kind_of a) (intersection a b) (intersection-kind a b) p).0
    (ap (dedup_one ws (plain l)) (kept n.parents (kind_of b) (difference b a) (difference-kind b a) q).1))
    ∙ rw (p, q))
    (λ q.
    let u = unlike a b p q in
    split
    ∙ ap₂ (λ x y. x ++ y) (ap (λ o. plain (to_list (under_parents e.parents o))) u.left)
    (ap₂ (λ x y. x ++ y) (ap (λ o. plain (to_list (under_parents ps o))) u.common)
    (ap (dedup_one ws (plain l)) (gone n.parents (kind_of b) (difference b a) (difference-kind b a) q).1 ∙ one_none ws (plain l)))
    ∙ rw (p, q)))
    (λ p.
    by (is_plain n)
    (λ q.
    let u = unlike b a q p in
    split
    ∙ ap₂ (λ x y. x ++ y) (gone e.parents (kind_of a) (difference a b) (difference-kind a b) p).0
    (ap₂ (λ x y. x ++ y) (gone ps (kind_of a) (intersection a b) (intersection-kind a b) p).0
    (ap (λ o. dedup_one ws (plain l) (only_plain (under_parents n.parents o))) u.left))
    ∙ rw (p, q))
    (λ q.
    split
    ∙ ap₂ (λ x y. x ++ y) (gone e.parents (kind_of a) (difference a b) (difference-kind a b) p).0
    (ap₂ (λ x y. x ++ y) (gone ps (kind_of a) (intersection a b) (intersection-kind a b) p).0
    (ap (dedup_one ws (plain l)) (gone n.parents (kind_of b) (difference b a) (difference-kind b a) q).1))
    ∙ rw (p, q)))

onto-plain : (ws : List (List ℕ)) (out l : List InheritedAnnotation) → plain (dedup_onto ws out l) ≡ dedup_onto ws (plain out) (plain l)
unfolding dedup_onto
onto-plain ws out [] = refl
onto-plain ws out (n ∷ l) =
    onto-plain ws (dedup_one ws out (some n)) l ∙ ap (λ k. dedup_onto ws k (plain l)) (one_plain ws out (some n))
    ∙ by (is_plain n) (λ p. rw p) (λ p. rw p (ap (λ k. dedup_onto ws k (plain l)) (one_none ws (plain out))))

pub other-kinds-apart : OtherKindsApart
other-kinds-apart ws l = onto-plain ws [] l
