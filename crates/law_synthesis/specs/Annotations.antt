-- Intersection and difference: into which three sets the data of two annotations falls.
use Rattle.std.specs.Prelude.{false, not, List, [], ◌∷◌, ◌≡◌, refl, ℕ, eqb}
use Rattle.std.proofs.Common.{inl, inr, ⊎_elim, sym, ap, subst, eq-eqb, eqb-true}
use Rattle.std.proofs.Math.Option.{none, some}
use Rattle.lists.specs.Lists.{null}
use Rattle.lists.specs.Tests.{by, never, not_so}
use Rattle.definitions.specs.Records.{AssociatedResource, make_list, associate, nest_associate, alias, inherit, derive, no_derive, AnnotationInfo}
use Rattle.definitions.specs.Checks.{kind_of}
use Rattle.definitions.specs.Annotations.{has_associated_word, shared, less, some_if, overlap_of, same_alias, intersection, difference}
use Rattle.law_synthesis.specs.Statements.{resources_in, ThreeSets, Parted, by_word, equal, apart, EachPairParts}
use Rattle.law_synthesis.specs.Entries.{gives-word, doms-is, less-word, shared-word, less-dom, shared-dom}

-- ---- two lists of resources

three-sets : (us vs : List AssociatedResource) → ThreeSets us vs (less us vs) (shared us vs) (less vs us)
three-sets us vs = record {
  left_shared = λ r p q. never ((shared-word us vs r).0 q).1 ((less-word us vs r).0 p).1;
  left_right = λ r p q. never ((less-word vs us r).0 q).0 ((less-word us vs r).0 p).1;
  shared_right = λ r p q. never ((shared-word us vs r).0 p).0 ((less-word vs us r).0 q).1;
  words = λ r. (
    λ c.
        ⊎_elim
        (λ p. by (has_associated_word vs r) (λ q. inr (inl ((shared-word us vs r).1 (p, q)))) (λ q. inl ((less-word us vs r).1 (p, q))))
        (λ q. by (has_associated_word us r) (λ p. inr (inl ((shared-word us vs r).1 (p, q)))) (λ p. inr (inr ((less-word vs us r).1 (q, p)))))
        c,
    λ c.
        ⊎_elim (λ p. inl ((less-word us vs r).0 p).0)
        (λ c. ⊎_elim (λ p. inl ((shared-word us vs r).0 p).0) (λ p. inr ((less-word vs us r).0 p).0) c) c,
  );
  doms = λ r d. (
    λ c.
        ⊎_elim
        (λ i.
        let g = (doms-is us r d).0 i in
        by (has_associated_word vs r)
        (λ q. inr (inl ((doms-is (shared us vs) r d).1 ((shared-dom us vs r d).1 (inl g, gives-word g, q)))))
        (λ q. inl ((doms-is (less us vs) r d).1 ((less-dom us vs r d).1 (g, q)))))
        (λ i.
        let g = (doms-is vs r d).0 i in
        by (has_associated_word us r)
        (λ p. inr (inl ((doms-is (shared us vs) r d).1 ((shared-dom us vs r d).1 (inr g, p, gives-word g)))))
        (λ p. inr (inr ((doms-is (less vs us) r d).1 ((less-dom vs us r d).1 (g, p))))))
        c,
    λ c.
        ⊎_elim (λ i. inl ((doms-is us r d).1 ((less-dom us vs r d).0 ((doms-is (less us vs) r d).0 i)).0))
        (λ c.
        ⊎_elim
        (λ i.
        ⊎_elim (λ g. inl ((doms-is us r d).1 g)) (λ g. inr ((doms-is vs r d).1 g)) ((shared-dom us vs r d).0 ((doms-is (shared us vs) r d).0 i)).0)
        (λ i. inr ((doms-is vs r d).1 ((less-dom vs us r d).0 ((doms-is (less vs us) r d).0 i)).0))
        c)
        c,
  );
}

-- ---- two annotations

-- an associate without resources is none (FORMAT 8.8), which has no resources either
some-associate : (us : List AssociatedResource) → resources_in (some_if (not (null us)) (associate us)) ≡ us
some-associate [] = refl
some-associate (u ∷ us) = refl

some-nest : (us : List AssociatedResource) → resources_in (some_if (not (null us)) (nest_associate us)) ≡ us
some-nest [] = refl
some-nest (u ∷ us) = refl

three-of : (us vs : List AssociatedResource) {left both right : List AssociatedResource} → left ≡ less us vs → both ≡ shared us vs → right ≡ less vs us
    → ThreeSets us vs left both right
three-of us vs {left} {both} {right} p q s =
    subst (λ l. ThreeSets us vs l both right) (sym p)
    (subst (λ b. ThreeSets us vs (less us vs) b right) (sym q) (subst (ThreeSets us vs (less us vs) (shared us vs)) (sym s) (three-sets us vs)))

both-associate : (us vs : List AssociatedResource) → Parted (associate us) (associate vs)
unfolding intersection difference overlap_of
both-associate us vs =
    by_word us vs (inl (refl, refl)) (three-of us vs (some-associate (less us vs)) (some-associate (shared us vs)) (some-associate (less vs us)))

both-nest : (us vs : List AssociatedResource) → Parted (nest_associate us) (nest_associate vs)
unfolding intersection difference overlap_of
both-nest us vs = by_word us vs (inr (refl, refl)) (three-of us vs (some-nest (less us vs)) (some-nest (shared us vs)) (some-nest (less vs us)))

both-alias : (w v : ℕ) → Parted (alias w) (alias v)
unfolding intersection difference overlap_of same_alias
both-alias w v =
    by (eqb w v)
    (λ e.
    let q = eqb-true w v e in
    equal (ap alias q) (rw e) (rw e) (rw (eq-eqb v w (sym q))))
    (λ e.
    apart (rw e) (rw e) (rw (not_so (λ f. never (eq-eqb w v (sym (eqb-true v w f))) e)))
    (λ q. never (eq-eqb w v (ap word_of q)) e))
  where
    word_of : AnnotationInfo → ℕ
    word_of a = elim a [ make_list ↦ w | associate us ↦ w | nest_associate us ↦ w | alias x ↦ x | inherit ns ↦ w | derive t ↦ w | no_derive ↦ w ]

unlike : (a b : AnnotationInfo) → eqb (kind_of a) (kind_of b) ≡ false → intersection a b ≡ none → difference a b ≡ some a → difference b a ≡ some b → Parted a b
unlike a b k p q r = apart p q r (λ e. never (eq-eqb (kind_of a) (kind_of b) (ap kind_of e)) k)

pub parted : EachPairParts
unfolding intersection difference overlap_of same_alias
parted make_list make_list = equal refl refl refl refl
parted make_list (associate vs) = unlike make_list (associate vs) refl refl refl refl
parted make_list (nest_associate vs) = unlike make_list (nest_associate vs) refl refl refl refl
parted make_list (alias v) = unlike make_list (alias v) refl refl refl refl
parted make_list (inherit ms) = unlike make_list (inherit ms) refl refl refl refl
parted make_list (derive t') = unlike make_list (derive t') refl refl refl refl
parted make_list no_derive = unlike make_list no_derive refl refl refl refl
parted (associate us) make_list = unlike (associate us) make_list refl refl refl refl
parted (associate us) (associate vs) = both-associate us vs
parted (associate us) (nest_associate vs) = unlike (associate us) (nest_associate vs) refl refl refl refl
parted (associate us) (alias v) = unlike (associate us) (alias v) refl refl refl refl
parted (associate us) (inherit ms) = unlike (associate us) (inherit ms) refl refl refl refl
parted (associate us) (derive t') = unlike (associate us) (derive t') refl refl refl refl
parted (associate us) no_derive = unlike (associate us) no_derive refl refl refl refl
parted (nest_associate us) make_list = unlike (nest_associate us) make_list refl refl refl refl
parted (nest_associate us) (associate vs) = unlike (nest_associate us) (associate vs) refl refl refl refl
parted (nest_associate us) (nest_associate vs) = both-nest us vs
parted (nest_associate us) (alias v) = unlike (nest_associate us) (alias v) refl refl refl refl
parted (nest_associate us) (inherit ms) = unlike (nest_associate us) (inherit ms) refl refl refl refl
parted (nest_associate us) (derive t') = unlike (nest_associate us) (derive t') refl refl refl refl
parted (nest_associate us) no_derive = unlike (nest_associate us) no_derive refl refl refl refl
parted (alias w) make_list = unlike (alias w) make_list refl refl refl refl
parted (alias w) (associate vs) = unlike (alias w) (associate vs) refl refl refl refl
parted (alias w) (nest_associate vs) = unlike (alias w) (nest_associate vs) refl refl refl refl
parted (alias w) (alias v) = both-alias w v
parted (alias w) (inherit ms) = unlike (alias w) (inherit ms) refl refl refl refl
parted (alias w) (derive t') = unlike (alias w) (derive t') refl refl refl refl
parted (alias w) no_derive = unlike (alias w) no_derive refl refl refl refl
parted (inherit ns) make_list = unlike (inherit ns) make_list refl refl refl refl
parted (inherit ns) (associate vs) = unlike (inherit ns) (associate vs) refl refl refl refl
parted (inherit ns) (nest_associate vs) = unlike (inherit ns) (nest_associate vs) refl refl refl refl
parted (inherit ns) (alias v) = unlike (inherit ns) (alias v) refl refl refl refl
parted (inherit ns) (inherit ms) = apart refl refl refl (λ e. inl refl)
parted (inherit ns) (derive t') = unlike (inherit ns) (derive t') refl refl refl refl
parted (inherit ns) no_derive = unlike (inherit ns) no_derive refl refl refl refl
parted (derive t) make_list = unlike (derive t) make_list refl refl refl refl
parted (derive t) (associate vs) = unlike (derive t) (associate vs) refl refl refl refl
parted (derive t) (nest_associate vs) = unlike (derive t) (nest_associate vs) refl refl refl refl
parted (derive t) (alias v) = unlike (derive t) (alias v) refl refl refl refl
parted (derive t) (inherit ms) = unlike (derive t) (inherit ms) refl refl refl refl
parted (derive t) (derive t') = apart refl refl refl (λ e. inr refl)
parted (derive t) no_derive = unlike (derive t) no_derive refl refl refl refl
parted no_derive make_list = unlike no_derive make_list refl refl refl refl
parted no_derive (associate vs) = unlike no_derive (associate vs) refl refl refl refl
parted no_derive (nest_associate vs) = unlike no_derive (nest_associate vs) refl refl refl refl
parted no_derive (alias v) = unlike no_derive (alias v) refl refl refl refl
parted no_derive (inherit ms) = unlike no_derive (inherit ms) refl refl refl refl
parted no_derive (derive t') = unlike no_derive (derive t') refl refl refl refl
parted no_derive no_derive = equal refl refl refl refl
