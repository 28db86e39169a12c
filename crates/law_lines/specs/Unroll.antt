-- What T has from above is what its parents have, themselves or from above.
use Rattle.std.specs.Prelude.{Bool, true, List, ◌∷◌, map, ◌⊎◌, ◌↔◌, ◌≡◌, refl, ℕ}
use mathlib.Core.List.Memᴰ
use Rattle.std.proofs.Common.{inl, inr, ⊎_elim, sym, ◌∙◌, subst}
use Rattle.lists.specs.Lists.{In, any, each, set_of}
use Rattle.lists.specs.Tests.{same_test, cons-elim, any-in, any_of, each_in, each_of}
use Rattle.lists.specs.Strict.{asymmetric}
use Rattle.lists.specs.Sorting.{Ascending, sorted-unique, set_is, set-sorted}
use Rattle.definitions.specs.Records.{Dom, Resource, TypeInfo, Sheet}
use Rattle.definitions.specs.Comparisons.{dom_before}
use Rattle.definitions.specs.Map.{LineType, line_type_of}
use Rattle.definitions.specs.Items.{given, of_word, parents_of, ancestors, doms_above}
use Rattle.definitions.specs.Ancestry.{Ancestor, direct, further}
use Rattle.law_orders.specs.Comparisons.{dom-strict}
use Rattle.law_lines.specs.Statements.{Readable, line_map, AncestorsUnroll, TestsUnroll, DomsUnroll}
use Rattle.law_lines.specs.Ancestors.{ancestor-in, ancestor-of, parents-are}
use Rattle.law_lines.specs.Associating.{word-is}

module _ (s : Sheet) (T : TypeInfo) where
  abbrev Above : LineType → Type 0
  Above X = (P : LineType) × In P (parents_of (line_map s) (line_type_of T)) × ((X ≡ P) ⊎ In X (ancestors (line_map s) P))

up : {s : Sheet} {A T : TypeInfo} → Ancestor s A T → Above s T (line_type_of A)
up {s} {A} (direct {T = T} p) = (line_type_of A, (parents-are s T (line_type_of A)).1 (A, p, refl), inl refl)
up {s} {A} (further {P = P} {T = T} p a) = (line_type_of P, (parents-are s T (line_type_of P)).1 (P, p, refl), inr (ancestor-in s a))

pub ancestors-unroll : AncestorsUnroll
ancestors-unroll s ok T X = (
  λ i. let a = ancestor-of s ok T i in subst (Above s T) a.2 (up a.1),
  λ h.
      let p = (parents-are s T h.0).0 h.1 in
      ⊎_elim
      (λ e. Memᴰ.cast (e ∙ sym p.2) (ancestor-in s (direct p.1)))
      (λ i.
      let a = ancestor-of s ok p.0 (subst (λ D. In X (ancestors (line_map s) D)) (sym p.2) i) in
      Memᴰ.cast (sym a.2) (ancestor-in s (further p.1 a.1)))
      h.2,
)

-- the same, with the parent at the head of its list
above-is : (s : Sheet) → Readable s → (T : TypeInfo) (X : LineType)
    → In X (ancestors (line_map s) (line_type_of T)) ↔ ((P : LineType) × In P (parents_of (line_map s) (line_type_of T)) × In X (P ∷ ancestors (line_map s) P))
above-is s ok T X = (
  λ i. let h = (ancestors-unroll s ok T X).0 i in (h.0, h.1, ⊎_elim Memᴰ.head Memᴰ.tail h.2),
  λ h. (ancestors-unroll s ok T X).1 (h.0, h.1, cons-elim h.2 inl inr),
)

pub tests-unroll : TestsUnroll
tests-unroll s ok T f =
    let m = line_map s in
    let g : LineType → Bool = λ P. any f (P ∷ ancestors m P) in
    same_test
    (λ e.
    let x = any_of f (ancestors m (line_type_of T)) e in
    let h = (above-is s ok T x.0).0 x.1 in
    any-in g h.1 (any-in f h.2 x.2))
    (λ e.
    let x = any_of g (parents_of m (line_type_of T)) e in
    let y = any_of f (x.0 ∷ ancestors m x.0) x.2 in
    any-in f ((above-is s ok T y.0).1 (x.0, x.1, y.1)) y.2)

-- the doms of a word, from any of the types
doms-in : (As : List LineType) (r : ℕ) (d : Dom) → In d (doms_above As r) ↔ ((A : LineType) × (u : Resource) × In A As × In u (given A) × (u.word ≡ r) × (u.dom ≡ d))
unfolding doms_above
doms-in As r d =
    let f : Resource → Dom = λ u. u.dom in
    let us = of_word r (each given As) in (
      λ i.
          let x = Memᴰ.of_map f us ((set_is dom-strict (map f us) d).0 i) in
          let w = (word-is r (each given As) x.0).0 x.1 in
          let a = each_of given As w.0 in
          (a.0, x.0, a.1, a.2, w.1, x.2),
      λ h. (set_is dom-strict (map f us) d).1 (Memᴰ.cast (sym h.5) (Memᴰ.map f ((word-is r (each given As) h.1).1 (each_in given h.2 h.3, h.4)))),
    )

doms-ascend : (As : List LineType) (r : ℕ) → Ascending dom_before (doms_above As r)
unfolding doms_above
doms-ascend As r = set-sorted dom-strict (map (λ (u : Resource). u.dom) (of_word r (each given As)))

pub doms-unroll : DomsUnroll
doms-unroll s ok T r =
    let m = line_map s in
    let As = ancestors m (line_type_of T) in
    let Ps = parents_of m (line_type_of T) in
    let f : LineType → List Dom = λ P. doms_above (P ∷ ancestors m P) r in
    sorted-unique (λ d e. dom_before d e ≡ true) (asymmetric dom-strict) (doms_above As r) (set_of dom_before (each f Ps)) (doms-ascend As r) (set-sorted dom-strict (each f Ps))
    (λ d i.
    let x = (doms-in As r d).0 i in
    let h = (above-is s ok T x.0).0 x.2 in
    (set_is dom-strict (each f Ps) d).1 (each_in f h.1 ((doms-in (h.0 ∷ ancestors m h.0) r d).1 (x.0, x.1, h.2, x.3, x.4, x.5))))
    (λ d i.
    let y = each_of f Ps ((set_is dom-strict (each f Ps) d).0 i) in
    let x = (doms-in (y.0 ∷ ancestors m y.0) r d).0 y.2 in
    (doms-in As r d).1 (x.0, x.1, (above-is s ok T x.0).1 (y.0, y.1, x.2), x.3, x.4, x.5))
