-- The newcomers that one parent brings are what the definitions say that it hands on.
use Rattle.std.specs.Prelude.{true, List, [], ◌∷◌, ◌++◌, map, ◌≡◌, refl, ℕ, suc, ◌<◌, ◌≤◌, ◌/◌, ◌%◌, ◌^◌, eqb, length, get_or}
use Rattle.std.proofs.Math.Bool.{or-false}
use Rattle.std.proofs.Common.{sym, ap, ◌∙◌, arith, eqb-true}
use Rattle.lists.specs.Lists.{each}
use Rattle.lists.specs.Tests.{by, never, eqb-flip}
use Rattle.lists.specs.Appending.{map-map}
use Rattle.rows.specs.Rows.{has, has_bit, single}
use Rattle.rows.specs.RowLaws.{has-single}
use Rattle.rows.specs.Lists.{elem, between-same}
use Rattle.definitions.specs.Records.{Name, TypeInfo}
use Rattle.definitions.specs.Map.{TypeMap}
use Rattle.definitions.specs.OrderRows.{type_named}
use Rattle.definitions.specs.Inherited.{InheritedAnnotation, dedup, own_associates, as_associate, under, hands_on}
use Rattle.synth_annotations.specs.Reading.{info_of}
use Rattle.synth_dedup.specs.Reading.{names_at, under'}
use Rattle.synth_inheritance.specs.declared.own.OwnAssociate.{OwnAssociate}
use Rattle.synth_inheritance.specs.Own.{handed, handed_own}
use Rattle.synth_inheritance.specs.OwnLaws.{ascending-is}

-- a row of 64 is the first part of a row of 256
low : (i k : ℕ) → i < 64 → k < 64 → has (single i) k ≡ has_bit (2 ^ i) k
unfolding has single has_bit
low i k p q =
    let a : i / 64 ≡ 0 = omega arith in
    let b : i % 64 ≡ i = omega arith in
    let c : k / 64 ≡ 0 = omega arith in
    let d : k % 64 ≡ k = omega arith in
    rw (a, b, c, d) refl

-- the row of one type
bit-one : (i k : ℕ) → i < 64 → k < 64 → has_bit (2 ^ i) k ≡ eqb k i
unfolding has_bit
bit-one i k p q = sym (low i k p q) ∙ has-single i k (omega arith) ∙ eqb-flip i k

pub names-one : (names : List Name) (i : ℕ) → i < length names → length names ≤ 64 → names_at names (2 ^ i) ≡ get_or names i [] ∷ []
unfolding names_at
names-one names i p q =
    ap (map (λ k. get_or names k []))
    (between-same (has_bit (2 ^ i)) (λ k. elem k (i ∷ [])) 0 (length names) (λ k a b. bit-one i k (omega arith) (omega arith) ∙ sym (or-false (eqb k i)))
    ∙ ascending-is (i ∷ []) (length names) refl (λ w e. alone w e))
  where
    alone : (w : ℕ) → elem w (i ∷ []) ≡ true → w < length names
    alone w e = by (eqb w i) (λ t. rw (eqb-true w i t) p) (λ t. never (rw t at e) refl)

-- `T` stands at place i, and has these own associates and this deduped list of what it inherits
pub hands_on_lem : (names : List Name) (m : TypeMap) (T : TypeInfo) (k i : ℕ) (own : List OwnAssociate) → i < length names → length names ≤ 64 → get_or names i [] ≡ T.name
    → map (λ o. info_of o.info) own ≡ own_associates T
    → map (handed_own (names_at names (2 ^ i))) own ++ map (under' (names_at names (2 ^ i))) (dedup m.words (each (λ p. each (hands_on k m) (type_named m p)) T.parents)) ≡ hands_on (suc k) m T
unfolding hands_on handed
hands_on_lem names m T k i own p q e o =
    let z : names_at names (2 ^ i) ≡ T.name ∷ [] = names-one names i p q ∙ ap (λ n. n ∷ []) e in
    rw z
    (ap (λ l. l ++ map (λ (x : InheritedAnnotation). under T.name x.annotation) (dedup m.words (each (λ p. each (hands_on k m) (type_named m p)) T.parents)))
    (sym (map-map (λ a. under T.name (as_associate a)) (λ o. info_of o.info) own) ∙ ap (map (λ a. under T.name (as_associate a))) o))
