-- How many entries a type inherits and hands on.
use Rattle.std.proofs.Math.Bool.{Bool}
use Rattle.std.specs.Prelude.{◌||◌}
use mathlib.Core.List.{List, [], ◌∷◌, map}
use Rattle.std.proofs.Common.{⊎_elim, subst, ltb-true}
use Rattle.std.proofs.Math.Option.{none}
use Rattle.std.proofs.Math.Path.{ap}
use Prim.Native.Nat.{ℕ, zero, suc, ◌+◌, ◌≤◌, ◌<◌, zero-le}
use native.Mathlib.Omega.{arith}
use Rattle.std.proofs.Math.Dec.{eqb}
use Rattle.std.proofs.Math.ListN.{length, length-append, length-map}
use Rattle.lists.specs.Lists.{In, filter, each}
use Rattle.lists.specs.Tests.{each_of}
use Rattle.lists.specs.Sorting.{sorted-imp, perm-length, sort-perm, set-sorted}
use Rattle.definitions.specs.Records.{AssociatedResource, AnnotationInfo, TypeInfo, Sheet}
use Rattle.definitions.specs.Checks.{kind_of, resources_of}
use Rattle.definitions.specs.Map.{TypeMap, type_map_of}
use Rattle.definitions.specs.Annotations.{info_of, annotation_before}
use Rattle.definitions.specs.Inherited.{own_associates, handed_on}
use Rattle.definitions.specs.Synthesis.{listed_parents}
use Rattle.definitions.specs.Lines.{Associates, Passes}
use Rattle.lists.specs.Members.{filter-short, rising-short}
use Rattle.lists.specs.Strict.{number-strict}
use Rattle.law_lines.specs.Within.{Within}
use Rattle.law_lines.specs.Bounds.{gives-within}
use Rattle.law_orders.specs.Rounds.{ancestor-type}
use Rattle.law_synthesis.specs.Statements.{Ordered, inherited_by, EntriesAtMost}
use Rattle.law_synthesis.specs.Entries.{Entry, entry, as_inherited, merged}
use Rattle.law_synthesis.specs.Merged.{words_from, words_of, merged-few}
use Rattle.law_synthesis.specs.Handed.{own_hands, hands_of, hands-is, hands-of, listed-is}
use Rattle.law_synthesis.specs.Visited.{whole}
use Rattle.law_synthesis.specs.Jobs.{left, whole_is}

-- words below n that ascend are at most n
words-few : (l : List Entry) (n : ℕ) → ((r : ℕ) → In r (words_from l) → r < n) → length (words_from l) ≤ n
words-few l n h =
    let ws = each (λ (e : Entry). map (λ (u : AssociatedResource). u.word) e.uses) l in
    omega (arith, rising-short (words_from l) zero n zero-le (sorted-imp (words_from l) (λ r q i j p. ltb-true r q p) (set-sorted number-strict ws)) (λ r i. (zero-le, h r i)))

module _ (s : Sheet) (o : Ordered s) (in' : Within s) where
  abbrev m : TypeMap
  m = type_map_of s

  associates-below : {A : TypeInfo} {r : ℕ} → In A s.types → Associates A r → r < length s.words
  associates-below i h = subst (λ w. w < length s.words) h.word (gives-within s o.readable in' i h.gives).word

  passes-below : {P : TypeInfo} {r : ℕ} → In P s.types → Passes s P r → r < length s.words
  passes-below i c = ⊎_elim (associates-below i) (λ h. associates-below (ancestor-type h.above) h.associates) c

  -- what is left of what all parents hand on, however deep
  merged-below : (k : ℕ) (T : TypeInfo) → length (merged (type_map_of s).words (each (hands_of k m) (listed_parents m T))) ≤ length s.words
  merged-below k T =
      let l = each (hands_of k m) (listed_parents m T) in
      let w =
      words-few l (length s.words) (λ r i.
      let x = words_of l r i in
      let y = each_of (hands_of k m) (listed_parents m T) x.listed in
      passes-below ((listed-is s T y.0).0 y.1).declared (hands-of s k y.0 r none (record { entry = x.entry; listed = y.2; says = x.says }))) in
      omega (arith, merged-few (type_map_of s).words l, in'.least)

  own-few : (T : TypeInfo) → In T s.types → length (own_hands T) ≤ 12
  unfolding own_associates
  own-few T i =
      let f : AnnotationInfo → Bool = λ a. eqb (kind_of a) 1 || eqb (kind_of a) 2 in
      let l = map info_of T.annotations in
      omega (
        arith,
        length-map (own_associates T) (λ (a : AnnotationInfo). entry (resources_of a) (T.name ∷ [])),
        perm-length (sort-perm annotation_before (filter f l)),
        filter-short f l,
        length-map T.annotations info_of,
        (in'.type T i).annotations,
      )

  hands-few : (k : ℕ) (T : TypeInfo) → In T s.types → length (hands_of k m T) ≤ 12 + length s.words
  unfolding hands_of
  hands-few zero T i = zero-le
  hands-few (suc k) T i =
      let l = merged (type_map_of s).words (each (hands_of k m) (listed_parents m T)) in
      let f : Entry → Entry = λ e. entry e.uses (T.name ∷ []) in
      omega (arith, length-append (own_hands T) (map f l), own-few T i, length-map l f, merged-below k T)

  inherits-few : (T : TypeInfo) → length (inherited_by m T) ≤ length s.words
  unfolding whole
  inherits-few T =
      let l = left s o.readable o.order T in
      omega (arith, ap length (whole_is s o.readable o.order T), length-map l as_inherited, merged-below (length m.types) T)

pub entries-at-most : EntriesAtMost
unfolding handed_on
entries-at-most s o in' T i =
    let k = length (type_map_of s).types in
    let l = hands_of k (type_map_of s) T in
    (inherits-few s o in' T, omega (arith, ap length (hands-is k (type_map_of s) T), length-map l as_inherited, hands-few s o in' k T i))
