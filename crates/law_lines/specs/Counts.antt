-- How much there is of one type, within the limits of a sheet that was read.
use Rattle.std.proofs.Math.Bool.{Bool, false}
use Rattle.std.specs.Prelude.{◌||◌, List, [], ◌∷◌, map, ◌≡◌, refl, ℕ, zero, suc, ◌≤◌, ◌<◌, length}
use mathlib.Core.List.Memᴰ
use Rattle.std.proofs.Common.{⊎_elim, sym, ap, ◌∙◌, subst, zero-le, eq-or-lt_of_le, le_of_suc-le-suc, not-suc-le-zero, arith, eq-eqb, eqb-true}
use Rattle.std.proofs.Math.Dec.{eqb}
use Rattle.std.proofs.lemmas.List.{length-map}
use Rattle.lists.specs.Lists.{In, Sorted, any, repeats}
use Rattle.lists.specs.Tests.{by, never, not_so, or-false-left, or-false-right, any-not}
use Rattle.lists.specs.Sorting.{sorted-imp, repeats-not}
use Rattle.lists.specs.Counting.{pigeonhole}
use Rattle.definitions.specs.Records.{Name, Dom, Resource, make_list, associate, nest_associate, alias, inherit, derive, no_derive, Annotation, TypeInfo, Sheet}
use Rattle.definitions.specs.Comparisons.{dotted}
use Rattle.definitions.specs.Checks.{resources_of, names_twice, keys_twice, words_twice, annotations_twice, something_twice}
use Rattle.definitions.specs.Map.{line_type_of}
use Rattle.definitions.specs.Making.{class_names}
use Rattle.definitions.specs.Items.{associate_of, owned, of_word, doms_above, parents_above, words_made}
use Rattle.law_orders.specs.Comparisons.{name-strict, dom-strict}
use Rattle.law_orders.specs.Rounds.{ancestor-type}
use Rattle.law_lines.specs.Within.{WordsWithin, Within}
use Rattle.lists.specs.Members.{filter_none, each-short, rising-short}
use Rattle.lists.specs.Appending.{filter-each}
use Rattle.law_lines.specs.Statements.{Readable, line_map, CountsAre}
use Rattle.law_lines.specs.Associating.{above, made-is, doms-are, names_passing, parents-above-is, parents-above-are}
use Rattle.law_lines.specs.Bounds.{own-classes-length, words-ascend, gives-within, made-below, type-items-short}

-- ---- lists

-- the numbers below n
abbrev numbers : ℕ → List ℕ
numbers zero = []
numbers (suc n) = n ∷ numbers n

numbers-length : (n : ℕ) → length (numbers n) ≡ n
numbers-length zero = refl
numbers-length (suc n) = ap suc (numbers-length n)

numbers-in : (n : ℕ) {w : ℕ} → w < n → In w (numbers n)
numbers-in zero h = absurd (not-suc-le-zero h)
numbers-in (suc n) h = ⊎_elim (λ e. Memᴰ.head e) (λ l. Memᴰ.tail (numbers-in n l)) (eq-or-lt_of_le (le_of_suc-le-suc h))

-- where no two words are equal, one resource at most has word r
one-of-word : (r : ℕ) (us : List Resource) → Sorted (λ (u v : Resource). u.word ≡ v.word → ⊥) us → length (of_word r us) ≤ 1
one-of-word r [] s = zero-le
one-of-word r (u ∷ us) s =
    by (eqb u.word r)
    (λ e.
    let n : of_word r us ≡ [] =
    filter_none (λ (u : Resource). eqb u.word r) us (λ v i. not_so (λ q. s.0 v i (eqb-true u.word r e ∙ sym (eqb-true v.word r q)))) in
    rw (e, n) (omega arith))
    (λ e. rw e (one-of-word r us s.1))

-- ---- words within an associate

module _ (s : Sheet) (ok : Readable s) where
  words-apart : {T : TypeInfo} {a : Annotation} → In T s.types → In a T.annotations → Sorted (λ (u v : Resource). u.word ≡ v.word → ⊥) (resources_of a)
  unfolding something_twice words_twice
  words-apart {T} {a} t i =
      let same : Resource → Resource → Bool = λ u v. eqb u.word v.word in
      let twice : Annotation → Bool = λ a. repeats same (resources_of a) in
      let n : words_twice s ≡ false =
      or-false-left (words_twice s) (annotations_twice s)
      (or-false-right (keys_twice s) (words_twice s || annotations_twice s)
      (or-false-right (names_twice s) (keys_twice s || (words_twice s || annotations_twice s)) ok.once)) in
      let m : twice a ≡ false = any-not twice (any-not (λ (T : TypeInfo). any twice T.annotations) n t) i in
      sorted-imp (resources_of a) (λ u v _ _ h e. never (eq-eqb u.word v.word e) h) (repeats-not same (resources_of a) m)

  own-one : (r : ℕ) (a : Annotation) → Sorted (λ (u v : Resource). u.word ≡ v.word → ⊥) (resources_of a) → length (of_word r (associate_of a)) ≤ 1
  own-one r make_list h = zero-le
  own-one r (associate rs) h = one-of-word r rs h
  own-one r (nest_associate rs) h = zero-le
  own-one r (alias w) h = zero-le
  own-one r (inherit ns) h = zero-le
  own-one r (derive t) h = zero-le
  own-one r no_derive h = zero-le

  -- each own Associate has a word once at most
  owns-short : (T : TypeInfo) → In T s.types → (r : ℕ) → length (of_word r (owned (line_type_of T))) ≤ length T.annotations
  unfolding owned line_type_of
  owns-short T t r =
      let test : Resource → Bool = λ u. eqb u.word r in
      let h = each-short (λ a. of_word r (associate_of a)) T.annotations 1 (λ a i. own-one r a (words-apart t i)) in
      rw (filter-each test associate_of T.annotations) (omega arith)

  module _ (in' : Within s) (T : TypeInfo) (t : In T s.types) where
    words-short : length (words_made (line_type_of T) (above s ok T)) ≤ 200
    words-short =
        let h = rising-short (words_made (line_type_of T) (above s ok T)) 0 (length s.words) zero-le (words-ascend (line_map s) (line_type_of T) (above s ok T))
        (λ r i. (zero-le, made-below s ok in' t ((made-is s ok T r).0 i))) in
        let k = in'.words in
        omega arith

    -- none, and each word
    doms-short : (r : ℕ) → length (doms_above (above s ok T) r) ≤ 201
    doms-short r =
        let W = length s.words in
        let ds = doms_above (above s ok T) r in
        let D = doms-are s ok T r in
        let all : List Dom = [] ∷ map (λ w. w ∷ []) (numbers W) in
        let h : length ds ≤ length all =
        pigeonhole ds all (sorted-imp ds (λ x y _ _ b e. never b (rw e (dom-strict.irreflexive y))) D.sorted) (λ d i.
        let g = (D.exactly d).0 i in
        listed d (subst (WordsWithin W 0 1) g.dom (gives-within s ok in' (ancestor-type g.above) g.gives).dom)) in
        let k = in'.words in
        omega (arith, length-map (numbers W) (λ w. w ∷ []), numbers-length W)
      where
        listed : (d : Dom) → WordsWithin (length s.words) 0 1 d → In d ([] ∷ map (λ w. w ∷ []) (numbers (length s.words)))
        listed [] h = Memᴰ.head refl
        listed (w ∷ []) h = Memᴰ.tail (Memᴰ.map (λ w. w ∷ []) (numbers-in (length s.words) (h.below w (Memᴰ.head refl))))
        listed (w ∷ v ∷ d) h = let l = h.most in absurd (omega arith)

    parents-short : (r : ℕ) → length (parents_above (line_map s) (line_type_of T) r) ≤ 8
    parents-short r =
        let ps = names_passing (line_map s) (line_type_of T) r in
        let P = parents-above-are s ok T r in
        let few : length ps ≤ length T.parents =
        pigeonhole ps T.parents (sorted-imp ps (λ x y _ _ b e. never b (rw e ((name-strict s.words).irreflexive y))) P.sorted)
        (λ p i. let x = (P.exactly p).0 i in Memᴰ.cast (sym x.3) x.1.listed) in
        let most = (in'.type T t).parents in
        let same : length (class_names ps r) ≡ length ps = length-map ps (λ (n : Name). dotted n r) in
        rw (parents-above-is (line_map s) (line_type_of T) r) (omega arith)

pub counts-are : CountsAre
counts-are s ok in' T t = record {
  words = words-short s ok in' T t;
  owns = λ r. let a = owns-short s ok T t r in let b = (in'.type T t).annotations in let c = own-classes-length (line_map s) (line_type_of T) (above s ok T) r in omega arith;
  doms = doms-short s ok in' T t;
  parents = parents-short s ok in' T t;
  items = type-items-short s ok in' T t;
}
