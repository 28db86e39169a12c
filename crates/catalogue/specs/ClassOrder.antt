-- The classes of a word are in the order that a walk by dom finds them in (FORMAT 1.6, 4.4).
use Rattle.std.specs.Prelude.{true, false, ◌≡◌, refl, ℕ, ◌-◌, ◌/◌, ◌%◌, ◌≤◌, ◌<◌, eqb, ltb, length}
use mathlib.Core.List.{[], ◌∷◌, ◌++◌, map}
use Rattle.std.proofs.Common.{sym, ap, ap₂, ◌∙◌, arith, lt-ltb, ltb-true}
use Rattle.std.proofs.lemmas.Bool.{eqb-false}
use Rattle.std.specs.Int.Bits.{bit_and}
use Rattle.lists.specs.Lists.{list_before}
use Rattle.lists.specs.Tests.{by, never}
use Rattle.lists.specs.Places.{get_d-in, sorted-places}
use Rattle.definitions.specs.Records.{Name, Dom, Sheet}
use Rattle.definitions.specs.Comparisons.{dom_before}
use Rattle.definitions.specs.Map.{LineType, LineMap}
use Rattle.law_lines.specs.Statements.{line_map}
use Rattle.bitsets.specs.Bitsets.{less}
use Rattle.law_classes.specs.Sets.{Set, both, one_word, word_of, dom_of, masked, no_type, type_at, SetIs, classes_in}
use Rattle.law_classes.specs.Numbers.{Fits}
use Rattle.law_classes.proofs.SetLaws.{Short, Plain, paired-before}
use Rattle.law_classes.proofs.ClassOrder.{one_place, Ranks, classes-ranked}
use Rattle.catalogue.specs.Layout.{key_at, second_at}
use Rattle.catalogue.specs.Catalogue.{name_of_key, Listed}
use Rattle.catalogue.specs.ByDom.{key_rank, rank, by_dom}
use Rattle.catalogue.specs.DomLaws.{rank-apart}
use Rattle.catalogue.specs.declared.Catalogue.{Catalogue}

-- the parts of a name of two words, by its key
pair-parts : (key : ℕ) (n : Name) → name_of_key key ≡ n → one_word n ≡ false → (key % 256 ≡ 0 → ⊥) × (word_of n ≡ key % 256 - 1) × (dom_of n ≡ (key / 256) ∷ [])
unfolding name_of_key
pair-parts key n e o =
    by (eqb (key % 256) 0)
    (λ z. never (sym (ap one_word (rw z at e))) o)
    (λ z. let q = rw z at e in (eqb-false (key % 256) 0 z, sym (ap word_of q), sym (ap dom_of q)))

one-before : (x y : ℕ) → x < y → dom_before (x ∷ []) (y ∷ []) ≡ true
unfolding dom_before
one-before x y h = rw (lt-ltb x y h) refl

module _ (s : Sheet) (plain : Plain (line_map s)) (t : Catalogue) (k : Listed s t) where
  abbrev m : LineMap
  m = line_map s

  abbrev n : ℕ
  n = length m.types

  abbrev name : ℕ → Name
  name a = (type_at m a).name

  short : (a : ℕ) → a < n → Short (name a)
  short a h = plain.short (type_at m a) (get_d-in m.types no_type a h)

  rising : (a b : ℕ) → a < n → b < n → word_of (name a) ≡ word_of (name b) → one_word (name a) ≡ false → one_word (name b) ≡ false → rank t a < rank t b
      → dom_before (dom_of (name a)) (dom_of (name b)) ≡ true
  unfolding rank
  rising a b h i w o p l =
      by (t.hyphens)
      (λ y.
      let less : key_rank t a < key_rank t b = rw y at l in
      let x = pair-parts (key_at t a) (name a) (k.entry a h).name o in
      let z = pair-parts (key_at t b) (name b) (k.entry b i).name p in
      by (ltb (key_at t a / 256) (key_at t b / 256))
      (λ d. ap₂ (λ (d e : Dom). dom_before d e) x.2 z.2 ∙ one-before (key_at t a / 256) (key_at t b / 256) (ltb-true _ _ d))
      (λ d.
      let second : key_at t a % 256 - 1 ≡ key_at t b % 256 - 1 = sym x.1 ∙ w ∙ z.1 in
      let first : key_at t b / 256 ≤ key_at t a / 256 = borrow.Author.Tests.ltb-false _ _ d in
      let key : key_at t a ≡ key_at t b = omega (arith, less, second, first, x.0, z.0, k.few) in
      let place = one_place m plain a b h i (sym (k.entry a h).name ∙ ap name_of_key key ∙ (k.entry b i).name) in
      absurd (omega (arith, less, ap (key_rank t) place))))
      (λ y.
      let less : a < b = rw y at l in
      paired-before (name a) (name b) (short a h) (short b i) o p w
      (sorted-places (λ (P Q : LineType). list_before P.name Q.name ≡ true) m.types no_type (k.numbered y) a b less i))

  ranks-are : Ranks m (rank t)
  ranks-are = record { apart = rank-apart t; rising = rising }

  pub classes-by-dom : (row r : ℕ) (S : Set) → Fits m row → SetIs m row (both S (masked r))
      → classes_in m (both S (masked r)) ≡ map (type_at m) (by_dom t (bit_and row (second_at t 0)) ++ by_dom t (less row (second_at t 0)))
  unfolding by_dom
  classes-by-dom row r S f h = classes-ranked m plain k.few (rank t) ranks-are S r row (second_at t 0) f h k.none
