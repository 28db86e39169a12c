-- The types of a word, from the sets by first and second word; and which types have two words.
use Rattle.std.specs.Prelude.{Bool, true, false, ◌&&◌, ◌||◌, [], ◌∷◌, ◌≡◌, refl, eqb, ltb}
use Rattle.std.proofs.Math.Bool.{not, and-true, and-false, or-false}
use Rattle.std.proofs.Math.Path.{sym, ap, ap₂}
use Rattle.std.proofs.Common.{◌∙◌, subst, arith}
use Prim.Native.Nat.{ℕ, ◌+◌, ◌-◌, ◌%◌, ◌≤◌, ◌<◌, min}
use borrow.Author.Tests.{ne_eqb, eqb-false, lt-ltb, le-ltb}
use Rattle.std.specs.Int.Bits.{bit_and, bit_or}
use Rattle.std.proofs.Math.ListN.{length}
use Rattle.lists.specs.Lists.{In}
use Rattle.lists.specs.Tests.{by, never}
use Rattle.lists.specs.Places.{get_d-in}
use Rattle.definitions.specs.Records.{Name, Sheet}
use Rattle.definitions.specs.Comparisons.{same_name, dotted}
use Rattle.definitions.specs.Map.{LineType, LineMap}
use Rattle.law_orders.specs.Comparisons.{same-name}
use Rattle.law_lines.specs.Statements.{Readable, line_map}
use Rattle.law_lines.specs.Within.{Within}
use Rattle.rows.specs.Rows.{has_bit}
use Rattle.bitsets.specs.BitLaws.{bit-less, bit-first}
use Rattle.law_classes.specs.Sets.{one_word, word_of, masked, no_type, type_at, SetIs}
use Rattle.law_classes.proofs.SetLaws.{Short}
use Rattle.law_classes.specs.Numbers.{Fits, fits_both, holds-both, holds-either}
use Rattle.law_classes.specs.Walks.{fits-either}
use Rattle.law_classes.proofs.ItemLaws.{plain_map, word_below}
use Rattle.catalogue.specs.Layout.{key_at, first_at, second_at}
use Rattle.catalogue.specs.Catalogue.{name_of_key, first_is, second_is, Catalogued}
use Rattle.catalogue.specs.declared.Catalogue.{Catalogue}
use Rattle.item_refusal.specs.Tests.{same_word, types_in, pairs_in}

-- a name that is T.r has two words or more
pub pair-name : (d : Name) (r : ℕ) → Short d → one_word (dotted d r) ≡ false
pair-name [] r h = never h refl
pair-name (a ∷ []) r h = refl
pair-name (a ∷ b ∷ l) r h = refl

-- the key of such a name
pair-key : (k : ℕ) → one_word (name_of_key k) ≡ false → (k % 256 ≡ 0 → ⊥) × (word_of (name_of_key k) ≡ k % 256 - 1)
unfolding name_of_key
pair-key k h =
    by (eqb (k % 256) 0)
    (λ e. never (rw e refl) h)
    (λ e. (eqb-false (k % 256) 0 e, rw e refl))

-- the last word is w: the first of one, or the second
last_word : (w : ℕ) (d : Name) → Short d → ((first_is w d && one_word d) || second_is w d) ≡ eqb (word_of d) w
unfolding first_is second_is
last_word w [] h = never h refl
last_word w (a ∷ []) h = or-false (eqb a w && true) ∙ and-true (eqb a w)
last_word w (a ∷ b ∷ l) h = ap (λ x. x || eqb b w) (and-false (eqb a w))

-- the name of D is P.r, r being its last word
abbrev pub Named : LineType → LineType → Bool
Named P D = same_name D.name (dotted P.name (word_of D.name))

-- the number of the types of a word
pub record WordSet (m : LineMap) (set r : ℕ) : Type 0 where
  pub is : SetIs m set (masked r)
  pub fits : Fits m set

module _ (s : Sheet) (ok : Readable s) (within : Within s) (t : Catalogue) (k : Catalogued s t) where
  abbrev m : LineMap
  m = line_map s

  abbrev n : ℕ
  n = length m.types

  -- a type that has an owner has two words
  pub named-pair : (P D : LineType) → In P m.types → Named P D ≡ true → one_word D.name ≡ false
  named-pair P D i e =
      let r = word_of D.name in
      ap one_word (same-name D.name (dotted P.name r) e) ∙ pair-name P.name r ((plain_map s ok within).short P i)

  -- and its word is a word of the sheet
  named-word : (P D : LineType) → In D m.types → Named P D ≡ true → word_of D.name < length s.words
  named-word P D i e =
      let r = word_of D.name in
      word_below s ok within (record { word = r; dom = P.name }) (D, i, same-name D.name (dotted P.name r) e)

  -- the set of a word below W
  word_set : (w : ℕ) → w < length s.words → WordSet m (bit_or (bit_and (first_at t w) (second_at t 0)) (second_at t (1 + w))) w
  word_set w h =
      let l = k.listed in
      let f = first_at t w in
      let z = second_at t 0 in
      let g = second_at t (1 + w) in
      record {
        is = λ a i.
            holds-either m (bit_and f z) g (λ (D : LineType). first_is w D.name && one_word D.name) (λ (D : LineType). second_is w D.name)
            (holds-both m f z (λ (D : LineType). first_is w D.name) (λ (D : LineType). one_word D.name) (l.first w h) l.none) (l.second w h) a i
            ∙ last_word w (type_at m a).name ((plain_map s ok within).short (type_at m a) (get_d-in m.types no_type a i));
        fits = fits-either m (bit_and f z) g (fits_both m f z l.none_fits) (l.second_fits w h);
      }

  -- the types of the word of a type that has an owner
  pub same-word-set : (d : ℕ) (P : LineType) → d < n → In P m.types → Named P (type_at m d) ≡ true → WordSet m (same_word t d) (word_of (type_at m d).name)
  unfolding same_word
  same-word-set d P h i e =
      let D = type_at m d in
      let key = key_at t d in
      let name : name_of_key key ≡ D.name = (k.listed.entry d h).name in
      let p = pair-key key (ap one_word name ∙ named-pair P D i e) in
      let w : key % 256 - 1 ≡ word_of D.name = sym p.1 ∙ ap word_of name in
      let q : 1 + (key % 256 - 1) ≡ key % 256 = omega (arith, p.0) in
      rw (ne_eqb (key % 256) 0 p.0)
      (subst (λ x. WordSet m (bit_or (bit_and (first_at t (key % 256 - 1)) (second_at t 0)) (second_at t x)) (word_of D.name)) q
      (subst (WordSet m (bit_or (bit_and (first_at t (key % 256 - 1)) (second_at t 0)) (second_at t (1 + (key % 256 - 1))))) w
      (word_set (key % 256 - 1) (subst (λ x. x < length s.words) (sym w) (named-word P D (get_d-in m.types no_type d h) e)))))

  -- ---- the types, and those of two words

  pub types-bit : (a : ℕ) → has_bit (types_in t) a ≡ ltb a n
  types-bit a =
      let e : min t.count 64 ≡ n = omega (arith, k.listed.count, k.listed.few) in
      bit-first t.count a ∙ ap (ltb a) e

  pub pairs-past : (a : ℕ) → n ≤ a → has_bit (pairs_in t) a ≡ false
  pairs-past a h = bit-less (types_in t) (second_at t 0) a ∙ ap (λ b. b && not (has_bit (second_at t 0) a)) (types-bit a ∙ le-ltb a n h)

  pub pairs-bit : (a : ℕ) → a < n → has_bit (pairs_in t) a ≡ not (one_word (type_at m a).name)
  pairs-bit a h = bit-less (types_in t) (second_at t 0) a ∙ ap₂ (λ x y. x && not y) (types-bit a ∙ lt-ltb a n h) (k.listed.none a h)
