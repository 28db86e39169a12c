-- Sets as numbers: `&` and `|` are `both` and `or`, a set that meets another is a number that is not 0, and the members are the bits, ascending.
use Rattle.std.proofs.Math.Bool.{true, not, and-false}
use Rattle.std.specs.Prelude.{false, ◌&&◌, ◌||◌, ◌≡◌, ℕ, suc, ◌^◌, ◌≤◌, ◌<◌, eqb, ltb, get_or}
use mathlib.Core.List.Memᴰ
use mathlib.Core.List.{List, [], ◌∷◌, map}
use Rattle.std.proofs.Math.Path.{sym, ap, ap₂}
use Rattle.std.proofs.Common.{◌∙◌, arith}
use borrow.Author.Tests.{eqb-true, eqb-false, ltb-true, ltb-false, eq-eqb}
use Rattle.std.specs.Int.Bits.{bit_and, bit_or}
use Rattle.std.proofs.lemmas.Nat.{and_le_r}
use Rattle.std.proofs.Math.ListN.{length}
use Rattle.lists.specs.Lists.{In, filter}
use Rattle.lists.specs.Tests.{by, never, not_so, cons-elim, any-in, any_of}
use Rattle.lists.specs.Places.{get_d-in}
use Rattle.definitions.specs.Map.{LineMap}
use Rattle.rows.specs.Rows.{has_bit}
use Rattle.rows.specs.RowLaws.{bit-either, bit-none}
use Rattle.order_form.specs.Lists.{tab-get_d, below, below-same, filter-below, map_below}
pub use Rattle.bitsets.specs.BitLaws.{bit-both, some-bit}
use Rattle.law_classes.specs.Sets.{Set, both, some, no_type, type_at, SetIs}

-- a member of a list has a place
pub place-of : {A : Type 0} (d x : A) (l : List A) → In x l → (i : ℕ) × (i < length l) × (get_or l i d ≡ x)
place-of d x [] i = absurd (Memᴰ.not-nil i)
place-of d x (y ∷ l) i = cons-elim i (λ e. (0, omega arith, sym e)) (λ j. let r = place-of d x l j in (suc r.0, omega (arith, r.1), r.2))

-- ---- sets

-- a number of the map's types: 64 bits, none past the last type
pub record Fits (m : LineMap) (row : ℕ) : Type 0 where
  pub most : row < 2 ^ 64
  pub within : (a : ℕ) → length m.types ≤ a → has_bit row a ≡ false

-- what meets a mask fits where the mask does: no other number need be known to have no bit past the last type
pub fits_both : (m : LineMap) (x y : ℕ) → Fits m y → Fits m (bit_and x y)
fits_both m x y f = record { most = omega (arith, f.most, and_le_r x y); within = λ a h. bit-both x y a ∙ rw (f.within a h) (and-false (has_bit x a)) }

module _ (m : LineMap) where
  pub holds-both : (a b : ℕ) (S R : Set) → SetIs m a S → SetIs m b R → SetIs m (bit_and a b) (both S R)
  holds-both a b S R p q k h = bit-both a b k ∙ ap₂ (λ x y. x && y) (p k h) (q k h)

  pub holds-either : (a b : ℕ) (S R : Set) → SetIs m a S → SetIs m b R → SetIs m (bit_or a b) (λ D. S D || R D)
  holds-either a b S R p q k h = bit-either a b k ∙ ap₂ (λ x y. x || y) (p k h) (q k h)

  -- the types by their places
  pub types-at : m.types ≡ map (type_at m) (below (λ t. true) (length m.types))
  types-at = sym (tab-get_d m.types no_type) ∙ sym (map_below (type_at m) (length m.types))

  -- the members are the bits, ascending
  pub holds-members : (row : ℕ) (S : Set) → SetIs m row S → filter S m.types ≡ map (type_at m) (below (has_bit row) (length m.types))
  holds-members row S h =
      ap (filter S) types-at
      ∙ filter-below S (type_at m) (λ t. true) (length m.types)
      ∙ ap (map (type_at m)) (below-same (λ a. true && S (type_at m a)) (has_bit row) (length m.types) (λ a k. sym (h a k)))

  -- a set has a member exactly if its number is not 0
  pub holds-some : (row : ℕ) (S : Set) → Fits m row → SetIs m row S → some m S ≡ not (eqb row 0)
  unfolding has_bit
  holds-some row S f h =
      by (eqb row 0)
      (λ e.
      rw e
      (not_so (λ q.
      let x = any_of S m.types q in
      let p = place-of no_type x.0 m.types x.1 in
      never (h p.0 p.1 ∙ ap S p.2 ∙ x.2) (ap (λ (n : ℕ). has_bit n p.0) (eqb-true row 0 e) ∙ bit-none p.0))))
      (λ e.
      let b = some-bit 64 row f.most (eqb-false row 0 e) in
      let t : has_bit row b.0 ≡ true = eq-eqb _ _ b.2 in
      by (ltb b.0 (length m.types))
      (λ l. let k = ltb-true _ _ l in rw e (any-in S (get_d-in m.types no_type b.0 k) (sym (h b.0 k) ∙ t)))
      (λ l. never t (f.within b.0 (ltb-false _ _ l))))
