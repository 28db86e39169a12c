-- Marks as bits, walked class by class.
use Rattle.std.specs.Prelude.{Bool, List, ◌∷◌, ◌++◌, Some, None, ◌≡◌, ℕ, zero, suc, ◌+◌, ◌*◌, ◌-◌, ◌≤◌, ◌<◌, eqb, length}
use Rattle.std.proofs.Math.Bool.{false}
use Rattle.std.proofs.Math.Path.{sym, ap}
use Rattle.std.proofs.Common.{◌∙◌, arith, lt-ltb, le-ltb, length-append, get_or-append-add}
use Rattle.std.proofs.Math.ListN.{get_or, get_or-append}
use Rattle.lists.specs.Lists.{each}
use Rattle.lists.specs.Tests.{by}
use Rattle.rows.specs.declared.Row.{Row}
use Rattle.rows.specs.Rows.{has, has_bit}
use Rattle.rows.specs.RowLaws.{bit_is}
use Rattle.rows.specs.Lists.{between, below}
use Rattle.definitions.specs.Bits.{odd, to_bits}
use Rattle.bits.specs.NumberLaws.{length-to_bits}
use Rattle.catalogue.specs.Layout.{marks_at, mark_width}
use Rattle.catalogue.specs.declared.Catalogue.{Catalogue}
use Rattle.synth_classes.specs.Classes.{place_if, place_in}
use Rattle.synth_classes.specs.ClassLaws.{place-some, place-none}
use Rattle.synth_same.specs.Same.{width_at, bits_at, bits_in}

-- so many numbers are no more
few-between : (f : ℕ → Bool) (i n : ℕ) → length (between f i n) ≤ n
unfolding between
few-between f i zero = omega arith
few-between f i (suc n) = let e = few-between f (suc i) n in by (f i) (λ q. rw q (omega (arith, e))) (λ q. rw q (omega (arith, e)))

-- ---- one class

pub width-there : (t : Catalogue) (p : ℕ) → p < 64 → mark_width t p ≡ width_at t p
unfolding width_at
width-there t p h = rw (lt-ltb p 64 h)

pub width-none : (t : Catalogue) (p : ℕ) → 64 ≤ p → 0 ≡ width_at t p
unfolding width_at
width-none t p h = rw (le-ltb p 64 h)

-- what a place tells of the width
pub width-some : (t : Catalogue) (word k p w : ℕ) → place_if (place_in t word k) ≡ Some p → w ≡ mark_width t p → w ≡ width_at t (place_in t word k)
width-some t word k p w e h = let z = place-some _ p e in h ∙ width-there t p z.1 ∙ ap (width_at t) (sym z.0)

pub width-no : (t : Catalogue) (word k : ℕ) → place_if (place_in t word k) ≡ None → 0 ≡ width_at t (place_in t word k)
width-no t word k e = width-none t (place_in t word k) (place-none _ e)

bits-long : (t : Catalogue) (p : ℕ) → length (bits_at t p) ≡ width_at t p
unfolding bits_at
bits-long t p = length-to_bits (width_at t p) (marks_at t p)

-- a bit of a number
number_bit : (w v j : ℕ) → j < w → get_or (to_bits w v) j false ≡ has_bit v (w - 1 - j)
unfolding to_bits odd has_bit
number_bit zero v j h = absurd (omega arith)
number_bit (suc w) v zero h =
    let e : suc w - 1 - 0 ≡ w = omega arith in
    rw e (ap (λ (x : ℕ). eqb x 1) (sym (bit_is v w)))
number_bit (suc w) v (suc j) h =
    let e : suc w - 1 - suc j ≡ w - 1 - j = omega arith in
    rw e (number_bit w v j (omega arith))

-- a bit of a class that has as many
bit-there : (t : Catalogue) (word k p w i : ℕ) → place_if (place_in t word k) ≡ Some p → w ≡ width_at t (place_in t word k) → i < w
    → has_bit (marks_at t p) (w - 1 - i) ≡ get_or (bits_at t (place_in t word k)) i false
unfolding bits_at
bit-there t word k p w i e h l =
    let z = place-some _ p e in
    rw (← z.0, h) (sym (number_bit (width_at t (place_in t word k)) (marks_at t (place_in t word k)) i (omega (arith, h))))

-- ---- the classes in turn

module _ (t : Catalogue) (doms : Row) (word : ℕ) where
  abbrev b : ℕ → List Bool
  b k = bits_at t (place_in t word k)

  -- n bits stand before the doms that are left
  pub record Counting (left : List ℕ) (n : ℕ) : Type 0 where
    pub total : n + length (each b left) ≡ length (bits_in t doms word)
    pub room : n + 64 * length left ≤ 12864

  pub counting-start : (left : List ℕ) → left ≡ below (has doms) 201 → Counting left 0
  unfolding bits_in
  counting-start left e = record { total = omega (arith, ap (λ l. length (each b l)) e); room = omega (arith, ap length e, few-between (has doms) 0 201) }

  pub counting-next : (left rest : List ℕ) (k n w : ℕ) → left ≡ k ∷ rest → w ≡ width_at t (place_in t word k) → w < 64 → Counting left n → Counting rest (n + w)
  counting-next left rest k n w h e l c =
      record {
        total = omega (arith, c.total, ap (λ z. length (each b z)) h, length-append (b k) (each b rest), bits-long t (place_in t word k), e);
        room = omega (arith, c.room, ap length h);
      }

  -- a class that is not declared has none
  pub counting-same : (left rest : List ℕ) (k n : ℕ) → left ≡ k ∷ rest → 0 ≡ width_at t (place_in t word k) → Counting left n → Counting rest n
  counting-same left rest k n h e c = let q : n + 0 ≡ n = omega arith in rw q at (counting-next left rest k n 0 h e (omega arith) c)

  -- the bit i is the bit `at` of the doms that are left
  pub record Seeking (i : ℕ) (left : List ℕ) (at : ℕ) : Type 0 where
    pub bit : get_or (each b left) at false ≡ get_or (bits_in t doms word) i false

  pub seeking-start : (i : ℕ) (left : List ℕ) → left ≡ below (has doms) 201 → Seeking i left i
  unfolding bits_in
  seeking-start i left e = record { bit = ap (λ l. get_or (each b l) i false) e }

  pub seeking-next : (i : ℕ) (left rest : List ℕ) (k at w : ℕ) → left ≡ k ∷ rest → w ≡ width_at t (place_in t word k) → w ≤ at → Seeking i left at → Seeking i rest (at - w)
  seeking-next i left rest k at w h e l c =
      let n = bits-long t (place_in t word k) in
      let z : length (b k) + (at - w) ≡ at = omega (arith, n, e) in
      record {
        bit =
            sym (get_or-append-add (b k) (each b rest) (at - w) false)
            ∙ ap (λ (y : ℕ). get_or (b k ++ each b rest) y false) z
            ∙ ap (λ l. get_or (each b l) at false) (sym h)
            ∙ c.bit;
      }

  pub seeking-same : (i : ℕ) (left rest : List ℕ) (k at : ℕ) → left ≡ k ∷ rest → 0 ≡ width_at t (place_in t word k) → Seeking i left at → Seeking i rest at
  seeking-same i left rest k at h e c = let q : at - 0 ≡ at = omega arith in rw q at (seeking-next i left rest k at 0 h e (omega arith) c)

  pub seeking-found : (i : ℕ) (left rest : List ℕ) (k at p w : ℕ) → left ≡ k ∷ rest → place_if (place_in t word k) ≡ Some p → w ≡ width_at t (place_in t word k) → at < w
      → Seeking i left at → has_bit (marks_at t p) (w - 1 - at) ≡ get_or (bits_in t doms word) i false
  seeking-found i left rest k at p w h q e l c =
      let n = bits-long t (place_in t word k) in
      bit-there t word k p w at q e l
      ∙ sym (get_or-append (b k) (each b rest) false at (omega (arith, n, e)))
      ∙ ap (λ l. get_or (each b l) at false) (sym h)
      ∙ c.bit
