-- The trail that the code holds, and what each of its functions does to it.
use Rattle.std.specs.Prelude.{Bool, true, false, ◌&&◌, ◌||◌, not, List, [], ◌∷◌, ◌++◌, ◌≡◌, ℕ, ◌+◌, ◌*◌, ◌%◌, ◌^◌, ◌≤◌, ◌<◌, eqb, length}
use Rattle.std.proofs.Math.Bool.{or-false, and-true, and-false}
use Rattle.std.proofs.Common.{sym, ap, ◌∙◌, subst, arith}
use Rattle.std.specs.Int.Bits.{bit_or}
use Rattle.bounded.specs.Items.{items_of}
use Rattle.rows.specs.Rows.{has_bit}
use Rattle.rows.specs.RowLaws.{bit-none, bit-one, bit-either}
use Rattle.bitsets.specs.BitLaws.{bit-more}
use Rattle.order_form.specs.Lists.{tab, tab-length, elem, map-tab}
use Rattle.order_form.specs.declared.Parents.{Parents}
use Rattle.synth_visiting.specs.Walk.{Stop, spots, walk}
use Rattle.synth_visiting.specs.Trails.{item_at, fresh_at}
use Rattle.synth_visiting.specs.Ranks.{rank_of}
use Rattle.synth_visiting.specs.Good.{Good, good_none, good-most}
use Rattle.synth_visiting.specs.declared.Trail.{Trail}

-- ---- what the functions give

-- bit i more, where t is not seen
pub record Marked (flags i seen t r : ℕ) : Type 0 where
  pub bits : (j : ℕ) → has_bit r j ≡ (has_bit flags j || (eqb i j && not (has_bit seen t)))

-- one place more, with its flags
pub record Pushed (s : Trail) (t flags : ℕ) (r : Trail) : Type 0 where
  pub items : items_of r.arrivals ≡ items_of s.arrivals ++ (record { place = t; fresh = flags } ∷ [])
  pub count : r.arrivals.count ≡ s.arrivals.count + 1
  pub seen : (x : ℕ) → has_bit r.seen x ≡ (has_bit s.seen x || eqb t x)

pub record NothingHeld (r : Trail) : Type 0 where
  pub count : r.arrivals.count ≡ 0
  pub seen : r.seen ≡ 0

-- what a set has with one number more
pub ruleset one_more = (bit-more)

pub marked_no : (flags i seen t : ℕ) → has_bit seen t ≡ true → Marked flags i seen t flags
marked_no flags i seen t e = record { bits = λ j. sym (ap (λ (b : Bool). has_bit flags j || (eqb i j && not b)) e ∙ rw (and-false, or-false)) }

-- the bit that the code sets
byte-shifted : (i : ℕ) → i < 8 → 1 * 2 ^ i % 2 ^ 8 ≡ 2 ^ i
byte-shifted i h = lib.Pow.shl_exact {a = 1} 1 i 8 (omega arith) (omega arith) ∙ native.Mathlib.Nat.one-mul (2 ^ i)

pub marked_yes : (flags i seen t : ℕ) → i < 8 → has_bit seen t ≡ false → Marked flags i seen t (bit_or flags (1 * 2 ^ i % 2 ^ 8))
marked_yes flags i seen t h e =
    record {
      bits = λ j.
          bit-either flags (1 * 2 ^ i % 2 ^ 8) j
          ∙ ap (λ (b : Bool). has_bit flags j || b) (ap (λ (n : ℕ). has_bit n j) (byte-shifted i h) ∙ bit-one i j ∙ sym (ap (λ (b : Bool). eqb i j && not b) e ∙ and-true (eqb i j)));
    }

-- ---- the trail that is held

abbrev pub stop_at : Parents → Trail → ℕ → Stop
stop_at p s i = record { place = item_at s i; fresh = fresh_at p s i }

unfoldable pub stops_in : Parents → Trail → List Stop
stops_in p s = tab (stop_at p s) s.arrivals.count

-- it keeps to the order, and the bits are those of its places
pub record Held (p : Parents) (s : Trail) : Type 0 where
  pub good : Good p (spots (stops_in p s))
  pub seen : (t : ℕ) → has_bit s.seen t ≡ elem t (spots (stops_in p s))

-- type t was tried: for every number that is past its place in the order
pub record ReachedFrom (p : Parents) (t : ℕ) (s r : Trail) : Type 0 where
  pub held : Held p r
  pub same : (k : ℕ) → rank_of p t < k → stops_in p r ≡ walk k p t (stops_in p s)

-- the places, in order
pub spots-are : (p : Parents) (s : Trail) → spots (stops_in p s) ≡ tab (item_at s) s.arrivals.count
unfolding stops_in
spots-are p s = map-tab (λ (x : Stop). x.place) (stop_at p s) s.arrivals.count

pub spots-count : (p : Parents) (s : Trail) → length (spots (stops_in p s)) ≡ s.arrivals.count
spots-count p s = ap length (spots-are p s) ∙ tab-length (item_at s) s.arrivals.count

-- there is room for a place that is not held
pub held-most : (p : Parents) (s : Trail) → Held p s → s.arrivals.count ≤ p.count
held-most p s h = omega (arith, spots-count p s, good-most p (spots (stops_in p s)) h.good)

pub held_none : (p : Parents) (r : Trail) → NothingHeld r → Held p r
unfolding stops_in
held_none p r n =
    let z : stops_in p r ≡ [] = ap (tab (stop_at p r)) n.count in
    record {
      good = subst (λ (l : List Stop). Good p (spots l)) (sym z) (good_none p);
      seen = λ t. ap (λ (b : ℕ). has_bit b t) n.seen ∙ bit-none t ∙ ap (λ (l : List Stop). elem t (spots l)) (sym z);
    }
