-- What the code's trail says of the trail of the visit.
use Rattle.std.specs.Prelude.{Bool, true, false, List, ◌≡◌, ℕ, ◌<◌, length, get_or}
use Rattle.lists.specs.Lists.{In}
use Rattle.definitions.specs.Map.{TypeMap}
use Rattle.law_visit.specs.Trail.{Reached, trail}
use Rattle.rows.specs.Rows.{has_bit}
use Rattle.order_form.specs.Lists.{tab, elem}
use Rattle.order_form.specs.Reading.{how_many, listed, type_at, Reads}
use Rattle.order_form.specs.declared.Parent.{Parent}
use Rattle.order_form.specs.Rounds.{final, lists_self}
use Rattle.order_form.specs.declared.Parents.{Parents}
use Rattle.synth_visiting.specs.declared.Arrival.{Arrival}
use Rattle.synth_visiting.specs.declared.Trail.{Trail}

-- the types of p have an order
pub record Orderly (p : Parents) : Type 0 where
  pub whole : length (final p) ≡ p.count
  pub no_self : lists_self p ≡ false

-- what stands past the end of the array
abbrev pub zero_arrival : Arrival
zero_arrival = record { place = 0; fresh = 0 }

-- the place at i, and for each of its listings whether it was the first to reach that parent
abbrev pub item_at : Trail → ℕ → ℕ
item_at r i = (get_or r.arrivals.items i zero_arrival).place

abbrev pub fresh_at : Parents → Trail → ℕ → List Bool
fresh_at p r i = tab (has_bit (get_or r.arrivals.items i zero_arrival).fresh) (how_many p (item_at r i))

abbrev pub reached_at : Parents → TypeMap → Trail → ℕ → Reached
reached_at p m r i = record { type = type_at m (item_at r i); fresh = fresh_at p r i }

-- every type is reached once, its parents before it; and in this order, with these flags, the visit reaches the types of
-- every map that p reads
pub record TrailOf (p : Parents) (r : Trail) : Type 0 where
  pub count : r.arrivals.count ≡ p.count
  pub below : (i : ℕ) → i < r.arrivals.count → item_at r i < p.count
  pub once : (i : ℕ) → i < r.arrivals.count → elem (item_at r i) (tab (item_at r) i) ≡ false
  pub ready : (i : ℕ) → i < r.arrivals.count → (q : Parent) → In q (listed p (item_at r i)) → elem q.place (tab (item_at r) i) ≡ true
  pub whole : (t : ℕ) → t < p.count → elem t (tab (item_at r) r.arrivals.count) ≡ true
  pub reached : (m : TypeMap) → Reads p m → trail m ≡ tab (reached_at p m r) r.arrivals.count
