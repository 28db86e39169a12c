-- What the functions of the synthesis require and ensure.
use Rattle.std.specs.Prelude.{Bool, false, List, [], ◌∷◌, ◌++◌, ◌≡◌, ℕ, ◌<◌, length, Option}
use Rattle.lists.specs.Lists.{all}
use Rattle.definitions.specs.Records.{Sheet}
use Rattle.definitions.specs.Map.{TypeMap, type_map_of}
use Rattle.definitions.specs.Inherited.{dedup}
use Rattle.rows.specs.Rows.{has_bit}
use Rattle.order_form.specs.Lists.{tab}
use Rattle.order_form.specs.Reading.{how_many, type_at}
use Rattle.order_form.specs.declared.Parents.{Parents}
use Rattle.synth_own.specs.declared.Location.{Location}
use Rattle.catalogue.specs.declared.Catalogue.{Catalogue}
use Rattle.synth_dedup.specs.declared.inherited.Inherited.{Inherited}
use Rattle.synth_dedup.specs.Reading.{inherited_of}
use Rattle.synth_map.specs.HeldMap.{HeldMap}
use Rattle.law_visit.specs.Trail.{Reached, seen_in, play_all, nothing_played}
use Rattle.synth_visiting.specs.Trails.{TrailOf}
use Rattle.synth_visiting.specs.Trails as trails
use Rattle.synth_visiting.specs.declared.Trail.{Trail}
use Rattle.synth_hearing.specs.declared.Flags.{Flags}
use Rattle.emitting.specs.declared.Writer.{Writer}
use Rattle.emitting.specs.Writing.{state, SameSlice}
use Rattle.synth_interpretation.specs.Emit.{emit}
use Rattle.synth_store.specs.declared.Saved.{Saved}
use Rattle.synth_handing.specs.Handing.{names_of, Stored, StoredParents, handed_to}
use Rattle.synthesis.specs.Going.{reached_at, Going}
use Rattle.synthesis.specs.Synthesized.{Synthesizes}
use Rattle.synthesis.specs.declared.Visit.{Visit}

-- `all` says what the bits say
pub record Flagged (p : Parents) (t : ℕ) (f : Flags) : Type 0 where
  pub whole : f.all ≡ all (λ (b : Bool). b) (tab (has_bit f.row) (how_many p t))

-- r is what type t gets from the listings with a flag; and what it inherits where all hand on stands in the store afterwards
pub record Receives (p : Parents) (bs : List Bool) (ns : List (Option Location)) (st : List Saved) (t : ℕ) (f : Flags) (after : List Saved) (r : Inherited) : Type 0 where
  pub reads : (s : Sheet) → HeldMap s bs ns p → StoredParents p (type_map_of s) st t 255
      → inherited_of (names_of (type_map_of s)) r ≡ dedup (type_map_of s).words (handed_to (type_map_of s) p t f.row)
  pub stored : (s : Sheet) → HeldMap s bs ns p → StoredParents p (type_map_of s) st t 255 → Stored (type_map_of s) after t
  pub others : (m : TypeMap) (u : ℕ) → (u ≡ t → ⊥) → Stored m st u → Stored m after u
  pub long : length after ≡ length st

-- type t can be played: its parents were
pub record Turn (tb : Catalogue) (bs : List Bool) (ns : List (Option Location)) (p : Parents) (st : List Saved) (t : ℕ) : Type 0 where
  pub sheet : Sheet
  pub so : Synthesizes sheet tb bs ns p
  pub low : t < p.count
  pub stored : StoredParents p (type_map_of sheet) st t 255

-- ok' is what succeeded, and the type was played
pub record Plays (tb : Catalogue) (bs : List Bool) (ns : List (Option Location)) (p : Parents) (st : List Saved) (w : Writer) (v : Visit) (st' : List Saved) (w' : Writer) (ok' : ℕ) : Type 0 where
  pub same : SameSlice w w'
  pub going : (s : Sheet) → Synthesizes s tb bs ns p → StoredParents p (type_map_of s) st v.place 255
      → (before : List Reached) (w₀ : Writer) → w.limit ≡ w₀.limit → Going (type_map_of s) p before w₀ w v.ok → seen_in before (type_at (type_map_of s) v.place).name ≡ false
      → Going (type_map_of s) p (before ++ (reached_at (type_map_of s) p v.place v.fresh ∷ [])) w₀ w' ok'
  pub stored : (s : Sheet) → HeldMap s bs ns p → StoredParents p (type_map_of s) st v.place 255 → Stored (type_map_of s) st' v.place
  pub others : (m : TypeMap) (u : ℕ) → (u ≡ v.place → ⊥) → Stored m st u → Stored m st' u
  pub long : length st' ≡ length st

-- all types can be played, in the order of the trail
pub record AllReady (tb : Catalogue) (bs : List Bool) (ns : List (Option Location)) (p : Parents) (w : Writer) (r : Trail) : Type 0 where
  pub sheet : Sheet
  pub so : Synthesizes sheet tb bs ns p
  pub trail : TrailOf p r

-- the first i types of the trail were played
pub record PlayedTo (tb : Catalogue) (bs : List Bool) (ns : List (Option Location)) (p : Parents) (w : Writer) (r : Trail) (i : ℕ) (st : List Saved) (w' : Writer) (ok : ℕ) : Type 0 where
  pub same : SameSlice w w'
  pub going : (s : Sheet) → Synthesizes s tb bs ns p → Going (type_map_of s) p (tab (trails.reached_at p (type_map_of s) r) i) w w' ok
  pub stored : (s : Sheet) → HeldMap s bs ns p → (j : ℕ) → j < i → Stored (type_map_of s) st (trails.item_at r j)

-- the rows of all types are written
pub record AllPlayed (tb : Catalogue) (bs : List Bool) (ns : List (Option Location)) (p : Parents) (w : Writer) (r : Trail) (w' : Writer) : Type 0 where
  pub same : SameSlice w w'
  pub emits : (s : Sheet) → Synthesizes s tb bs ns p
      → state w' ≡ emit w.limit (state w) (play_all (type_map_of s) nothing_played (tab (trails.reached_at p (type_map_of s) r) r.arrivals.count)).rows
