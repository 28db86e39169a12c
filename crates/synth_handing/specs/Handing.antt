-- What the functions require and ensure: what stands in the store, and what a type inherits from its listed parents.
use Rattle.std.specs.Prelude.{Bool, true, false, List, ◌++◌, map, ◌≡◌, ℕ, ◌<◌, ◌^◌, length, get_or, Option}
use Rattle.lists.specs.Lists.{ascends}
use Rattle.rows.specs.Rows.{has_bit}
use Rattle.definitions.specs.Records.{Name, TypeInfo, Sheet}
use Rattle.definitions.specs.Comparisons.{name_before}
use Rattle.definitions.specs.Map.{TypeMap, type_map_of}
use Rattle.definitions.specs.Inherited.{InheritedAnnotation, dedup, dedup_onto, own_associates, as_associate}
use Rattle.definitions.specs.Synthesis.{listed_parents}
use Rattle.law_synthesis.specs.Statements.{inherited_by}
use Rattle.law_visit.specs.Trail.{got_from}
use Rattle.synth_dedup.specs.declared.inherited.Inherited.{Inherited}
use Rattle.synth_dedup.specs.Reading.{names_at, inherited_of, under'}
use Rattle.synth_store.specs.Store.{nothing, Holds}
use Rattle.synth_store.specs.declared.Saved.{Saved}
use Rattle.synth_own.specs.Owning.{Noted}
use Rattle.synth_own.specs.declared.Location.{Location}
use Rattle.order_form.specs.Lists.{tab}
use Rattle.order_form.specs.Reading.{parent_at, how_many, type_at}
use Rattle.order_form.specs.declared.Parents.{Parents}
use Rattle.synth_map.specs.HeldMap.{HeldMap}

-- the names of the types, in order
abbrev pub names_of : TypeMap → List Name
names_of m = map (λ (T : TypeInfo). T.name) m.types

-- ---- in the store

-- what type a inherits where all its parents hand on stands in the store
pub record Stored (m : TypeMap) (st : List Saved) (a : ℕ) : Type 0 where
  pub list : Inherited
  pub holds : Holds (get_or st a nothing) list
  pub reads : inherited_of (names_of m) list ≡ inherited_by m (type_at m a)

-- ---- one parent

-- what a type hands on, under other names than its own: its own associates, as Associates, then what it inherits (FORMAT 8.7)
abbrev pub hands_under : List Name → TypeInfo → List InheritedAnnotation → List InheritedAnnotation
hands_under ps T l = map (λ a. record { annotation = as_associate a; parents = ps }) (own_associates T) ++ map (under' ps) l

-- r is h and what the type at the place hands on, whichever type has these annotations, and whatever the names of the types
pub record Takes (h : Inherited) (bs : List Bool) (x : Option Location) (k : Saved) (place : ℕ) (r : Inherited) : Type 0 where
  pub dedup : (T : TypeInfo) → Noted bs x T.annotations → (g : Inherited) → Holds k g → (ws : List (List ℕ)) (names : List Name) → ascends (name_before ws) names ≡ true
      → inherited_of names r ≡ dedup_onto ws (inherited_of names h) (hands_under (names_at names (2 ^ place)) T (inherited_of names g))

-- likewise for a parent that counts, and nothing for one that does not
pub record TakesIf (h : Inherited) (bs : List Bool) (x : Option Location) (k : Saved) (place : ℕ) (counts : Bool) (r : Inherited) : Type 0 where
  pub taken : counts ≡ true → Takes h bs x k place r
  pub passed : counts ≡ false → r ≡ h

-- ---- all listed parents

-- the place of the parent that type t lists at i
abbrev pub place_at : Parents → ℕ → ℕ → ℕ
place_at p t i = (parent_at p t i).place

-- the parents with a flag are stored
pub record StoredParents (p : Parents) (m : TypeMap) (st : List Saved) (t flags : ℕ) : Type 0 where
  pub at : (i : ℕ) → i < how_many p t → has_bit flags i ≡ true → Stored m st (place_at p t i)

pub record Ready (p : Parents) (bs : List Bool) (ns : List (Option Location)) (st : List Saved) (t flags : ℕ) : Type 0 where
  pub sheet : Sheet
  pub held : HeldMap sheet bs ns p
  pub low : t < p.count
  pub stored : StoredParents p (type_map_of sheet) st t flags

-- what those with a flag hand on; a listing at which the call of the parent failed has none (FORMAT 8.6)
abbrev pub handed_to : TypeMap → Parents → ℕ → ℕ → List InheritedAnnotation
handed_to m p t flags = got_from m (tab (has_bit flags) (how_many p t)) (listed_parents m (type_at m t))

-- r is what type t gets from the listings with a flag, for every sheet that is held so
pub record Gathered (p : Parents) (bs : List Bool) (ns : List (Option Location)) (st : List Saved) (t flags : ℕ) (r : Inherited) : Type 0 where
  pub reads : (s : Sheet) → HeldMap s bs ns p → StoredParents p (type_map_of s) st t flags
      → inherited_of (names_of (type_map_of s)) r ≡ dedup (type_map_of s).words (handed_to (type_map_of s) p t flags)

-- r is what type t inherits where all its parents hand on. It stands in the store afterwards, and all else there is kept.
pub record KeepsIt (p : Parents) (bs : List Bool) (ns : List (Option Location)) (st : List Saved) (t : ℕ) (after : List Saved) (r : Inherited) : Type 0 where
  pub reads : (s : Sheet) → HeldMap s bs ns p → StoredParents p (type_map_of s) st t 255
      → inherited_of (names_of (type_map_of s)) r ≡ inherited_by (type_map_of s) (type_at (type_map_of s) t)
  pub stored : (s : Sheet) → HeldMap s bs ns p → StoredParents p (type_map_of s) st t 255 → Stored (type_map_of s) after t
  pub others : (m : TypeMap) (u : ℕ) → (u ≡ t → ⊥) → Stored m st u → Stored m after u
  pub long : length after ≡ length st
