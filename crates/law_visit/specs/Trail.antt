-- The visit in two steps. Which types are reached, and in which order, hangs on the parents alone; what a type then gets
-- hangs on which calls failed.
use Rattle.std.specs.Prelude.{Bool, true, false, ◌&&◌, ◌||◌, not, List, [], ◌∷◌, ◌++◌, ℕ, zero, suc, length}
use Rattle.lists.specs.Lists.{any, all, null}
use Rattle.definitions.specs.Records.{Name, TypeInfo, Row}
use Rattle.definitions.specs.Comparisons.{same_name}
use Rattle.definitions.specs.Map.{TypeMap}
use Rattle.definitions.specs.Inherited.{InheritedAnnotation, handed_on}
use Rattle.definitions.specs.Synthesis.{only_if, listed_parents, interpret_type}

-- ---- first step: the types reached

-- a type that is interpreted, and for each of its listed parents whether this listing was the first to reach it
pub record Reached : Type 0 where
  pub type : TypeInfo
  pub fresh : List Bool

abbrev pub seen_in : List Reached → Name → Bool
seen_in l n = any (λ (x : Reached). same_name n x.type.name) l

-- the parents of a type, one after the other: the types reached, and the flags of the listings so far
unfoldable pub reach_all : (TypeInfo → List Reached → List Reached) → List TypeInfo → List Reached → List Bool → List Reached × List Bool
reach_all call [] l fs = (l, fs)
reach_all call (P ∷ Ps) l fs = reach_all call Ps (call P l) (fs ++ ((not (seen_in l P.name) && seen_in (call P l) P.name) ∷ []))

-- a type is noted when it is first reached, behind its ancestors (FORMAT 8.6)
unfoldable pub reach : ℕ → TypeMap → TypeInfo → List Reached → List Reached
reach zero m T l = l
reach (suc k) m T l =
    elim (seen_in l T.name) [
      | true ↦ l
      | false ↦ let r = reach_all (reach k m) (listed_parents m T) l [] in r.0 ++ (record { type = T; fresh = r.1 } ∷ [])
    ]

-- the types are tried in name order (FORMAT 8.6)
unfoldable pub reach_each : ℕ → TypeMap → List TypeInfo → List Reached → List Reached
reach_each k m [] l = l
reach_each k m (T ∷ Ts) l = reach_each k m Ts (reach k m T l)

unfoldable pub trail : TypeMap → List Reached
trail m = reach_each (length m.types) m m.types []

-- ---- second step: what comes of each

-- whether the call of a type succeeded
pub record Told : Type 0 where
  pub name : Name
  pub ok : Bool

-- the calls so far, the last one first, and the rows
pub record Played : Type 0 where
  pub told : List Told
  pub rows : List Row

-- the last call of a name succeeded
abbrev pub succeeded : List Told → Name → Bool
succeeded [] n = false
succeeded (x ∷ l) n = (same_name n x.name && x.ok) || (not (same_name n x.name) && succeeded l n)

-- a listing hands on what its parent has, unless it was the first to reach the parent and the parent's call failed
-- (FORMAT 8.6)
abbrev pub passes : List Told → Bool → TypeInfo → Bool
passes told fresh P = not fresh || succeeded told P.name

abbrev pub flags_of : List Told → List Bool → List TypeInfo → List Bool
flags_of told fresh [] = []
flags_of told [] (P ∷ Ps) = []
flags_of told (f ∷ fs) (P ∷ Ps) = passes told f P ∷ flags_of told fs Ps

-- what the listings with a flag hand on
abbrev pub got_from : TypeMap → List Bool → List TypeInfo → List InheritedAnnotation
got_from m fs [] = []
got_from m [] (P ∷ Ps) = []
got_from m (f ∷ fs) (P ∷ Ps) = only_if f (handed_on m P) ++ got_from m fs Ps

abbrev pub all_of : List Bool → Bool
all_of fs = all (λ f. f) fs

-- one type more
unfoldable pub play : TypeMap → Played → Reached → Played
play m d x =
    let fs = flags_of d.told x.fresh (listed_parents m x.type) in
    let rs = (interpret_type m x.type (got_from m fs (listed_parents m x.type))).rows in
    record { told = record { name = x.type.name; ok = all_of fs && null rs } ∷ d.told; rows = d.rows ++ rs }

unfoldable pub play_all : TypeMap → Played → List Reached → Played
play_all m d [] = d
play_all m d (x ∷ l) = play_all m (play m d x) l

abbrev pub nothing_played : Played
nothing_played = record { told = []; rows = [] }

-- the rows of the synthesis, made in two steps
unfoldable pub played_rows : TypeMap → List Row
played_rows m = (play_all m nothing_played (trail m)).rows
