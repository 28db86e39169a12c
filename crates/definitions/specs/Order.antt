-- The order of the types, round by round, after `organize_type_map` (FORMAT 3.4).
use Rattle.std.specs.Prelude.{Bool, ◌&&◌, ◌||◌, not, List, [], ◌∷◌, ◌++◌, map, ℕ, zero, suc, length}
use Rattle.lists.specs.Lists.{any, all, null, filter}
use Rattle.definitions.specs.Records.{Name, TypeInfo}
use Rattle.definitions.specs.Comparisons.{same_name, elem_name}
use Rattle.definitions.specs.Map.{TypeMap}

-- Whether a parent is spelled `self`.
unfoldable pub is_self : TypeMap → Name → Bool
is_self m p = same_name p (m.self ∷ [])

-- What stands after some rounds: the types placed, in order, and those that wait, in name order.
pub record Pass : Type 0 where
  pub placed : List TypeInfo
  pub waiting : List TypeInfo

-- Whether each parent was placed before this round. A parent `self` holds no type back (FORMAT 3.4).
unfoldable pub ready : TypeMap → List TypeInfo → TypeInfo → Bool
ready m placed T = all (λ p. is_self m p || elem_name p (map (λ (U : TypeInfo). U.name) placed)) T.parents

-- One round: the types that are ready go behind those placed, in name order (FORMAT 3.4).
unfoldable pub pass : TypeMap → Pass → Pass
pass m s = record {
  placed = s.placed ++ filter (ready m s.placed) s.waiting;
  waiting = filter (λ T. not (ready m s.placed T)) s.waiting;
}

-- So many rounds, from none placed.
unfoldable pub passes : TypeMap → ℕ → Pass
passes m zero = record { placed = []; waiting = m.types }
passes m (suc k) = pass m (passes m k)

-- The last round that can place a type: there are no more rounds than types.
unfoldable pub last_pass : TypeMap → Pass
last_pass m = passes m (length m.types)

-- Whether a parent is listed as `self`.
unfoldable pub inherits_self : TypeMap → Bool
inherits_self m = any (λ (T : TypeInfo). any (is_self m) T.parents) m.types

-- Whether there is an order: no parent is `self`, and no type waits for ever (FORMAT 3.2). Refusal 8 is given where this is
-- false.
unfoldable pub has_order : TypeMap → Bool
has_order m = not (inherits_self m) && null (last_pass m).waiting

-- The order, where there is one: the names as placed (FORMAT 3.3).
unfoldable pub organize_type_map : TypeMap → List Name
organize_type_map m = map (λ (T : TypeInfo). T.name) (last_pass m).placed
