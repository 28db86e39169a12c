-- The diagnosis of refusal 8: rows of kinds 1, 2 and 3 (FORMAT 8.3 to 8.5).
use Rattle.std.specs.Prelude.{Bool, true, false, ◌&&◌, ◌||◌, not, cond, List, [], ◌∷◌, map, ℕ, zero, suc, length}
use Rattle.lists.specs.Lists.{null, filter, each, first_of}
use Rattle.definitions.specs.Records.{Name, TypeInfo, Row}
use Rattle.definitions.specs.Comparisons.{elem_name, look_up}
use Rattle.definitions.specs.Map.{TypeMap}
use Rattle.definitions.specs.Order.{is_self, passes, last_pass, inherits_self}

-- A row whose other name is a parent; it has no word (FORMAT 8.1).
abbrev pub parent_row : ℕ → TypeInfo → Name → Row
parent_row kind T p = record { kind = kind; subject = T.name; other = p; word = [] }

-- Kind 1: a row for each listing of `self`, types in name order, listings in order (FORMAT 8.3).
unfoldable pub self_rows : TypeMap → List Row
self_rows m = each (λ (T : TypeInfo). map (parent_row 1 T) (filter (is_self m) T.parents)) m.types

-- The type that is declared under a name, or none (FORMAT 1.5).
abbrev pub type_named : TypeMap → Name → List TypeInfo
type_named m n = look_up (λ (T : TypeInfo). T.name) m.types n

-- A parent that is on the path or undeclared. The path has the type itself on it (FORMAT 8.4).
unfoldable pub is_bad : TypeMap → List Name → Name → Bool
is_bad m path p = elem_name p path || null (type_named m p)

-- Kind 2 where the parent is on the path, kind 3 where it is undeclared (FORMAT 8.4).
unfoldable pub bad_row : List Name → TypeInfo → Name → Row
bad_row path T p = parent_row (cond (elem_name p path) 2 3) T p

-- `find_cycles_or_bad_types`: the first bad parent is a type's only answer; without one the answers of its parents follow
-- each other (FORMAT 8.4). The number bounds the depth: a path is no longer than there are types.
unfoldable pub find_cycles_or_bad_types : ℕ → TypeMap → List Name → TypeInfo → List Row
find_cycles_or_bad_types zero m path T = []
find_cycles_or_bad_types (suc k) m path T =
    elim (first_of (is_bad m (T.name ∷ path)) T.parents) [
      | [] ↦ each (λ p. each (find_cycles_or_bad_types k m (T.name ∷ path)) (type_named m p)) T.parents
      | p ∷ ps ↦ bad_row (T.name ∷ path) T p ∷ []
    ]

-- `generate_type_no_parent_errors`: the answers of the types that wait, in name order (FORMAT 8.4).
unfoldable pub no_parent_rows : TypeMap → List Row
no_parent_rows m = each (find_cycles_or_bad_types (length m.types) m []) (last_pass m).waiting

-- The rows of kind 1 where some type was ready in round one; otherwise the others replace them (FORMAT 8.5).
unfoldable pub order_rows : TypeMap → List Row
order_rows m = elim (inherits_self m && not (null (passes m 1).placed)) [ true ↦ self_rows m | false ↦ no_parent_rows m ]
