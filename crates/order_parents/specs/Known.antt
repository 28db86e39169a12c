-- What the sets of parents mean: for the map that the draft has.
use Rattle.std.specs.Prelude.{Bool, false, ◌&&◌, not, List, ◌≡◌, ℕ, ◌*◌, ◌^◌, ◌≤◌, ◌<◌, ltb, length}
use Rattle.lists.specs.Lists.{any, all}
use Rattle.rows.specs.Rows.{has_bit}
use Rattle.definitions.specs.Records.{Name, TypeInfo}
use Rattle.definitions.specs.Comparisons.{same_name, elem_name}
use Rattle.definitions.specs.Map.{TypeMap}
use Rattle.definitions.specs.Order.{is_self}
use Rattle.order_form.specs.Lists.{tab}
use Rattle.order_form.specs.Reading.{type_at}
use Rattle.sheet_keys.specs.Keys.{name_of_key}
use Rattle.sheet_draft.specs.Draft.{parent_count_at, parent_at}
use Rattle.catalogue.specs.Layout.{parents_at, looked}
use Rattle.catalogue.specs.declared.Catalogue.{Catalogue}
use Rattle.sheet_draft.specs.declared.Draft.{Draft}
use Rattle.sheet_draft.specs.declared.entry.Entry.{Entry}
use Rattle.order_parents.specs.Parents.{row_of}

-- Whether a listed parent is declared, and not `self` (FORMAT 3.2).
unfoldable pub known : TypeMap → Name → Bool
known m n = any (λ (T : TypeInfo). same_name n T.name) m.types && not (is_self m n)

-- Whether each parent of each type is.
unfoldable pub all_known : TypeMap → Bool
all_known m = all (λ (T : TypeInfo). all (known m) T.parents) m.types

-- The parents of each type, by their places in name order (FORMAT 3.1).
pub record ParentSets (m : TypeMap) (t : Catalogue) : Type 0 where
  pub most : (a : ℕ) → a < length m.types → parents_at t a < 2 ^ 64
  pub bits : (a b : ℕ) → a < length m.types → b < length m.types → has_bit (parents_at t a) b ≡ elem_name (type_at m b).name (type_at m a).parents
  pub within : (a b : ℕ) → a < length m.types → length m.types ≤ b → has_bit (parents_at t a) b ≡ false

-- The types that are a parent of one.
pub record Childed (m : TypeMap) (r : ℕ) : Type 0 where
  pub bits : (b : ℕ) → b < length m.types → has_bit r b ≡ any (λ (T : TypeInfo). elem_name (type_at m b).name T.parents) m.types
  pub within : (b : ℕ) → length m.types ≤ b → has_bit r b ≡ false

-- A key is looked up right: the set has the one type of that name, or none.
pub record Looks (m : TypeMap) (t : Catalogue) (key : ℕ) : Type 0 where
  pub most : looked t key < 2 ^ 64
  pub bits : (b : ℕ) → has_bit (looked t key) b ≡ (ltb b (length m.types) && same_name (name_of_key key) (type_at m b).name)

-- The draft has the parents of the map's types, the catalogue their names; `own` is the key of the name `self`.
pub record Rows (m : TypeMap) (d : Draft) (entries : List Entry) (n own : ℕ) (t : Catalogue) : Type 0 where
  pub few : n ≤ 64
  pub count : n ≡ length m.types
  pub self : own ≡ m.self * 256
  pub parents : (a : ℕ) → a < n → (type_at m a).parents ≡ tab (λ k. name_of_key (parent_at d (row_of entries a) k)) (parent_count_at d (row_of entries a))
  pub looks : (a k : ℕ) → a < n → k < parent_count_at d (row_of entries a) → Looks m t (parent_at d (row_of entries a) k)
