-- What the order over sets answers, for every map that the sets are of.
use Rattle.std.specs.Prelude.{Bool, true, map, ◌≡◌, ℕ, ◌<◌, length, get_or, take}
use Rattle.definitions.specs.Map.{TypeMap}
use Rattle.definitions.specs.Order.{has_order, organize_type_map}
use Rattle.order_form.specs.Lists.{elem}
use Rattle.order_form.specs.Reading.{type_at}
use Rattle.order_form.specs.Compact.{Within}
use Rattle.item_spread.specs.Spread.{Ordered}
use Rattle.catalogue.specs.declared.Catalogue.{Catalogue}
use Rattle.order_parents.specs.Known.{all_known, ParentSets}
use Rattle.order_rounds.specs.declared.sequence.Order.{Order}

-- The sets are those of a map; `whole` says that each listed parent is declared, and none is `self`.
pub record Holds (m : TypeMap) (t : Catalogue) (n : ℕ) (whole : Bool) : Type 0 where
  pub within : Within m
  pub count : n ≡ length m.types
  pub sets : ParentSets m t
  pub known : whole ≡ all_known m

-- They are those of some map.
pub record Asked (t : Catalogue) (n : ℕ) (whole : Bool) : Type 0 where
  pub map : TypeMap
  pub holds : Holds map t n whole

-- An order is found exactly if the map has one (FORMAT 3.2); it has all types, and the names at its places are then that order's
-- (FORMAT 3.3).
pub record Organized (t : Catalogue) (count : ℕ) (whole : Bool) (order : Order) (r : Bool) : Type 0 where
  pub found : (m : TypeMap) → Holds m t count whole → r ≡ has_order m
  pub counted : r ≡ true → order.types.count ≡ count
  pub names : (m : TypeMap) → Holds m t count whole → r ≡ true → map (λ (a : ℕ). (type_at m a).name) (take count order.types.items) ≡ organize_type_map m
  pub ordered : r ≡ true → Ordered order.types.items count t.parents
  pub within : r ≡ true → (i : ℕ) → i < count → get_or order.types.items i 0 < count
  pub has : r ≡ true → (a : ℕ) → a < count → elem a (take count order.types.items) ≡ true
