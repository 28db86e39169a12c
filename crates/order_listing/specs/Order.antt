-- The names in the order, out of the catalogue, and their bits.
use Rattle.std.specs.Prelude.{Bool, List, ℕ, get_or}
use Rattle.lists.specs.Lists.{each}
use Rattle.lists.specs.Tabulating.{tabulate}
use Rattle.definitions.specs.Records.{Name}
use Rattle.definitions.specs.Packing.{name_bits, order_bits}
use Rattle.catalogue.specs.Layout.{key_at}
use Rattle.catalogue.specs.Catalogue.{name_of_key}
use Rattle.catalogue.specs.declared.Catalogue.{Catalogue}
use Rattle.order_rounds.specs.declared.sequence.Order.{Order}

-- The name of the type at place i of the order.
abbrev pub name_of : Catalogue → List ℕ → ℕ → Name
name_of t order i = name_of_key (key_at t (get_or order i 0))

-- The names of the types, in order (FORMAT 3.3).
unfoldable pub names_in : Catalogue → Order → List Name
names_in t order = tabulate (name_of t order.types.items) order.types.count

-- Their bits.
unfoldable pub names_bits : Catalogue → Order → List Bool
names_bits t order = each name_bits (names_in t order)

-- What the order-only call writes (FORMAT 6.5).
unfoldable pub order_in : Catalogue → Order → List Bool
order_in t order = order_bits (names_in t order)
