-- How long a schedule is so far, with the items up to here.
use Rattle.std.specs.Prelude.{List, ℕ, ◌+◌, sum_by, length}
use Rattle.definitions.specs.Records.{Name, Item}
use Rattle.definitions.specs.Packing.{item_bits, order_bits, item_count_bits}

-- The bits of the order, those of the number of items, and the bits of each item up to here (FORMAT 6.1, 6.4).
unfoldable pub bits_so_far : List Name → List Item → ℕ
bits_so_far ns items = length (order_bits ns) + item_count_bits + sum_by (λ x. length (item_bits x)) items
