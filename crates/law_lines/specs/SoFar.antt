-- The length of a schedule as it grows, item by item.
use Rattle.std.specs.Prelude.{[], ◌∷◌, ℕ, length}
use Rattle.std.proofs.Common.{arith, length-append}
use Rattle.std.proofs.lemmas.List.Sums.{sum_by-append}
use Rattle.lists.specs.Lists.{each}
use Rattle.lists.specs.Sorting.{perm-length}
use Rattle.lists.specs.Members.{each-short}
use Rattle.lists.specs.Sums.{each_long}
use Rattle.definitions.specs.Bits.{to_bits}
use Rattle.definitions.specs.Records.{Item}
use Rattle.definitions.specs.Map.{type_map_of}
use Rattle.definitions.specs.Order.{organize_type_map}
use Rattle.definitions.specs.Items.{items_of}
use Rattle.definitions.specs.Packing.{counted_bits, item_bits, order_bits, item_count_bits, schedule_bits}
use Rattle.definitions.specs.SoFar.{bits_so_far}
use Rattle.bits.specs.NumberLaws.{length-to_bits}
use Rattle.law_orders.specs.Comparisons.{types-perm}
use Rattle.law_lines.specs.Statements.{line_map, SoFarBegins, SoFarGrows, SoFarIsLength, SoFarAtMost, MapSoFarAtMost}
use Rattle.law_lines.specs.Within.{most_item_bits}
use Rattle.law_lines.specs.Bounds.{items-at-most}
use Rattle.law_lines.specs.Fields.{items-within}
use Rattle.law_lines.specs.Size.{item-short, order-short, order-bits-short}

abbrev item_long : Item → ℕ
item_long x = length (item_bits x)

pub so_far-begins : SoFarBegins
unfolding bits_so_far
so_far-begins ns = omega arith

pub so_far-grows : SoFarGrows
unfolding bits_so_far
so_far-grows ns items x = omega (arith, sum_by-append item_long items (x ∷ []))

pub so_far-is-length : SoFarIsLength
unfolding bits_so_far schedule_bits
so_far-is-length ns items =
    omega (
      arith,
      each_long item_bits items,
      length-append (order_bits ns) (counted_bits item_count_bits item_bits items),
      length-append (to_bits item_count_bits (length items)) (each item_bits items),
      length-to_bits item_count_bits (length items),
    )

pub so_far-at-most : SoFarAtMost
unfolding bits_so_far
so_far-at-most W ns items n m h =
    omega (arith, order-bits-short ns, each_long item_bits items, each-short item_bits items most_item_bits (λ x i. item-short W x (h x i)))

pub map-so_far-at-most : MapSoFarAtMost
map-so_far-at-most s ok in' =
    so_far-at-most (length s.words) (organize_type_map (type_map_of s)) (items_of (line_map s))
    (omega (arith, order-short (type_map_of s), perm-length (types-perm s), in'.types))
    (omega (arith, items-at-most s ok in'))
    (λ x i. items-within s ok in' x i)
