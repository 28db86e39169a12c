-- The schedule of a map, out of its catalogue and its order.
use Rattle.std.specs.Prelude.{Bool, true, false, List, ◌++◌, ◌≡◌, ℕ, ◌*◌, ◌^◌, ◌≤◌, ◌<◌, length, take}
use Rattle.definitions.specs.Bits.{to_bits}
use Rattle.definitions.specs.Records.{Sheet}
use Rattle.definitions.specs.Map.{type_map_of}
use Rattle.definitions.specs.Order.{organize_type_map}
use Rattle.definitions.specs.Items.{items_of}
use Rattle.definitions.specs.Packing.{item_count_bits, schedule_bits}
use Rattle.definitions.specs.SoFar.{bits_so_far}
use Rattle.definitions.specs.Answer.{schedule, schedule_of}
use Rattle.law_lines.specs.Statements.{Readable, line_map, any_refused}
use Rattle.law_lines.specs.Within.{Within}
use Rattle.order_listing.specs.Listing.{Listing}
use Rattle.answers.specs.Answers.{Answer}
use Rattle.catalogue.specs.Catalogue.{Catalogued}
use Rattle.catalogue.specs.declared.Catalogue.{Catalogue}
use Rattle.item_pen.specs.declared.ListingPen.{ListingPen}
use Rattle.item_pen.specs.Pen.{joined, Penned}
use Rattle.item_pen.specs.SoFar.{SoFar}
use Rattle.order_rounds.specs.declared.sequence.Order.{Order}
use Rattle.order_listing.specs.Order.{names_in, names_bits}
use Rattle.item_writer.specs.Items.{Sound, WordsAre, all_items}
use Rattle.item_schedule.specs.declared.Pass.{Pass}

-- ---- the bits

-- What stands in front of the items: how many types, their names in order, how many items (FORMAT 6.1).
unfoldable pub front_bits : Catalogue → Order → ℕ → List Bool
front_bits t order items = to_bits 7 order.types.count ++ (names_bits t order ++ to_bits item_count_bits items)

-- And then the items.
unfoldable pub bits_in : Catalogue → Order → ℕ → List Bool
bits_in t order items = front_bits t order items ++ joined (all_items t)

-- ---- one pass

-- What a pass asks: a catalogue and an order that the code can read, and room where the pen is down.
pub record Passable (down : Bool) (buf : List ℕ) (t : Catalogue) (words : List ℕ) (order : Order) (items : ℕ) : Type 0 where
  pub sound : Sound t
  pub noted : WordsAre t words
  pub fits : down ≡ true → length (bits_in t order items) ≤ 8 * length buf
  pub small : length (bits_in t order items) < 2 ^ 64
  pub few : length (all_items t) < 2 ^ 32

-- What it answers: how many items there are, and the bits, counted or written.
pub record Passed (down : Bool) (before after : List ℕ) (t : Catalogue) (order : Order) (items : ℕ) (r : Pass) : Type 0 where
  pub counted : r.items ≡ length (all_items t)
  pub penned : Penned down before after 0 r.bits (bits_in t order items)

-- ---- the schedule

-- The catalogue is that of a sheet that none of 3 to 9 refuses, and the names of the types in the order are the order of its map
-- (FORMAT 3.3).
pub record Orderly (s : Sheet) (t : Catalogue) (order : Order) : Type 0 where
  pub readable : Readable s
  pub within : Within s
  pub catalogued : Catalogued s t
  pub accepted : any_refused (line_map s) ≡ false
  pub names : names_in t order ≡ organize_type_map (type_map_of s)

-- There is such a sheet.
pub record Schedulable (t : Catalogue) (order : Order) : Type 0 where
  pub sheet : Sheet
  pub orderly : Orderly sheet t order

-- The number of a pen that has put what stands in front of the items, and the first k of them, is that of the sheet's schedule so far,
-- for each k: the length of its order, of the number of items and of these items (FORMAT 6.4).
pub record RunsAlong (t : Catalogue) (order : Order) : Type 0 where
  pub number : (s : Sheet) → Orderly s t order → (start P : ListingPen) (items k : ℕ) → start.pen.at ≡ 0 → SoFar start (front_bits t order items) (take k (all_items t)) P
      → P.pen.at ≡ bits_so_far (organize_type_map (type_map_of s)) (take k (items_of (line_map s)))

-- Its schedule is listed, whichever sheet it is (FORMAT 6.1, 7.4).
pub record ListsSchedule (t : Catalogue) (order : Order) (entry exit : List ℕ) (r : Answer) : Type 0 where
  pub lists : (s : Sheet) → Orderly s t order → Listing entry exit (schedule_bits (schedule_of schedule (type_map_of s))) r
