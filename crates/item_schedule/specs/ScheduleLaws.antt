-- What the passes write is the schedule of the sheet.
use Rattle.std.proofs.Math.Bool.{Bool}
use Rattle.std.specs.Prelude.{true, false, ◌≡◌, ℕ, ◌+◌, ◌/◌, ◌≤◌, ◌<◌, sum_by, take, replicate, Ok, Err}
use mathlib.Core.List.{List, [], ◌++◌, map, append_assoc, append-nil}
use Rattle.std.proofs.Math.Path.{refl, sym, ap, ap₂}
use Rattle.std.proofs.Common.{◌∙◌, arith, length-append}
use Rattle.std.proofs.Math.ListN.{length}
use Rattle.std.proofs.lemmas.List.{length-map, take-map}
use Rattle.lists.specs.Lists.{each}
use Rattle.lists.specs.Tests.{never}
use Rattle.lists.specs.Sums.{each_long}
use Rattle.lists.specs.Places.{zero-at}
use Rattle.lists.specs.Appending.{each_map}
use Rattle.lists.specs.Tabulating.{length-tabulate}
use Rattle.definitions.specs.Bits.{to_bits, size}
use Rattle.definitions.specs.Records.{Name, Sheet}
use Rattle.definitions.specs.Map.{type_map_of}
use Rattle.definitions.specs.Order.{organize_type_map}
use Rattle.definitions.specs.Items.{items_of}
use Rattle.definitions.specs.Packing.{name_bits, item_bits, order_bits, item_count_bits, schedule_bits}
use Rattle.definitions.specs.SoFar.{bits_so_far}
use Rattle.definitions.specs.Answer.{schedule, schedule_of}
use Rattle.bits.specs.NumberLaws.{length-to_bits}
use Rattle.bits.specs.Writing.{put, Wrote}
use Rattle.law_lines.specs.Statements.{Readable, line_map, any_refused}
use Rattle.law_lines.specs.Within.{Within, most_schedule_bits}
use Rattle.law_lines.specs.Bounds.{items-at-most}
use Rattle.law_lines.specs.SoFar.{so_far-is-length, map-so_far-at-most}
use Rattle.catalogue.specs.Catalogue.{Catalogued}
use Rattle.catalogue.specs.declared.Catalogue.{Catalogue}
use Rattle.law_classes.proofs.ItemLaws.{items-by-sets}
use Rattle.std.specs.Borrow.{MutBor}
use Rattle.item_pen.specs.declared.field.Field.{Field}
use Rattle.item_pen.specs.declared.ListingPen.{ListingPen}
use Rattle.item_pen.specs.Pen as pen
use Rattle.item_pen.specs.Pen.{field_bits, joined, Begins, RoomFor, Adds, RoomForAll}
use Rattle.item_pen.specs.SoFar.{SoFar, Grows}
use Rattle.item_pen.specs.SoFarLaws.{so-far-front}
use Rattle.item_pen.specs.PenLaws.{adds_then, adds-as, room_as, room-head, room-tail, room_begun, penned_begun}
use Rattle.item_writer.specs.Items.{Sound, all_items, Cleared, WordsAre}
use Rattle.item_writer.proofs.SheetItems.{sound, items-are}
use Rattle.rows.specs.Rows.{has_bit}
use Rattle.rows.specs.RowLaws.{bit-none}
use Rattle.order_rounds.specs.Organized.{Holds, Organized}
use Rattle.order_rounds.specs.declared.sequence.Order.{Order}
use Rattle.order_listing.proofs.ListingLaws.{wrote-overwrite, listing-short, listing-written}
use Rattle.order_listing.proofs.OrderLaws.{names-are}
use Rattle.order_listing.specs.Order.{name_of, names_in, names_bits}
use Rattle.answers.specs.declared.Refusal.TheVariants.{ShortListing}
use Rattle.item_schedule.specs.declared.Pass.{Pass}
use Rattle.item_schedule.specs.Schedule.{front_bits, bits_in, Passable, Passed, Orderly, Schedulable, RunsAlong, ListsSchedule}

-- ---- what stands in front of the items, part by part

-- the count of the types, and what is behind it
abbrev types_bits : Order → List Bool
types_bits order = to_bits 7 order.types.count

abbrev behind_types : Catalogue → Order → ℕ → List Bool
behind_types t order items = names_bits t order ++ to_bits 16 items

module _ (t : Catalogue) (order : Order) (items : ℕ) {P : ListingPen} (h : RoomFor P 0 (front_bits t order items)) where
  whole : RoomFor P (0 + 0) (types_bits order ++ behind_types t order items)
  unfolding front_bits
  whole = h

  module _ {types : Field} (held₁ : pen.Holds types 7 (types_bits order)) where
    pub room_for_types : RoomFor P 0 (field_bits types)
    room_for_types = room_as (sym held₁.bits) (room-head 0 0 (types_bits order) (behind_types t order items) whole)

    module _ {P₁ : ListingPen} (w₁ : Adds P P₁ 0 (field_bits types)) where
      r₁ : RoomFor P₁ (0 + 0) (behind_types t order items)
      r₁ = room-tail 0 0 (types_bits order) (behind_types t order items) (adds-as held₁.bits w₁) whole

      pub room_for_names : RoomFor P₁ 0 (names_bits t order)
      room_for_names = room-head 0 0 (names_bits t order) (to_bits 16 items) r₁

      module _ {P₂ : ListingPen} (w₂ : Adds P₁ P₂ 0 (names_bits t order)) where
        r₂ : RoomFor P₂ 0 (to_bits 16 items)
        r₂ = room-tail 0 0 (names_bits t order) (to_bits 16 items) w₂ r₁

        module _ {count : Field} (held₂ : pen.Holds count 16 (to_bits 16 items)) where
          pub room_for_count : RoomFor P₂ 0 (field_bits count)
          room_for_count = room_as (sym held₂.bits) r₂

          pub begun_so_far : {P₃ : ListingPen} → Adds P₂ P₃ 0 (field_bits count) → SoFar P (front_bits t order items) [] P₃
          unfolding front_bits
          begun_so_far w₃ = so-far-front (adds_then (adds-as held₁.bits w₁) (adds_then w₂ (adds-as held₂.bits w₃)))

-- ---- one pass

module _ {down : Bool} {lent : MutBor (List ℕ)} {t : Catalogue} {words : List ℕ} {order : Order} {items : ℕ} (h : Passable down lent.now t words order items) {P : ListingPen} (begun : Begins lent down P) where
  abbrev front : List Bool
  front = front_bits t order items

  room : RoomFor P (0 + length (all_items t)) (front ++ joined (all_items t))
  unfolding bits_in
  room = room_begun begun (0 + length (all_items t)) (front ++ joined (all_items t)) h.fits h.small (omega (arith, h.few))

  pub room_for_front : RoomFor P 0 front
  room_for_front = room-head 0 (length (all_items t)) front (joined (all_items t)) room

  module _ {P₁ : ListingPen} (s : SoFar P front [] P₁) where
    pub room_for_items : RoomForAll P₁ (all_items t)
    room_for_items = room-tail 0 (length (all_items t)) front (joined (all_items t)) (adds-as (append-nil front) s.adds) room

    module _ {P₂ : ListingPen} (g : Grows P₁ P₂ (all_items t)) where
      -- all items stand
      whole_so_far : SoFar P front (all_items t) P₂
      whole_so_far = g.so_far P front [] s

      pub same_slice : P₂.buf.ghost_name ≡ P.buf.ghost_name
      same_slice = whole_so_far.adds.slice

      pub passed : {after : List ℕ} → after ≡ P₂.buf.now → Passed down lent.now after t order items (record { items = P₂.pen.items; bits = P₂.pen.at })
      unfolding bits_in
      passed e =
          let a = whole_so_far.adds in
          let p = penned_begun begun a in
          record { counted = omega (arith, a.items, begun.items); penned = record { next = p.next; holds = e ∙ p.holds } }

-- ---- the numbers of bits

-- they go by the catalogue and the order alone
pub bits-long : (t : Catalogue) (order : Order) (k l : ℕ) → length (bits_in t order k) ≡ length (bits_in t order l)
unfolding bits_in front_bits
bits-long t order k l = simp (length-append, length-to_bits)

-- ---- the order that was found

-- over the sets of a sheet's catalogue
pub orderly-of : (s : Sheet) (t : Catalogue) (order : Order) (n : ℕ) (whole : Bool) → Readable s → Within s → Catalogued s t → any_refused (line_map s) ≡ false
    → Holds (type_map_of s) t n whole → Organized t n whole order true → Orderly s t order
orderly-of s t order n whole r w c a h o = record {
  readable = r;
  within = w;
  catalogued = c;
  accepted = a;
  names = names-are s t order n whole c.listed h o;
}

-- ---- the bits of a sheet

module _ (s : Sheet) (t : Catalogue) (order : Order) (h : Orderly s t order) where
  -- the items are those of the map
  items-made : all_items t ≡ map item_bits (items_of (line_map s))
  items-made = items-are s t h.readable h.within h.catalogued ∙ ap (map item_bits) (sym (items-by-sets s h.readable h.within h.accepted))

  items-joined : joined (all_items t) ≡ each item_bits (items_of (line_map s))
  items-joined = ap joined items-made ∙ each_map (λ (x : List Bool). x) item_bits (items_of (line_map s))

  items-counted : length (all_items t) ≡ length (items_of (line_map s))
  items-counted = ap length items-made ∙ length-map (items_of (line_map s)) item_bits

  pub bits_are : bits_in t order (length (all_items t)) ≡ schedule_bits (schedule_of schedule (type_map_of s))
  unfolding bits_in front_bits names_bits names_in schedule_bits schedule_of order_bits
  bits_are =
      let ns = organize_type_map (type_map_of s) in
      let is = items_of (line_map s) in
      let counted : List Bool = to_bits 16 (length is) ++ each item_bits is in
      let e : order.types.count ≡ length ns = sym (length-tabulate (name_of t order.types.items) order.types.count) ∙ ap length h.names in
      let parts : bits_in t order (length (all_items t)) ≡ to_bits 7 order.types.count ++ (each name_bits (names_in t order) ++ (to_bits 16 (length (all_items t)) ++ joined (all_items t))) =
      append_assoc (to_bits 7 order.types.count) (each name_bits (names_in t order) ++ to_bits 16 (length (all_items t))) (joined (all_items t))
      ∙ ap (λ (b : List Bool). to_bits 7 order.types.count ++ b) (append_assoc (each name_bits (names_in t order)) (to_bits 16 (length (all_items t))) (joined (all_items t))) in
      parts
      ∙ ap₂ (λ (k : ℕ) (b : List Bool). to_bits 7 order.types.count ++ (each name_bits (names_in t order) ++ (to_bits 16 k ++ b))) items-counted items-joined
      ∙ ap₂ (λ (k : ℕ) (l : List Name). to_bits 7 k ++ (each name_bits l ++ counted)) e h.names
      ∙ sym (append_assoc (to_bits 7 (length ns)) (each name_bits ns) counted)

  -- as many bits as the schedule has, whatever number stands for that of the items
  pub as_long : (k : ℕ) → length (bits_in t order k) ≡ length (schedule_bits (schedule_of schedule (type_map_of s)))
  as_long k = bits-long t order k (length (all_items t)) ∙ ap length bits_are

  pub bits_most : (k : ℕ) → length (bits_in t order k) ≤ most_schedule_bits
  unfolding schedule_of
  bits_most k =
      omega (arith, as_long k, so_far-is-length (organize_type_map (type_map_of s)) (items_of (line_map s)), map-so_far-at-most s h.readable h.within)

  -- what stands in front of the items has as many bits, whatever number stands for that of the items
  front-long : (k : ℕ) → length (front_bits t order k) ≡ length (order_bits (organize_type_map (type_map_of s))) + item_count_bits
  unfolding front_bits names_bits names_in order_bits
  front-long k =
      let ns = organize_type_map (type_map_of s) in
      let e : length (each name_bits (names_in t order)) ≡ length (each name_bits ns) = ap (λ (l : List Name). length (each name_bits l)) h.names in
      omega (
        arith,
        e,
        length-append (to_bits 7 order.types.count) (each name_bits (names_in t order) ++ to_bits 16 k),
        length-append (each name_bits (names_in t order)) (to_bits 16 k),
        length-append (to_bits 7 (length ns)) (each name_bits ns),
        length-to_bits 7 order.types.count,
        length-to_bits 7 (length ns),
        length-to_bits 16 k,
      )

  -- after each item the number is that of the schedule so far
  pub number-is-so-far : (start P : ListingPen) (items k : ℕ) → start.pen.at ≡ 0 → SoFar start (front_bits t order items) (take k (all_items t)) P
      → P.pen.at ≡ bits_so_far (organize_type_map (type_map_of s)) (take k (items_of (line_map s)))
  unfolding bits_so_far
  number-is-so-far start P items k z w =
      let is = items_of (line_map s) in
      let made : take k (all_items t) ≡ map item_bits (take k is) = ap (take k) items-made ∙ take-map item_bits k is in
      let sum : sum_by length (take k (all_items t)) ≡ sum_by (λ x. length (item_bits x)) (take k is) =
      sym (each_long (λ (x : List Bool). x) (take k (all_items t)))
      ∙ ap (λ (l : List (List Bool)). length (joined l)) made
      ∙ ap length (each_map (λ (x : List Bool). x) item_bits (take k is))
      ∙ each_long item_bits (take k is) in
      omega (arith, w.number, z, front-long items, sum)

  passable : (down : Bool) (buf words : List ℕ) (k : ℕ) → WordsAre t words → (down ≡ true → size (length (bits_in t order k)) ≤ length buf) → Passable down buf t words order k
  passable down buf words k w f = record {
    sound = sound s t h.readable h.within h.catalogued;
    noted = w;
    fits = λ d. omega (arith, f d);
    small = omega (arith, bits_most k);
    few = omega (arith, items-counted, items-at-most s h.readable h.within);
  }

-- whichever sheet it is
pub runs_along : (t : Catalogue) (order : Order) → RunsAlong t order
runs_along t order = record { number = λ s h. number-is-so-far s t order h }

-- what the two passes ask
module _ {t : Catalogue} {order : Order} (h : Schedulable t order) where
  pub readable_words : Sound t × Cleared (replicate 64 0)
  readable_words =
      let o = h.orderly in
      (sound h.sheet t o.readable o.within o.catalogued, record { none = λ c j. ap (λ (x : ℕ). has_bit x j) (zero-at 64 c) ∙ bit-none j })

  module _ {words : List ℕ} (w : WordsAre t words) where
    pub to_count : {buf : List ℕ} → Passable false buf t words order 0
    to_count {buf} = passable h.sheet t order h.orderly false buf words 0 w (λ d. never d refl)

    module _ {entry mid : List ℕ} {r : Pass} (p : Passed false entry mid t order 0 r) where
      pub to_write : (r.bits + 7) / 8 ≤ length mid → Passable true mid t words order r.items
      to_write l = passable h.sheet t order h.orderly true mid words r.items w (λ d. omega (arith, p.penned.next, bits-long t order 0 r.items))

  pub few_bits : {entry mid : List ℕ} {r : Pass} → Passed false entry mid t order 0 r → r.bits ≤ most_schedule_bits
  few_bits p = omega (arith, p.penned.next, bits_most h.sheet t order h.orderly 0)

-- ---- a listing

module _ {t : Catalogue} {order : Order} {entry mid : List ℕ} {r : Pass} (p : Passed false entry mid t order 0 r) where
  pub lists_short : length mid < (r.bits + 7) / 8 → ListsSchedule t order entry mid (Err (ShortListing ((r.bits + 7) / 8)))
  lists_short l = record {
    lists = λ s h.
        let bs = schedule_bits (schedule_of schedule (type_map_of s)) in
        let e : r.bits ≡ length bs = omega (arith, p.penned.next, as_long s t order h 0) in
        let same = ap length p.penned.holds in
        listing-short entry mid bs _ (ap size e) (omega (arith, l, same)) p.penned.holds;
  }

  pub lists_long : {exit : List ℕ} {q : Pass} → Passed true mid exit t order r.items q → (r.bits + 7) / 8 ≤ length mid
      → ListsSchedule t order entry exit (Ok ((r.bits + 7) / 8))
  lists_long {exit} {q} w l = record {
    lists = λ s h.
        let bs = schedule_bits (schedule_of schedule (type_map_of s)) in
        let e : r.bits ≡ length bs = omega (arith, p.penned.next, as_long s t order h 0) in
        let same = ap length p.penned.holds in
        let is : bits_in t order r.items ≡ bs = ap (bits_in t order) p.counted ∙ bits_are s t order h in
        let wrote : Wrote entry exit 0 q.bits bs =
        record {
          holds = w.penned.holds ∙ ap₂ (λ (b : List ℕ) (x : List Bool). put b 0 x) p.penned.holds is;
          next = w.penned.next ∙ ap (λ (x : List Bool). 0 + length x) is;
        } in
        listing-written entry exit bs _ (ap size e) (omega (arith, l, same)) (wrote-overwrite wrote (omega arith));
  }
