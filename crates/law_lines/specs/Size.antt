-- How many bits a schedule has at most.
use Rattle.std.specs.Prelude.{Bool, not, List, [], ◌∷◌, ◌++◌, ◌≡◌, ℕ, zero, suc, ◌+◌, ◌*◌, ◌≤◌, length}
use Rattle.std.proofs.Common.{zero-le, arith, length-append}
use Rattle.std.proofs.lemmas.List.{length-map}
use Rattle.lists.specs.Lists.{In, filter, each}
use Rattle.lists.specs.Sorting.{filter-perm, perm-length}
use Rattle.definitions.specs.Bits.{to_bits}
use Rattle.definitions.specs.Records.{Name, Mark, makelist_mark, derive_mark, TypeInfo, Item, synthesized, extension}
use Rattle.definitions.specs.Map.{TypeMap, type_map_of}
use Rattle.definitions.specs.Order.{ready, pass, passes, last_pass, organize_type_map}
use Rattle.definitions.specs.Items.{items_of}
use Rattle.definitions.specs.Packing.{counted_bits, word_if_flag_bits, name_bits, parent_bits, mark_bits, item_bits, order_bits, schedule_bits}
use Rattle.definitions.specs.Answer.{schedule_of}
use Rattle.law_orders.specs.Comparisons.{types-perm}
use Rattle.law_lines.specs.Within.{ItemWithin, most_item_bits}
use Rattle.lists.specs.Members.{each-short}
use Rattle.bits.specs.NumberLaws.{length-to_bits}
use Rattle.law_lines.specs.Statements.{line_map, ScheduleAtMost}
use Rattle.law_lines.specs.Bounds.{items-at-most}
use Rattle.law_lines.specs.Fields.{items-within}

-- a count of n bits, then at most b bits for each
counted-short : {A : Type 0} (n b : ℕ) (f : A → List Bool) (l : List A) → ((x : A) → In x l → length (f x) ≤ b) → length (counted_bits n f l) ≤ n + length l * b
counted-short n b f l h =
    let k = each-short f l b h in
    omega (arith, length-append (to_bits n (length l)) (each f l), length-to_bits n (length l))

second_short : (b : List ℕ) → length (word_if_flag_bits b) ≤ 9
second_short [] = omega arith
second_short (w ∷ ws) = omega (arith, length-to_bits 8 w)

name-short : (n : Name) → length (name_bits n) ≤ 17
unfolding name_bits
name-short [] = zero-le
name-short (a ∷ b) = let h = second_short b in omega (arith, length-append (to_bits 8 a) (word_if_flag_bits b), length-to_bits 8 a)

parent_short : (p : Name) → length p ≤ 3 → length (parent_bits p) ≤ 26
unfolding parent_bits
parent_short p h = let k = counted-short 2 8 (to_bits 8) p (λ w i. omega (arith, length-to_bits 8 w)) in omega arith

pub mark-short : (k : Mark) → length (mark_bits k) ≤ 9
unfolding mark_bits
mark-short makelist_mark = omega arith
mark-short (derive_mark t) = omega (arith, length-to_bits 8 t)

pub item-short : (W : ℕ) (x : Item) → ItemWithin W x → length (item_bits x) ≤ most_item_bits
unfolding item_bits
item-short W (synthesized n r v ps ms) h =
    let a = name-short n in
    let p = counted-short 5 26 parent_bits ps (λ p i. parent_short p (h.parent p i).most) in
    let q = counted-short 9 9 mark_bits ms (λ k i. mark-short k) in
    let x = h.parents in
    let y = h.marks in
    let ps' = counted_bits 5 parent_bits ps in
    let ms' = counted_bits 9 mark_bits ms in
    omega (arith, length-append (name_bits n) (to_bits 8 r ++ (v ∷ ps' ++ ms')), length-append (to_bits 8 r) (v ∷ ps' ++ ms'), length-to_bits 8 r, length-append ps' ms')
item-short W (extension n v t r) h =
    let a = name-short n in
    omega (arith, length-append (name_bits n) (v ∷ t ∷ to_bits 8 r), length-to_bits 8 r)

-- the types placed are no more than the types
placed-short : (m : TypeMap) (k : ℕ) → length (passes m k).placed + length (passes m k).waiting ≡ length m.types
unfolding passes pass
placed-short m zero = omega arith
placed-short m (suc k) =
    let a = (passes m k).placed in
    let w = (passes m k).waiting in
    let h = placed-short m k in
    let f = filter (ready m a) w in
    let g = filter (λ T. not (ready m a T)) w in
    omega (arith, length-append a f, length-append f g, perm-length (filter-perm (ready m a) w))

pub order-short : (m : TypeMap) → length (organize_type_map m) ≤ length m.types
unfolding organize_type_map last_pass
order-short m =
    let k = length m.types in
    let h = placed-short m k in
    omega (arith, length-map (passes m k).placed (λ (T : TypeInfo). T.name))

pub order-bits-short : (ns : List Name) → length (order_bits ns) ≤ 7 + length ns * 17
unfolding order_bits
order-bits-short ns = counted-short 7 17 name_bits ns (λ n i. name-short n)

pub schedule-at-most : ScheduleAtMost
unfolding schedule_bits schedule_of
schedule-at-most s ok in' =
    let m = type_map_of s in
    let W = length s.words in
    let items = items_of (line_map s) in
    let a = order-bits-short (organize_type_map m) in
    let b = order-short m in
    let c = perm-length (types-perm s) in
    let d = in'.types in
    let e = counted-short 16 4515 item_bits items (λ x i. item-short W x (items-within s ok in' x i)) in
    let f = items-at-most s ok in' in
    omega (arith, length-append (order_bits (organize_type_map m)) (counted_bits 16 item_bits items))
