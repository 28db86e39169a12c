-- No other legal schedule has those bytes; and the worked example, from its bytes, for each theorem.
use Rattle.std.specs.Prelude.{List, map, ◌≡◌, refl, ℕ}
use Rattle.std.proofs.Common.{sym, ap, ◌∙◌, subst}
use Rattle.definitions.specs.Bits.{pack}
use Rattle.definitions.specs.Records.{TypeInfo, Item, Schedule}
use Rattle.definitions.specs.Packing.{schedule_bits}
use Rattle.definitions.specs.LegalSchedule.{LegalSchedule}
use Rattle.definitions.specs.Map.{type_map_of}
use Rattle.definitions.specs.Ancestry.{IsOrder}
use Rattle.definitions.specs.ItemOrder.{InOrder}
use Rattle.definitions.specs.Answer.{schedule, order, schedule_of}
use Rattle.definitions.specs.Cases.{run}
use Rattle.law_orders.proofs.Order.{order-exists}
use Rattle.law_lines.specs.Statements.{is_refused, any_refused}
use Rattle.law_lines.proofs.Refused.{accepted-is-tested}
use Rattle.law_synthesis.specs.Statements.{ListsLines}
use Rattle.law_reading.specs.Examples.{worked}
use Rattle.law_schedule.specs.Statements.{NamesInOrder, Listed, OrderListed, ReadToLines}
use Rattle.law_schedule.proofs.OneToOne.{bytes-determine}
use Rattle.law_schedule.proofs.Listed.{listed-exactly, order-listed-exactly, bytes-hold-lines, schedule-is-declared, bytes-are-declared}
use Rattle.law_schedule.specs.Examples.{everything, everything-legal, everything_bytes, everything-bytes, asked, accepted, listed_bytes, worked-written, worked_schedule, worked-bytes, worked-legal, worked-sheet, worked-readable}

-- ---- every construct: a two-word type, a parent of three words, both marks, an extension line

-- no other legal schedule has them
everything-only : (W : ℕ) (t : Schedule) → LegalSchedule W t → pack (schedule_bits t) ≡ everything_bytes → t ≡ everything
everything-only W t h e = bytes-determine W 5 t everything h everything-legal (e ∙ sym everything-bytes)

-- ---- the worked example, from its bytes

worked-listed : Listed (asked schedule)
worked-listed = listed-exactly (asked schedule) refl accepted.0

worked-order-listed : OrderListed (asked order)
worked-order-listed = order-listed-exactly (asked order) refl accepted.1

worked-lines : ReadToLines (asked schedule)
worked-lines = bytes-hold-lines (asked schedule) refl accepted.0

-- so what is listed is this schedule, and it holds the worked map's order and lines
worked-schedule : worked_schedule ≡ schedule_of schedule (type_map_of worked)
worked-schedule =
    worked-listed.bytes.only 4 worked_schedule worked-legal (worked-written.0 ∙ sym worked-bytes)
    ∙ ap (λ s. schedule_of schedule (type_map_of s)) (worked-sheet worked-listed.s worked-listed.holds)

worked-has-order : NamesInOrder worked worked_schedule.order
worked-has-order =
    subst (λ s. NamesInOrder s worked_schedule.order) (worked-sheet worked-lines.s worked-lines.holds)
    (worked-lines.names 4 worked_schedule worked-legal (worked-written.0 ∙ sym worked-bytes))

worked-has-lines : ListsLines worked worked_schedule.items
worked-has-lines =
    subst (λ s. ListsLines s worked_schedule.items) (worked-sheet worked-lines.s worked-lines.holds)
    (worked-lines.items 4 worked_schedule worked-legal (worked-written.0 ∙ sym worked-bytes))

-- the bytes are those of any types in order and any lines in order
worked-declared : (ts : List TypeInfo) (l : List Item) → IsOrder worked ts → InOrder worked l
    → listed_bytes ≡ pack (schedule_bits (record { order = map (λ (T : TypeInfo). T.name) ts; items = l }))
worked-declared ts l o h =
    let d = bytes-are-declared (asked schedule) refl accepted.0 in
    let e = sym (worked-sheet d.s d.holds) in
    sym worked-written.0 ∙ d.bytes ts l (subst (λ s. IsOrder s ts) e o) (subst (λ s. InOrder s l) e h)

-- and there are such
worked-items-in-order : InOrder worked worked_schedule.items
worked-items-in-order = worked-has-lines.in_order.ordered

worked-as-declared : (ts : List TypeInfo) (l : List Item) → IsOrder worked ts → InOrder worked l
    → schedule_of schedule (type_map_of worked) ≡ record { order = map (λ (T : TypeInfo). T.name) ts; items = l }
unfolding run any_refused is_refused
worked-as-declared =
    schedule-is-declared worked worked-readable ((order-exists worked (record { words = refl; names = refl })).0 refl)
    ((accepted-is-tested worked worked-readable).0 refl)
