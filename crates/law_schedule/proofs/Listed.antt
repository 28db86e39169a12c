-- From the bytes of an accepted sheet to what its listing holds.
use Rattle.std.specs.Prelude.{true, ◌≡◌, ℕ, length, drop}
use mathlib.Core.List.{List, [], map}
use Rattle.std.proofs.Math.Path.{refl, ap}
use Rattle.std.proofs.Common.{sym, ap₂, ◌∙◌, subst}
use borrow.Author.Tests.{not-false}
use Rattle.std.proofs.Math.ListN.{take}
use Rattle.std.proofs.Math.Seq
use Rattle.lists.specs.Lists.{null}
use Rattle.lists.specs.Tests.{null-nil}
use Rattle.definitions.specs.Bits.{bits_of, pack}
use Rattle.definitions.specs.Records.{Name, TypeInfo, Sheet, Item, Schedule}
use Rattle.definitions.specs.Map.{type_map_of}
use Rattle.definitions.specs.Order.{has_order, last_pass, organize_type_map}
use Rattle.definitions.specs.Packing.{order_bits, schedule_bits}
use Rattle.definitions.specs.LegalSchedule.{LegalOrder, LegalSchedule}
use Rattle.definitions.specs.Ancestry.{IsOrder}
use Rattle.definitions.specs.ItemOrder.{InOrder, OnlyInOrder}
use Rattle.definitions.specs.Relisted.{Holds}
use Rattle.definitions.specs.Answer.{Call, schedule, order, Input, Outcome, sheet_of, schedule_of, bits_written, synthesis_rows, late_refusals, read_in, type_map_in, sheet_refusals, refusals, accept, first_refusal, outcome}
use Rattle.law_orders.specs.Statements.{WellNamed}
use Rattle.law_orders.specs.Comparisons.{names-once}
use Rattle.law_orders.proofs.Order.{order-exists, order-is-by-round, order-is-one}
use Rattle.law_lines.specs.Within.{Within}
use Rattle.law_lines.specs.Reading.{read-is-within}
use Rattle.law_lines.specs.InOrder.{items-in-order}
use Rattle.law_synthesis.specs.Statements.{Ordered, ListsLines}
use Rattle.law_synthesis.specs.Rows.{items-listed}
use Rattle.law_reading.specs.Statements.{NoneHolds}
use Rattle.law_reading.specs.Refusals.{passed, none-front, all_pass}
use Rattle.law_reading.proofs.Answers.{accepted-exactly, passed-is-held}
use Rattle.law_schedule.specs.Statements.{bytes_written, BytesOf, OrderBytesOf, NamesInOrder, ListedExactly, OrderListedExactly, BytesHoldLines, ScheduleIsDeclared, BytesAreDeclared}
use Rattle.law_schedule.proofs.OneToOne.{bytes-determine, order-bytes-determine}
use Rattle.law_schedule.proofs.Written.{written-is-legal, written-order-is-legal}

-- ---- a sheet that is readable and has an order

module _ (s : Sheet) (o : Ordered s) where
  names-in-order : NamesInOrder s (organize_type_map (type_map_of s))
  unfolding organize_type_map
  names-in-order =
      let w : WellNamed s = record { words = o.readable.words; names = names-once s o.readable.once } in
      record { types = (last_pass (type_map_of s)).placed; ordered = order-is-by-round s w ((order-exists s w).0 o.order); named = refl }

-- ---- the bytes

bytes_of : (W : ℕ) (c : Schedule) (bytes : List ℕ) → LegalSchedule W c → bytes ≡ pack (schedule_bits c) → BytesOf W c bytes
bytes_of W c bytes h e = record { legal = h; packed = e; only = λ W' t k f. bytes-determine W' W t c k h (sym f ∙ e) }

order-bytes-of : (W : ℕ) (ns : List Name) (bytes : List ℕ) → LegalOrder W ns → bytes ≡ pack (order_bits ns) → OrderBytesOf W ns bytes
order-bytes-of W ns bytes h e = record { legal = h; packed = e; only = λ W' ms k f. order-bytes-determine W' W ms ns k h (sym f ∙ e) }

-- ---- an input that is accepted

module _ (i : Input) (e : (outcome i).answer.number ≡ 0) where
  none : NoneHolds (refusals i)
  none = (accepted-exactly i).0 e

  abbrev s : Sheet
  s = sheet_of (read_in i)

  holds : Holds i.sheet s
  unfolding refusals
  holds = (passed-is-held i (none-front (sheet_refusals i) (late_refusals i (type_map_in i)) none)).held

  within : Within s
  within = read-is-within (bits_of i.sheet) holds.rest s holds.read

  ordered : Ordered s
  unfolding refusals type_map_in
  ordered = record {
    readable = record { words = holds.words; once = holds.once };
    order = not-false (has_order (type_map_of s)) (passed 8 (refusals i) none);
  }

  no_rows : null (synthesis_rows i.call (type_map_of s)) ≡ true
  unfolding refusals type_map_in
  no_rows = not-false (null (synthesis_rows i.call (type_map_of s))) (passed 9 (refusals i) none)

  accepts : outcome i ≡ accept i
  unfolding outcome refusals first_refusal
  accepts = all_pass i (refusals i) [] none

  was-written : (c : Call) → i.call ≡ c → bytes_written i ≡ pack (bits_written c (schedule_of c (type_map_of s)))
  unfolding accept type_map_in
  was-written c q =
      let bytes = pack (bits_written i.call (schedule_of i.call (type_map_of s))) in
      ap (λ (o : Outcome). take o.answer.size o.listing) accepts
      ∙ Seq.take_at bytes (drop (length bytes) i.listing) (length bytes) refl
      ∙ ap (λ c. pack (bits_written c (schedule_of c (type_map_of s)))) q

-- ---- the calls

pub listed-exactly : ListedExactly
unfolding schedule_of
listed-exactly i q e =
    let s' = s i e in
    let o = ordered i e in
    let m = type_map_of s' in
    record {
      s = s';
      holds = holds i e;
      bytes = bytes_of (length s'.words) (schedule_of schedule m) (bytes_written i) (written-is-legal s' o.readable (within i e)) (was-written i e schedule q);
      names = names-in-order s' o;
      items = items-listed s' o (null-nil (synthesis_rows schedule m) (subst (λ c. null (synthesis_rows c m) ≡ true) q (no_rows i e)));
    }

pub order-listed-exactly : OrderListedExactly
unfolding schedule_of
order-listed-exactly i q e =
    let s' = s i e in
    let o = ordered i e in
    record {
      s = s';
      holds = holds i e;
      bytes = order-bytes-of (length s'.words) (organize_type_map (type_map_of s')) (bytes_written i) (written-order-is-legal s' (within i e)) (was-written i e order q);
      names = names-in-order s' o;
    }

pub bytes-hold-lines : BytesHoldLines
bytes-hold-lines i q e =
    let l = listed-exactly i q e in
    record {
      s = l.s;
      holds = l.holds;
      names = λ W t h f. subst (λ (c : Schedule). NamesInOrder l.s c.order) (sym (l.bytes.only W t h f)) l.names;
      items = λ W t h f. subst (λ (c : Schedule). ListsLines l.s c.items) (sym (l.bytes.only W t h f)) l.items;
    }

-- a schedule whose names are in order and whose items are the only list in order is known from what is declared
declared-schedule : (s : Sheet) (c : Schedule) → NamesInOrder s c.order → OnlyInOrder s c.items
    → (ts : List TypeInfo) (l : List Item) → IsOrder s ts → InOrder s l → c ≡ record { order = map (λ (T : TypeInfo). T.name) ts; items = l }
declared-schedule s c n i ts l o h =
    let e : c.order ≡ map (λ (T : TypeInfo). T.name) ts =
    n.named ∙ ap (map (λ (T : TypeInfo). T.name)) (order-is-one s n.types ts n.ordered o) in
    ap₂ (λ ns (k : List Item). record { order = ns; items = k }) e (sym (i.only l h))

pub schedule-is-declared : ScheduleIsDeclared
unfolding schedule_of
schedule-is-declared s ok o a =
    let w : WellNamed s = record { words = ok.words; names = names-once s ok.once } in
    let n = names-in-order s (record { readable = ok; order = (order-exists s w).1 o }) in
    declared-schedule s (schedule_of schedule (type_map_of s)) n (items-in-order s ok a)

pub bytes-are-declared : BytesAreDeclared
bytes-are-declared i q e =
    let l = listed-exactly i q e in
    record {
      s = l.s;
      holds = l.holds;
      bytes = λ ts k o h.
          l.bytes.packed
          ∙ ap (λ c. pack (schedule_bits c)) (declared-schedule l.s (schedule_of schedule (type_map_of l.s)) l.names l.items.in_order ts k o h);
    }
