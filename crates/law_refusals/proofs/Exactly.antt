-- The tests 8, 9 and 10 by what is declared of an order and of a refused type, and so the numbers of both calls.
use Rattle.std.specs.Prelude.{Bool, true, false, ◌⊎◌, ◌↔◌, ◌≡◌, ◌≤◌, ◌<◌, length}
use Rattle.std.proofs.Common.{inl, inr, ⊎_elim, sym, ap, ap₂, ◌∙◌, subst, arith}
use Rattle.lists.specs.Lists.{null}
use Rattle.lists.specs.Tests.{by, never, not_so, null-nil, any_of}
use Rattle.definitions.specs.Bits.{size}
use Rattle.definitions.specs.Records.{Sheet}
use Rattle.definitions.specs.Map.{LineType, type_map_of}
use Rattle.definitions.specs.Order.{has_order}
use Rattle.definitions.specs.Items.{ancestors}
use Rattle.definitions.specs.Ancestry.{HasOrder}
use Rattle.definitions.specs.Answer.{schedule, order, Input, sheet_of, schedule_of, bits_written, synthesis_rows, late_refusals, read_in, type_map_in, sheet_refusals, refusals, outcome}
use Rattle.law_orders.specs.Comparisons.{names-once}
use Rattle.law_orders.proofs.Order.{order-exists}
use Rattle.law_orders.specs.Alike.{map_read}
use Rattle.law_lines.specs.Statements.{Readable, line_map, Accepted, is_refused, any_refused}
use Rattle.law_lines.specs.Declarations.{type-of}
use Rattle.law_lines.proofs.Refused.{refused-is-tested, accepted-is-tested}
use Rattle.law_synthesis.specs.Rows.{rows-are-refusals}
use Rattle.law_reading.specs.Statements.{NoneHolds, PastSheetTests, before}
use Rattle.law_reading.specs.Refusals.{none-front}
use Rattle.law_reading.proofs.Answers.{each-on-its-condition, accepted-exactly, sheet-tests-exactly, passed-is-held}
use Rattle.law_refusals.specs.Statements.{SomeRefused, NoneRefused, schedule_size, order_size, ScheduleAnswers, ScheduleOfSheet, OrderAnswers, OrderOfSheet, ScheduleExactly, OrderExactly}
use Rattle.law_refusals.specs.Late.{needed, rowless, eight-tested, nine-tested, ten-tested, accepted-tested}

-- ---- refused types

-- a type is refused, or none is
refused-or-none : (s : Sheet) → Readable s → SomeRefused s ⊎ Accepted s
unfolding any_refused
refused-or-none s ok =
    let f : LineType → Bool = λ D. is_refused (line_map s) D (ancestors (line_map s) D) in
    by (any_refused (line_map s))
    (λ e.
    let x = any_of f (line_map s).types e in
    let t = type-of s x.1 in
    inl (t.0, t.1, (refused-is-tested s ok t.0).0 (subst (λ D. f D ≡ true) (sym t.2) x.2)))
    (λ e. inr ((accepted-is-tested s ok).0 e))

-- ---- the conditions of 8, 9 and 10, declared

module _ (i : Input) (s : Sheet) (h : PastSheetTests i s) where
  readable : Readable s
  readable = record { words = h.held.words; once = h.held.once }

  map_is : type_map_in i ≡ type_map_of s
  unfolding type_map_in
  map_is = map_read h.held

  order_is : (has_order (type_map_in i) ≡ true) ↔ HasOrder s
  order_is =
      let x = order-exists s (record { words = h.held.words; names = names-once s h.held.once }) in
      (λ e. x.0 (sym (ap has_order map_is) ∙ e), λ o. ap has_order map_is ∙ x.1 o)

  eight_is : ((outcome i).answer.number ≡ 8) ↔ (HasOrder s → ⊥)
  eight_is =
      let x = eight-tested i s h in
      (λ e o. never (order_is.1 o) (x.0 e), λ n. x.1 (not_so (λ e. n (order_is.0 e))))

  -- in the schedule call
  module _ (c : i.call ≡ schedule) where
    rows_is : rowless i ≡ null (synthesis_rows schedule (type_map_of s))
    rows_is = ap₂ (λ c m. null (synthesis_rows c m)) c map_is

    size_is : needed i ≡ schedule_size s
    size_is = ap₂ (λ c m. size (length (bits_written c (schedule_of c m)))) c map_is

    none_is : HasOrder s → (rowless i ≡ true) ↔ NoneRefused s
    none_is o =
        let x = rows-are-refusals s readable o in (
          λ e t. x.0 (null-nil _ (sym rows_is ∙ e)) t.0 t.1 t.2,
          λ n. rows_is ∙ ap null (x.1 (λ T j r. n (T, j, r))),
        )

    some_is : HasOrder s → (rowless i ≡ false) ↔ SomeRefused s
    some_is o = (
      λ e. ⊎_elim (λ t. t) (λ a. never ((none_is o).1 (λ t. a t.0 t.1 t.2)) e) (refused-or-none s readable),
      λ t. not_so (λ e. (none_is o).0 e t),
    )

  -- in the order-only call
  module _ (c : i.call ≡ order) where
    order-rowless : rowless i ≡ true
    order-rowless = ap (λ c. null (synthesis_rows c (type_map_in i))) c

    order-size-is : needed i ≡ order_size s
    order-size-is = ap₂ (λ c m. size (length (bits_written c (schedule_of c m)))) c map_is

-- ---- a sheet that is given

pub schedule-of-sheet : ScheduleOfSheet
schedule-of-sheet i s c h =
    let o = order_is i s h in
    let none = none_is i s h c in
    let some = some_is i s h c in
    let z = size_is i s h c in
    let nine = nine-tested i s h in
    let ten = ten-tested i s h in
    let zero = accepted-tested i s h in
    record {
      eight = eight_is i s h;
      nine = (λ e. let t = nine.0 e in let p = o.0 t.0 in (p, (some p).0 t.1), λ t. nine.1 (o.1 t.0, (some t.0).1 t.1));
      ten = (
        λ e. let t = ten.0 e in let p = o.0 t.0 in (p, (none p).0 t.1, subst (λ n. length i.listing < n) z t.2),
        λ t. ten.1 (o.1 t.0, (none t.0).1 t.1, subst (λ n. length i.listing < n) (sym z) t.2),
      );
      accepted = (
        λ e. let t = zero.0 e in let p = o.0 t.0 in (p, (none p).0 t.1, subst (λ n. n ≤ length i.listing) z t.2),
        λ t. zero.1 (o.1 t.0, (none t.0).1 t.1, subst (λ n. n ≤ length i.listing) (sym z) t.2),
      );
    }

pub order-of-sheet : OrderOfSheet
order-of-sheet i s c h =
    let o = order_is i s h in
    let none = order-rowless i s h c in
    let z = order-size-is i s h c in
    let ten = ten-tested i s h in
    let zero = accepted-tested i s h in
    record {
      eight = eight_is i s h;
      nine = λ e. never none ((nine-tested i s h).0 e).1;
      ten = (
        λ e. let t = ten.0 e in (o.0 t.0, subst (λ n. length i.listing < n) z t.2),
        λ t. ten.1 (o.1 t.0, none, subst (λ n. length i.listing < n) (sym z) t.1),
      );
      accepted = (
        λ e. let t = zero.0 e in (o.0 t.0, subst (λ n. n ≤ length i.listing) z t.2),
        λ t. zero.1 (o.1 t.0, none, subst (λ n. n ≤ length i.listing) (sym z) t.1),
      );
    }

-- ---- every input

-- what is answered by 8, 9, 10 or 0 has passed the tests before the order
module _ (i : Input) where
  past-sheet-tests : NoneHolds (sheet_refusals i) → (s : Sheet) × PastSheetTests i s
  past-sheet-tests h = (sheet_of (read_in i), passed-is-held i h)

  past-by-8 : (outcome i).answer.number ≡ 8 → (s : Sheet) × PastSheetTests i s
  unfolding refusals
  past-by-8 e = past-sheet-tests ((each-on-its-condition i 8 (omega arith)).0 e).0

  past-by-9 : (outcome i).answer.number ≡ 9 → (s : Sheet) × PastSheetTests i s
  unfolding refusals
  past-by-9 e = past-sheet-tests (none-front (sheet_refusals i) (before 9 (late_refusals i (type_map_in i))) ((each-on-its-condition i 9 (omega arith)).0 e).0)

  past-by-10 : (outcome i).answer.number ≡ 10 → (s : Sheet) × PastSheetTests i s
  unfolding refusals
  past-by-10 e = past-sheet-tests (none-front (sheet_refusals i) (before 10 (late_refusals i (type_map_in i))) ((each-on-its-condition i 10 (omega arith)).0 e).0)

  past-by-0 : (outcome i).answer.number ≡ 0 → (s : Sheet) × PastSheetTests i s
  unfolding refusals
  past-by-0 e = past-sheet-tests (none-front (sheet_refusals i) (late_refusals i (type_map_in i)) ((accepted-exactly i).0 e))

pub schedule-exactly : ScheduleExactly
schedule-exactly i c =
    let x : (s : Sheet) → PastSheetTests i s → ScheduleAnswers i s = λ s h. schedule-of-sheet i s c h in
    record {
      sheet-tests = sheet-tests-exactly i;
      eight = (λ e. let t = past-by-8 i e in (t.0, t.1, (x t.0 t.1).eight.0 e), λ t. (x t.0 t.1).eight.1 t.2);
      nine = (
        λ e. let t = past-by-9 i e in let u = (x t.0 t.1).nine.0 e in (t.0, t.1, u.0, u.1),
        λ t. (x t.0 t.1).nine.1 (t.2, t.3),
      );
      ten = (
        λ e. let t = past-by-10 i e in let u = (x t.0 t.1).ten.0 e in (t.0, t.1, u.0, u.1, u.2),
        λ t. (x t.0 t.1).ten.1 (t.2, t.3, t.4),
      );
      accepted = (
        λ e. let t = past-by-0 i e in let u = (x t.0 t.1).accepted.0 e in (t.0, t.1, u.0, u.1, u.2),
        λ t. (x t.0 t.1).accepted.1 (t.2, t.3, t.4),
      );
    }

pub order-exactly : OrderExactly
order-exactly i c =
    let x : (s : Sheet) → PastSheetTests i s → OrderAnswers i s = λ s h. order-of-sheet i s c h in
    record {
      sheet-tests = sheet-tests-exactly i;
      eight = (λ e. let t = past-by-8 i e in (t.0, t.1, (x t.0 t.1).eight.0 e), λ t. (x t.0 t.1).eight.1 t.2);
      nine = λ e. let t = past-by-9 i e in (x t.0 t.1).nine e;
      ten = (
        λ e. let t = past-by-10 i e in let u = (x t.0 t.1).ten.0 e in (t.0, t.1, u.0, u.1),
        λ t. (x t.0 t.1).ten.1 (t.2, t.3),
      );
      accepted = (
        λ e. let t = past-by-0 i e in let u = (x t.0 t.1).accepted.0 e in (t.0, t.1, u.0, u.1),
        λ t. (x t.0 t.1).accepted.1 (t.2, t.3),
      );
    }
