-- The tests 8, 9 and 10, where the bytes hold a sheet and the rows fit.
use Rattle.std.specs.Prelude.{Bool, true, false, not, List, ◌↔◌, ◌≡◌, refl, ℕ, ◌≤◌, ◌<◌, length}
use Rattle.std.proofs.Common.{sym, ap, ◌∙◌, lt-ltb, le-ltb, ltb-true, ltb-false}
use Rattle.std.proofs.lemmas.Bool.{not-true, not-false}
use Rattle.lists.specs.Lists.{null}
use Rattle.definitions.specs.Bits.{size}
use Rattle.definitions.specs.Records.{Sheet}
use Rattle.definitions.specs.Order.{has_order}
use Rattle.definitions.specs.Answer.{Input, Outcome, schedule_of, bits_written, Refusal, synthesis_rows, late_refusals, type_map_in, sheet_refusals, refusals, first_refusal, outcome}
use Rattle.law_reading.specs.Statements.{PastSheetTests}
use Rattle.law_reading.specs.Refusals.{Numbered, answered, none-answered, all_pass}
use Rattle.law_reading.proofs.Answers.{held-passes}

-- what a call writes, in bytes, and whether the synthesis leaves no row, where the call asks for it
module _ (i : Input) where
  abbrev pub needed : ℕ
  needed = size (length (bits_written i.call (schedule_of i.call (type_map_in i))))

  abbrev pub rowless : Bool
  rowless = null (synthesis_rows i.call (type_map_in i))

  module _ (s : Sheet) (h : PastSheetTests i s) where
    abbrev late : List Refusal
    late = late_refusals i (type_map_in i)

    is-late : outcome i ≡ first_refusal i late
    unfolding outcome refusals
    is-late = all_pass i (sheet_refusals i) late (held-passes i s h)

    numbered : Numbered late
    numbered = record { positive = refl; apart = refl }

    number-late : (outcome i).answer.number ≡ (first_refusal i late).answer.number
    number-late = ap (λ (o : Outcome). o.answer.number) is-late

    pub eight-tested : ((outcome i).answer.number ≡ 8) ↔ (has_order (type_map_in i) ≡ false)
    eight-tested =
        let x = answered i 8 late refl numbered in
        (λ e. not-true (has_order (type_map_in i)) (x.0 (sym number-late ∙ e)).1, λ e. number-late ∙ x.1 (tt, ap not e))

    pub nine-tested : ((outcome i).answer.number ≡ 9) ↔ ((has_order (type_map_in i) ≡ true) × (rowless ≡ false))
    nine-tested =
        let x = answered i 9 late refl numbered in (
          λ e. let t = x.0 (sym number-late ∙ e) in (not-false (has_order (type_map_in i)) t.0.0, not-true rowless t.1),
          λ t. number-late ∙ x.1 ((ap not t.0, tt), ap not t.1),
        )

    pub ten-tested : ((outcome i).answer.number ≡ 10) ↔ ((has_order (type_map_in i) ≡ true) × (rowless ≡ true) × (length i.listing < needed))
    ten-tested =
        let x = answered i 10 late refl numbered in (
          λ e.
              let t = x.0 (sym number-late ∙ e) in
              (not-false (has_order (type_map_in i)) t.0.0, not-false rowless t.0.1.0, ltb-true (length i.listing) needed t.1),
          λ t. number-late ∙ x.1 ((ap not t.0, (ap not t.1, tt)), lt-ltb (length i.listing) needed t.2),
        )

    pub accepted-tested : ((outcome i).answer.number ≡ 0) ↔ ((has_order (type_map_in i) ≡ true) × (rowless ≡ true) × (needed ≤ length i.listing))
    accepted-tested =
        let x = none-answered i late numbered.positive in (
          λ e.
              let t = x.0 (sym number-late ∙ e) in
              (not-false (has_order (type_map_in i)) t.0, not-false rowless t.1.0, ltb-false (length i.listing) needed t.1.1.0),
          λ t. number-late ∙ x.1 (ap not t.0, (ap not t.1, (le-ltb (length i.listing) needed t.2, tt))),
        )
