-- Where the schedule call accepts, the items are the lines of the map in their order.
use Rattle.std.specs.Prelude.{true, ◌≡◌, ℕ}
use mathlib.Core.List.{List, []}
use Rattle.std.proofs.Common.{sym, ◌∙◌}
use Rattle.std.proofs.Math.Path.{ap}
use borrow.Author.Tests.{not-false}
use Rattle.lists.specs.Lists.{null}
use Rattle.lists.specs.Tests.{null-nil}
use Rattle.definitions.specs.Records.{Sheet}
use Rattle.definitions.specs.Map.{type_map_of}
use Rattle.definitions.specs.Order.{has_order}
use Rattle.definitions.specs.Relisted.{Holds}
use Rattle.definitions.specs.Answer.{schedule, Input, Outcome, sheet_of, schedule_of, synthesis_rows, late_refusals, read_in, type_map_in, sheet_refusals, refusals, accept, first_refusal, outcome}
use Rattle.law_synthesis.specs.Rows.{items-listed}
use Rattle.law_reading.specs.Statements.{NoneHolds}
use Rattle.law_reading.specs.Refusals.{passed, none-front, all_pass}
use Rattle.law_reading.proofs.Answers.{accepted-exactly, passed-is-held}
use Rattle.answers.specs.declared.Settings.{Settings}
use Rattle.answers.specs.Answers.{Answer, answer_of, Answered, schedule_input}
use Rattle.access.specs.Lines.{Lists, LinesListed}

module _ (x : Settings) (s l d : List ℕ) (e : (outcome (schedule_input x s l d)).answer.number ≡ 0) where
  abbrev i : Input
  i = schedule_input x s l d

  none : NoneHolds (refusals i)
  none = (accepted-exactly i).0 e

  abbrev t : Sheet
  t = sheet_of (read_in i)

  holds : Holds s t
  unfolding refusals
  holds = (passed-is-held i (none-front (sheet_refusals i) (late_refusals i (type_map_in i)) none)).held

  has-order : has_order (type_map_of t) ≡ true
  unfolding refusals type_map_in
  has-order = not-false (has_order (type_map_of t)) (passed 8 (refusals i) none)

  no_rows : null (synthesis_rows schedule (type_map_of t)) ≡ true
  unfolding refusals type_map_in
  no_rows = not-false (null (synthesis_rows schedule (type_map_of t))) (passed 9 (refusals i) none)

  accepts : outcome i ≡ accept i
  unfolding outcome refusals first_refusal
  accepts = all_pass i (refusals i) [] none

  pub accepted-lists : Lists s l (outcome i).listing
  unfolding accept type_map_in schedule_of
  accepted-lists = record {
    s = t;
    holds = holds;
    written = ap (λ (o : Outcome). o.listing) accepts;
    items = items-listed t (record { readable = record { words = holds.words; once = holds.once }; order = has-order })
        (null-nil (synthesis_rows schedule (type_map_of t)) no_rows);
  }

-- so what a call promises has this too
pub due-lists : (x : Settings) (s l d l' d' : List ℕ) (a : Answer) → Answered a l' d' (outcome (schedule_input x s l d)) → LinesListed s l l' (answer_of a).number
due-lists x s l d l' d' a h = record {
  accepted = λ q.
      let e = h.outcome in
      let n : (outcome (schedule_input x s l d)).answer.number ≡ 0 = sym (ap (λ (o : Outcome). o.answer.number) e) ∙ q in
      let g : (outcome (schedule_input x s l d)).listing ≡ l' = sym (ap (λ (o : Outcome). o.listing) e) in
      rw g at (accepted-lists x s l d n);
}
