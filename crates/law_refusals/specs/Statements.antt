-- The eleven refusals and acceptance, each exactly on its condition, for every input of either call: from bytes, and for 8, 9
-- and 10 by what is declared of an order and of a refused type; the proofs are in Exactly.antt. And what a smaller limit of rows
-- leaves; the proof is in Fewer.antt.
use Rattle.std.specs.Prelude.{◌||◌, List, ◌↔◌, ◌≡◌, ℕ, ◌*◌, ◌≤◌, ◌<◌, min, ltb, length, take}
use Rattle.lists.specs.Lists.{In}
use Rattle.definitions.specs.Bits.{size}
use Rattle.definitions.specs.Records.{TypeInfo, Sheet}
use Rattle.definitions.specs.Map.{type_map_of}
use Rattle.definitions.specs.Ancestry.{HasOrder}
use Rattle.definitions.specs.Lines.{Refused}
use Rattle.definitions.specs.Packing.{order_bits, schedule_bits}
use Rattle.definitions.specs.Answer.{schedule, order, Input, Outcome, schedule_of, outcome}
use Rattle.law_reading.specs.Statements.{ExactlyIf, AllFit, PastSheetTests, limited}

-- ---- the conditions

-- a type of the sheet is refused; none is
abbrev pub SomeRefused : Sheet → Type 0
SomeRefused s = (T : TypeInfo) × In T s.types × Refused s T

abbrev pub NoneRefused : Sheet → Type 0
NoneRefused s = SomeRefused s → ⊥

-- how many bytes the schedule call writes: N, the names and the items
abbrev pub schedule_size : Sheet → ℕ
schedule_size s = size (length (schedule_bits (schedule_of schedule (type_map_of s))))

-- how many bytes the order-only call writes: N and the names
abbrev pub order_size : Sheet → ℕ
order_size s = size (length (order_bits (schedule_of order (type_map_of s)).order))

-- ---- a sheet that is given

-- What the schedule call answers to bytes that hold the sheet: 8 if it has no order; else 9 if a type is refused; else 10 if the
-- listing is shorter than the schedule; else 0. Each also only if.
pub record ScheduleAnswers (i : Input) (s : Sheet) : Type 0 where
  pub eight : ((outcome i).answer.number ≡ 8) ↔ (HasOrder s → ⊥)
  pub nine : ((outcome i).answer.number ≡ 9) ↔ (HasOrder s × SomeRefused s)
  pub ten : ((outcome i).answer.number ≡ 10) ↔ (HasOrder s × NoneRefused s × (length i.listing < schedule_size s))
  pub accepted : ((outcome i).answer.number ≡ 0) ↔ (HasOrder s × NoneRefused s × (schedule_size s ≤ length i.listing))

abbrev pub ScheduleOfSheet : Type 0
ScheduleOfSheet = (i : Input) (s : Sheet) → i.call ≡ schedule → PastSheetTests i s → ScheduleAnswers i s

-- What the order-only call answers: 8 if it has no order; else 10 if the listing is shorter than N and the names; else 0. It never
-- answers 9.
pub record OrderAnswers (i : Input) (s : Sheet) : Type 0 where
  pub eight : ((outcome i).answer.number ≡ 8) ↔ (HasOrder s → ⊥)
  pub nine : (outcome i).answer.number ≡ 9 → ⊥
  pub ten : ((outcome i).answer.number ≡ 10) ↔ (HasOrder s × (length i.listing < order_size s))
  pub accepted : ((outcome i).answer.number ≡ 0) ↔ (HasOrder s × (order_size s ≤ length i.listing))

abbrev pub OrderOfSheet : Type 0
OrderOfSheet = (i : Input) (s : Sheet) → i.call ≡ order → PastSheetTests i s → OrderAnswers i s

-- ---- every input

-- The same of every input: 8, 9, 10 and 0 are answered only where the bytes hold a sheet and the rows fit. With the conditions
-- of 1 to 7 and 17 this is all that the schedule call's number says. What the tests 7, 5 and 6 find is declared in
-- reading_laws: FillExactly, WordsExactly, TwiceExactly.
pub record ScheduleExactlyIf (i : Input) : Type 0 where
  pub sheet-tests : ExactlyIf i
  pub eight : ((outcome i).answer.number ≡ 8) ↔ ((s : Sheet) × PastSheetTests i s × (HasOrder s → ⊥))
  pub nine : ((outcome i).answer.number ≡ 9) ↔ ((s : Sheet) × PastSheetTests i s × HasOrder s × SomeRefused s)
  pub ten : ((outcome i).answer.number ≡ 10) ↔ ((s : Sheet) × PastSheetTests i s × HasOrder s × NoneRefused s × (length i.listing < schedule_size s))
  pub accepted : ((outcome i).answer.number ≡ 0) ↔ ((s : Sheet) × PastSheetTests i s × HasOrder s × NoneRefused s × (schedule_size s ≤ length i.listing))

abbrev pub ScheduleExactly : Type 0
ScheduleExactly = (i : Input) → i.call ≡ schedule → ScheduleExactlyIf i

-- and all that the order-only call's number says
pub record OrderExactlyIf (i : Input) : Type 0 where
  pub sheet-tests : ExactlyIf i
  pub eight : ((outcome i).answer.number ≡ 8) ↔ ((s : Sheet) × PastSheetTests i s × (HasOrder s → ⊥))
  pub nine : (outcome i).answer.number ≡ 9 → ⊥
  pub ten : ((outcome i).answer.number ≡ 10) ↔ ((s : Sheet) × PastSheetTests i s × HasOrder s × (length i.listing < order_size s))
  pub accepted : ((outcome i).answer.number ≡ 0) ↔ ((s : Sheet) × PastSheetTests i s × HasOrder s × (order_size s ≤ length i.listing))

abbrev pub OrderExactly : Type 0
OrderExactly = (i : Input) → i.call ≡ order → OrderExactlyIf i

-- ---- two limits

-- the bytes of the rows that are written
abbrev pub rows_written : Outcome → List ℕ
rows_written o = take (6 * o.answer.rows) o.diagnosis

-- What is left under a limit of m rows, by what is left under a larger one: the same number, size and listing, and the first m of
-- the rows. There are more if some of these were dropped, or if there were more already.
pub record FirstOf (m : ℕ) (few many : Outcome) : Type 0 where
  pub number : few.answer.number ≡ many.answer.number
  pub size : few.answer.size ≡ many.answer.size
  pub listing : few.listing ≡ many.listing
  pub rows : few.answer.rows ≡ min m many.answer.rows
  pub written : rows_written few ≡ take (6 * m) (rows_written many)
  pub more : few.answer.more ≡ (ltb m many.answer.rows || many.answer.more)

-- A smaller limit leaves fewer rows and nothing else, where the rows of the larger one fit.
abbrev pub FewerRows : Type 0
FewerRows = (i : Input) (m n : ℕ) → 0 < m → m ≤ n → AllFit (limited n i) → FirstOf m (outcome (limited m i)) (outcome (limited n i))
