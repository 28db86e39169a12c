-- Demand 3, as it is proved: from bytes to answers, for both calls and every length of the lent slices. Each statement is a type
-- of its own; the proofs are in Alike.antt.
use Rattle.std.specs.Prelude.{true, false, List, ◌≡◌, ℕ, ◌*◌, ◌≤◌, ◌<◌, length}
use Rattle.definitions.specs.Bits.{pack}
use Rattle.definitions.specs.Records.{Name, Sheet, Schedule}
use Rattle.definitions.specs.Packing.{order_bits, schedule_bits}
use Rattle.definitions.specs.LegalSchedule.{LegalOrder, LegalSchedule}
use Rattle.definitions.specs.Answer.{Input, Outcome, schedule_of, type_map_in, outcome}
use Rattle.definitions.specs.Relisted.{Holds, Compared, RelistedInputs, Alike}
use Rattle.law_reading.specs.Statements.{test17}
use Rattle.law_schedule.specs.Statements.{bytes_written}

-- Two sheets that are relisted get one number and one size from a call; where the number is 0, the bytes written are equal.
abbrev pub AnswersAlike : Type 0
AnswersAlike = (i j : Input) → RelistedInputs i j → Alike i j

-- The schedules that are packed into these bytes are equal, item by item: so they have one order, and the same lines in the same
-- order.
abbrev pub SchedulesEqual : Type 0
SchedulesEqual = (i j : Input) → RelistedInputs i j → (outcome i).answer.number ≡ 0 → schedule_of i.call (type_map_in i) ≡ schedule_of j.call (type_map_in j)

-- Hence whoever reads the bytes back finds one schedule, or one list of names, whatever legal schedules the bytes are taken for.
abbrev pub ReadAlike : Type 0
ReadAlike =
    (i j : Input) → RelistedInputs i j → (outcome i).answer.number ≡ 0 → (W W' : ℕ) (s t : Schedule) → LegalSchedule W s →
    LegalSchedule W' t → bytes_written i ≡ pack (schedule_bits s) → bytes_written j ≡ pack (schedule_bits t) → s ≡ t

abbrev pub OrderReadAlike : Type 0
OrderReadAlike =
    (i j : Input) → RelistedInputs i j → (outcome i).answer.number ≡ 0 → (W W' : ℕ) (ns ms : List Name) → LegalOrder W ns →
    LegalOrder W' ms → bytes_written i ≡ pack (order_bits ns) → bytes_written j ≡ pack (order_bits ms) → ns ≡ ms

-- Where the lent listings are equal at entry, they are equal at exit, whatever the number.
abbrev pub ListingsEqual : Type 0
ListingsEqual = (i j : Input) → RelistedInputs i j → i.listing ≡ j.listing → (outcome i).listing ≡ (outcome j).listing

-- Bytes that hold a sheet are never left out: whatever they answer is compared.
abbrev pub HeldIsCompared : Type 0
HeldIsCompared = (i : Input) (s : Sheet) → Holds i.sheet s → Compared i

-- a refusal that names nothing but its number: the other parts of the answer are 0, and both slices are as they were lent
abbrev pub number_alone : ℕ → Input → Outcome
number_alone n i = record { answer = record { number = n; size = 0; rows = 0; more = false }; listing = i.listing; diagnosis = i.diagnosis }

-- a sheet that is not too long goes to a call under a limit that is not allowed
pub record WrongLimit (i : Input) : Type 0 where
  pub sheet : length i.sheet ≤ 40960
  pub limit : test17 i ≡ true

-- Any two such sheets, relisted or not, readable or not, both get 17, and nothing else.
abbrev pub WrongLimitsAlike : Type 0
WrongLimitsAlike = (i j : Input) → WrongLimit i → WrongLimit j → (outcome i ≡ number_alone 17 i) × (outcome j ≡ number_alone 17 j)

-- a sheet that is not too long goes to a call whose limit is allowed and whose diagnosis slice is too short for it
pub record ShortSlice (i : Input) : Type 0 where
  pub sheet : length i.sheet ≤ 40960
  pub limit : test17 i ≡ false
  pub diagnosis : length i.diagnosis < 6 * i.settings.rows

-- Any two such sheets, relisted or not, readable or not, both get 2, and nothing else.
abbrev pub ShortSlicesAlike : Type 0
ShortSlicesAlike = (i j : Input) → ShortSlice i → ShortSlice j → (outcome i ≡ number_alone 2 i) × (outcome j ≡ number_alone 2 j)
