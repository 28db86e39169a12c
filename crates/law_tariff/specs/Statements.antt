-- What is proved about a tariff and its charges. Each statement is a type of its own; its proof stands in the file that is named
-- beside it, instances in Examples.antt.
use mathlib.Core.List.{List, [], ◌∷◌, ◌++◌, Permᴰ}
use Rattle.std.specs.Prelude.{◌↔◌, ◌≡◌, ℕ, ◌*◌, ◌≤◌, ◌<◌, ℤ, pos, nat_abs, length}
use Rattle.lists.specs.Lists.{In, Sorted}
use Rattle.definitions.specs.Records.{Sheet, Item, Schedule}
use Rattle.definitions.specs.Legal.{Every}
use Rattle.definitions.specs.LegalSchedule.{LegalSchedule}
use Rattle.definitions.specs.Relisted.{Holds, RelistedInputs}
use Rattle.definitions.specs.Answer.{schedule, Input, outcome}
use Rattle.definitions.specs.ScheduleFields.{packed, unwritten}
use Rattle.definitions.specs.Conversion.{convert}
use Rattle.law_synthesis.specs.Statements.{MakesLines}
use Rattle.law_reading.specs.Statements.{Bytes}
use Rattle.law_schedule.specs.Statements.{bytes_written}
use Rattle.law_records.specs.Statements.{schedule_bytes}
use Rattle.tariff_definitions.specs.Tariff.{TariffRow, rows_of, tariff_number, total_of, Charged, charged}

-- ---- legal tariffs

-- A row's sort and number: of resources that are not virtual, or are, 2 to 17 parents; of extension lines 0 (FORMAT 13.1).
pub data LegalKey (sort number : ℤ) : Type 0 where
  real : (parents : ℕ) → sort ≡ pos 0 → number ≡ pos parents → 2 ≤ parents → parents ≤ 17 → LegalKey sort number
  virtual : (parents : ℕ) → sort ≡ pos 1 → number ≡ pos parents → 2 ≤ parents → parents ≤ 17 → LegalKey sort number
  line : sort ≡ pos 2 → number ≡ pos 0 → LegalKey sort number

-- A row: its rate is -99,999 to 99,999 hundredths (FORMAT 13.1).
pub record LegalRow (r : TariffRow) : Type 0 where
  pub key : LegalKey r.sort r.number
  pub rate : nat_abs r.rate ≤ 99999

-- Two rows with one sort and one number (FORMAT 13.2).
abbrev pub SameKey : TariffRow → TariffRow → Type 0
SameKey r q = (r.sort ≡ q.sort) × (r.number ≡ q.number)

-- Of a list of rows, one and a later one have one key (FORMAT 13.2).
pub data KeyTwice : List TariffRow → Type 0 where
  first : {r : TariffRow} {l : List TariffRow} (q : TariffRow) → In q l → SameKey r q → KeyTwice (r ∷ l)
  behind : {r : TariffRow} {l : List TariffRow} → KeyTwice l → KeyTwice (r ∷ l)

-- The numbers of rows, three for each (FORMAT 13.1).
unfoldable pub numbers_of : List TariffRow → List ℤ
numbers_of [] = []
numbers_of (r ∷ l) = r.sort ∷ r.number ∷ r.rate ∷ numbers_of l

-- The tariff is whole rows, each of which is legal (FORMAT 13.1).
pub record LegalRows (t : List ℤ) (rows : List TariffRow) : Type 0 where
  pub whole : t ≡ numbers_of rows
  pub legal : Every LegalRow rows

-- A tariff of 99 numbers at most, whose rows are legal and have keys that differ (FORMAT 13.1, 13.2).
pub record LegalTariff (t : List ℤ) : Type 0 where
  pub few : length t ≤ 99
  pub rows : List TariffRow
  pub legal : LegalRows t rows
  pub apart : Sorted (λ r q. SameKey r q → ⊥) rows

-- ---- which number (Tariffs.antt)

-- A tariff is not refused exactly if it is legal (FORMAT 13.2).
abbrev pub TariffAccepted : Type 0
TariffAccepted = (t : List ℤ) → (tariff_number t ≡ 0) ↔ LegalTariff t

-- 14 exactly if the tariff has more than 99 numbers; 15 exactly if it has not, and is not whole legal rows; 16 exactly if it is,
-- and two of them have one key (FORMAT 13.2).
pub record Refusals (t : List ℤ) (number : ℕ) : Type 0 where
  pub fourteen : (number ≡ 14) ↔ (99 < length t)
  pub fifteen : (number ≡ 15) ↔ ((length t ≤ 99) × (((rows : List TariffRow) × LegalRows t rows) → ⊥))
  pub sixteen : (number ≡ 16) ↔ ((length t ≤ 99) × ((rows : List TariffRow) × LegalRows t rows × KeyTwice rows))

-- So it is answered, whatever the schedule is (FORMAT 13.2).
abbrev pub TariffNumbers : Type 0
TariffNumbers = (t : List ℤ) (W : ℕ) (bytes : List ℕ) → Refusals t (charged t W bytes).number

-- No other number is answered than these, 0, and the two of a schedule (FORMAT 13.4).
abbrev pub SixNumbers : Type 0
SixNumbers = (t : List ℤ) (W : ℕ) (bytes : List ℕ) → In (charged t W bytes).number (0 ∷ 11 ∷ 12 ∷ 14 ∷ 15 ∷ 16 ∷ [])

-- A refusal charges nothing (FORMAT 13.4).
abbrev pub RefusalsChargeNothing : Type 0
RefusalsChargeNothing =
    (t : List ℤ) (W : ℕ) (bytes : List ℕ) → ((charged t W bytes).number ≡ 0 → ⊥) → (charged t W bytes).total ≡ pos 0

-- ---- what is charged (Charged.antt)

-- Where the tariff is not refused, the number is that of a walk through the schedule without records, of which `WalksNumbers` of
-- `law_records` tells when it is 11 and when 12 (FORMAT 12.3, 13.2).
abbrev pub NumbersOfSchedule : Type 0
NumbersOfSchedule =
    (t : List ℤ) (W : ℕ) (bytes : List ℕ) → tariff_number t ≡ 0 →
    (charged t W bytes).number ≡ (convert packed unwritten W bytes []).answer.number

-- The answer that accepts: what the rows of a tariff charge for items (FORMAT 13.4).
abbrev pub accepts : List ℤ → List Item → Charged
accepts t xs = record { number = 0; total = total_of (rows_of t) xs }

-- The bytes of a legal schedule are charged the sum over its items (FORMAT 13.3).
abbrev pub LegalSum : Type 0
LegalSum =
    (t : List ℤ) (W : ℕ) (s : Schedule) → tariff_number t ≡ 0 → LegalSchedule W s →
    charged t W (schedule_bytes s) ≡ accepts t s.items

-- The tariff is not refused, and the bytes are those of a legal schedule, over whose items the sum is (FORMAT 13.2, 13.3).
pub record IsCharged (t : List ℤ) (W : ℕ) (bytes : List ℕ) : Type 0 where
  pub tariff : tariff_number t ≡ 0
  pub s : Schedule
  pub legal : LegalSchedule W s
  pub packed : bytes ≡ schedule_bytes s
  pub sum : charged t W bytes ≡ accepts t s.items

-- Nothing else is accepted (FORMAT 13.2).
abbrev pub OnlyLegal : Type 0
OnlyLegal = (t : List ℤ) (W : ℕ) (bytes : List ℕ) → Bytes bytes → (charged t W bytes).number ≡ 0 → IsCharged t W bytes

-- ---- promises (Promises.antt)

-- The rows may stand in any order, also where a broken one is behind them (FORMAT 13.5).
abbrev pub AnyRowOrder : Type 0
AnyRowOrder =
    (rows shuffled : List TariffRow) (broken : List ℤ) (W : ℕ) (bytes : List ℕ) → Permᴰ rows shuffled → length broken < 3 →
    charged (numbers_of rows ++ broken) W bytes ≡ charged (numbers_of shuffled ++ broken) W bytes

-- What the schedule call has listed is charged the sum over the lines of the sheet, each once, in whatever order they are taken
-- (FORMAT 13.5).
abbrev pub FromTheSheet : Type 0
FromTheSheet =
    (t : List ℤ) (i : Input) (s : Sheet) (xs : List Item) → tariff_number t ≡ 0 → i.call ≡ schedule → (outcome i).answer.number ≡ 0 →
    Holds i.sheet s → MakesLines s xs → charged t (length s.words) (bytes_written i) ≡ accepts t xs

-- What is listed of relisted sheets is charged alike under every tariff (FORMAT 5.4, 13.5).
abbrev pub RelistedTotals : Type 0
RelistedTotals =
    (t : List ℤ) (i j : Input) (r : RelistedInputs i j) → (outcome i).answer.number ≡ 0 →
    charged t (length r.s.words) (bytes_written i) ≡ charged t (length r.t.words) (bytes_written j)

-- ---- how great a sum can be (Bounds.antt)

-- 65,535 items, 16 rows for each, and the greatest rate (FORMAT 13.5).
abbrev pub most_sum : ℕ
most_sum = 65535 * 16 * 99999

-- At most 16 rows reach an item, so the sum over the items of a schedule is at most 65,535 times 16 times 99,999, charged or
-- credited (FORMAT 13.5).
abbrev pub Fits : Type 0
Fits = (t : List ℤ) (xs : List Item) → tariff_number t ≡ 0 → length xs ≤ 65535 → nat_abs (total_of (rows_of t) xs) ≤ most_sum

-- No answer has a greater sum, whatever is given (FORMAT 13.5).
abbrev pub AnswersFit : Type 0
AnswersFit = (t : List ℤ) (W : ℕ) (bytes : List ℕ) → Bytes bytes → nat_abs (charged t W bytes).total ≤ most_sum
