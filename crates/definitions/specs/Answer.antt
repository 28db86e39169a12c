-- The eleven refusals, and acceptance: what each call answers, and both lent slices at exit, for every input (FORMAT 7).
use Rattle.std.specs.Prelude.{Bool, true, false, ◌||◌, not, List, [], ◌∷◌, ◌++◌, ℕ, ◌*◌, min, eqb, ltb, length, take, drop}
use Rattle.lists.specs.Lists.{null, each}
use Rattle.definitions.specs.Bits.{bits_of, size, pack}
use Rattle.definitions.specs.Parse.{Fault, past, not_allowed, Parsed, done, refused}
use Rattle.definitions.specs.Records.{Sheet, Item, Schedule, Row}
use Rattle.definitions.specs.Reading.{sheet}
use Rattle.definitions.specs.Checks.{bad_fill, bad_words, something_twice}
use Rattle.definitions.specs.Map.{TypeMap, type_map_of, line_map_of}
use Rattle.definitions.specs.Order.{has_order, organize_type_map}
use Rattle.definitions.specs.OrderRows.{order_rows}
use Rattle.definitions.specs.Synthesis.{synthesis}
use Rattle.definitions.specs.Items.{items_of}
use Rattle.definitions.specs.Packing.{order_bits, schedule_bits, row_bytes}

-- What a call is set to: how many rows of a diagnosis are written at most (FORMAT 8.2).
pub record Settings : Type 0 where
  pub rows : ℕ

-- The highest limit of rows (FORMAT 8.2).
abbrev pub most_rows : ℕ
most_rows = 256

-- As many rows as may be (FORMAT 8.2).
abbrev pub standard : Settings
standard = record { rows = most_rows }

-- As many rows as the programs print, where they are told no limit (FORMAT 9.5).
abbrev pub shown : Settings
shown = record { rows = 64 }

-- Whether the limit of rows is none of 1 to 256 (FORMAT 8.2).
abbrev pub bad_limit : Settings → Bool
bad_limit s = eqb s.rows 0 || ltb most_rows s.rows

-- The two calls (FORMAT 7.1).
pub data Call : Type 0 where
  schedule order : Call

-- A call's input: the sheet, and the lent slices as they are at entry (FORMAT 7.1).
pub record Input : Type 0 where
  pub settings : Settings
  pub call : Call
  pub sheet : List ℕ
  pub listing : List ℕ
  pub diagnosis : List ℕ

-- The parts of an answer; the number is 0 for acceptance, and a part that is not named is 0 (FORMAT 7.4).
pub record Answer : Type 0 where
  pub number : ℕ
  pub size : ℕ
  pub rows : ℕ
  pub more : Bool

-- The answer, and the lent slices at exit.
pub record Outcome : Type 0 where
  pub answer : Answer
  pub listing : List ℕ
  pub diagnosis : List ℕ

-- ---- what was read

-- The number of a fault in a sheet (FORMAT 7.2).
abbrev pub sheet_fault : Fault → ℕ
sheet_fault past = 3
sheet_fault not_allowed = 4

-- Whether two faults are the same.
abbrev pub same_fault : Fault → Fault → Bool
same_fault past past = true
same_fault past not_allowed = false
same_fault not_allowed past = false
same_fault not_allowed not_allowed = true

-- Whether reading ended with this fault.
abbrev pub refused_by : {A : Type 0} → Fault → Parsed A → Bool
refused_by f (done a rest) = false
refused_by f (refused g) = same_fault f g

-- The bits behind the last field.
abbrev pub rest_of : {A : Type 0} → Parsed A → List Bool
rest_of (done a rest) = rest
rest_of (refused f) = []

-- The sheet that was read, or an empty one where reading was refused, which no later test sees.
abbrev pub sheet_of : Parsed Sheet → Sheet
sheet_of (done s rest) = s
sheet_of (refused f) = record { words = []; types = []; extensions = [] }

-- ---- what an accepted sheet gives

-- The items that a call writes; the order-only call has none.
abbrev pub items_written : Call → TypeMap → List Item
items_written schedule m = items_of (line_map_of m)
items_written order m = []

-- The order of the types, and the items that a call writes.
unfoldable pub schedule_of : Call → TypeMap → Schedule
schedule_of call m = record { order = organize_type_map m; items = items_written call m }

-- The bits that a call writes (FORMAT 6.1, 6.5).
abbrev pub bits_written : Call → Schedule → List Bool
bits_written schedule s = schedule_bits s
bits_written order s = order_bits s.order

-- The new bytes, and behind them what was there (FORMAT 7.4).
abbrev pub overwrite : List ℕ → List ℕ → List ℕ
overwrite new old = new ++ drop (length new) old

-- ---- the refusals

-- A refusal: its number, its test, and the rows and the size that its answer names. A test is made only when no earlier one
-- holds, so it is a function.
pub record Refusal : Type 0 where
  pub number : ℕ
  pub holds : Unit {0} → Bool
  pub rows : Unit {0} → List Row
  pub size : Unit {0} → ℕ

-- A refusal that names neither rows nor a size.
abbrev pub bare : ℕ → (Unit {0} → Bool) → Refusal
bare n test = record { number = n; holds = test; rows = λ u. []; size = λ u. 0 }

-- 8 and 9 have rows (FORMAT 8.2).
abbrev pub diagnosed : ℕ → (Unit {0} → Bool) → (Unit {0} → List Row) → Refusal
diagnosed n test rows = record { number = n; holds = test; rows = rows; size = λ u. 0 }

-- 10 names the size that is needed (FORMAT 7.4).
abbrev pub short : ℕ → (Unit {0} → Bool) → (Unit {0} → ℕ) → Refusal
short n test size = record { number = n; holds = test; rows = λ u. []; size = size }

-- The rows of refusal 9, which the order-only call never gives (FORMAT 7.2).
abbrev pub synthesis_rows : Call → TypeMap → List Row
synthesis_rows schedule m = (synthesis m).rows
synthesis_rows order m = []

-- 1, 17 and 2: the sheet is too long, the limit not allowed, the diagnosis slice too short for it (FORMAT 7.2).
abbrev pub early_refusals : Input → List Refusal
early_refusals i =
    bare 1 (λ u. ltb 40960 (length i.sheet))
    ∷ bare 17 (λ u. bad_limit i.settings)
    ∷ bare 2 (λ u. ltb (length i.diagnosis) (6 * i.settings.rows))
    ∷ []

-- 3, 4 and 7: what came of reading the sheet, which has at most one fault, and what is left behind it (FORMAT 7.2).
abbrev pub reading_refusals : Parsed Sheet → List Refusal
reading_refusals r =
    bare (sheet_fault past) (λ u. refused_by past r)
    ∷ bare (sheet_fault not_allowed) (λ u. refused_by not_allowed r)
    ∷ bare 7 (λ u. bad_fill (rest_of r))
    ∷ []

-- 5 and 6: the words, and what stands twice (FORMAT 7.2).
abbrev pub content_refusals : Sheet → List Refusal
content_refusals s = bare 5 (λ u. bad_words s.words) ∷ bare 6 (λ u. something_twice s) ∷ []

-- 8, 9 and 10: the order, the synthesis, and the size of what is written (FORMAT 7.2).
abbrev pub late_refusals : Input → TypeMap → List Refusal
late_refusals i m =
    let rs = synthesis_rows i.call m in
    let n = size (length (bits_written i.call (schedule_of i.call m))) in
    diagnosed 8 (λ u. not (has_order m)) (λ u. order_rows m)
    ∷ diagnosed 9 (λ u. not (null rs)) (λ u. rs)
    ∷ short 10 (λ u. ltb (length i.listing) n) (λ u. n)
    ∷ []

-- What the sheet of an input is read to.
abbrev pub read_in : Input → Parsed Sheet
read_in i = sheet (bits_of i.sheet)

-- The map of an input.
unfoldable pub type_map_in : Input → TypeMap
type_map_in i = type_map_of (sheet_of (read_in i))

-- The tests before the order is asked for: 1, 17, 2, 3, 4, 7, 5, 6 (FORMAT 7.3).
abbrev pub sheet_refusals : Input → List Refusal
sheet_refusals i = early_refusals i ++ reading_refusals (read_in i) ++ content_refusals (sheet_of (read_in i))

-- The eleven tests in their order (FORMAT 7.3).
unfoldable pub refusals : Input → List Refusal
refusals i = sheet_refusals i ++ late_refusals i (type_map_in i)

-- A refusal leaves both slices, but the rows of 8 and 9, up to the limit, go to the start of the diagnosis slice; the flag is
-- set exactly if there are more (FORMAT 7.4, 8.2).
unfoldable pub reject : Input → Refusal → Outcome
reject i r =
    let rs = r.rows tt in
    record {
      answer = record {
        number = r.number;
        size = r.size tt;
        rows = min i.settings.rows (length rs);
        more = ltb i.settings.rows (length rs);
      };
      listing = i.listing;
      diagnosis = overwrite (each row_bytes (take i.settings.rows rs)) i.diagnosis;
    }

-- Acceptance writes the listing, names its size, and leaves the diagnosis slice (FORMAT 7.4).
unfoldable pub accept : Input → Outcome
accept i =
    let bytes = pack (bits_written i.call (schedule_of i.call (type_map_in i))) in
    record {
      answer = record { number = 0; size = length bytes; rows = 0; more = false };
      listing = overwrite bytes i.listing;
      diagnosis = i.diagnosis;
    }

-- The first refusal that holds, or acceptance.
unfoldable pub first_refusal : Input → List Refusal → Outcome
first_refusal i [] = accept i
first_refusal i (r ∷ l) = elim (r.holds tt) [ true ↦ reject i r | false ↦ first_refusal i l ]

-- The outcome of a call.
unfoldable pub outcome : Input → Outcome
outcome i = first_refusal i (refusals i)
