-- The two calls that turn a packed schedule into records, and records into a packed schedule: what each answers, and the lent
-- slice at exit, for every input (FORMAT 12).
use Rattle.std.specs.Prelude.{Bool, true, false, ◌||◌, List, ℕ, ◌*◌, ltb, length}
use Rattle.definitions.specs.Bits.{bits_of, pack}
use Rattle.definitions.specs.Parse.{Fault, past, not_allowed, Parsed, done, refused}
use Rattle.definitions.specs.Checks.{bad_fill}
use Rattle.definitions.specs.LegalSchedule.{least_words, most_words}
use Rattle.definitions.specs.Answer.{Answer, overwrite}
use Rattle.definitions.specs.ScheduleFields.{Form, packed, recorded, read_fields, write_fields, schedule_fields}

-- The answer, and the lent slice at exit.
pub record Converted : Type 0 where
  pub answer : Answer
  pub output : List ℕ

-- The number of a fault in a schedule or in its records (FORMAT 12.3).
abbrev pub schedule_fault : Fault → ℕ
schedule_fault past = 11
schedule_fault not_allowed = 12

-- A refusal names no size and writes nothing (FORMAT 12.4).
abbrev pub turned_away : Fault → List ℕ → Converted
turned_away f lent = record { answer = record { number = schedule_fault f; size = 0; rows = 0; more = false }; output = lent }

-- Acceptance writes the bytes of the bits and names how many they are; what is lent behind them stays (FORMAT 12.4).
abbrev pub written : List Bool → List ℕ → Converted
written bs lent = record {
  answer = record { number = 0; size = length (pack bs); rows = 0; more = false };
  output = overwrite (pack bs) lent;
}

-- What came of the fields; behind the last one no bit is set and no byte follows (FORMAT 12.3).
abbrev pub concluded : (List ℕ → List Bool) → Parsed (List ℕ) → List ℕ → Converted
concluded bits (refused f) lent = turned_away f lent
concluded bits (done vs rest) lent = elim (bad_fill rest) [ true ↦ turned_away not_allowed lent | false ↦ written (bits vs) lent ]

-- W is not 2 to 200 (FORMAT 1.2).
abbrev pub bad_width : ℕ → Bool
bad_width W = ltb W least_words || ltb most_words W

-- The bytes of one form into lent bytes of another. W is tested before anything is read (FORMAT 12.3).
unfoldable pub convert : Form → Form → ℕ → List ℕ → List ℕ → Converted
convert from to W source lent =
    let fields = schedule_fields W in
    elim (bad_width W) [
      | true ↦ turned_away not_allowed lent
      | false ↦ concluded (write_fields to fields) (read_fields from to fields (8 * length lent) (bits_of source)) lent
    ]

-- A packed schedule into records (FORMAT 12.1).
abbrev pub read_schedule : ℕ → List ℕ → List ℕ → Converted
read_schedule W schedule records = convert packed recorded W schedule records

-- Records into a packed schedule (FORMAT 12.1).
abbrev pub write_schedule : ℕ → List ℕ → List ℕ → Converted
write_schedule W records schedule = convert recorded packed W records schedule
