-- What the functions that turn one form of a schedule into the other owe.
use Rattle.std.specs.Prelude.{Bool, true, false, not, cond, List, [], ◌++◌, ◌≡◌, ℕ, ◌+◌, ◌*◌, ◌-◌, ◌%◌, ◌^◌, ◌≤◌, ◌<◌, length, drop, Result, Ok, Err, MatchResult}
use Rattle.definitions.specs.Bits.{bits_of}
use Rattle.definitions.specs.Answer as rules
use Rattle.definitions.specs.Parse.{not_allowed, Parsed, done, refused, Parser}
use Rattle.definitions.specs.Checks.{bad_fill}
use Rattle.definitions.specs.ScheduleFields.{Fields, Form, packed, recorded, read_fields, write_fields, schedule_fields}
use Rattle.definitions.specs.Conversion.{Converted, schedule_fault, turned_away, written}
use Rattle.bits.specs.Writing.{put}
use Rattle.fields.specs.declared.Fault.{Fault}
use Rattle.fields.specs.Fields.{fault_of}
use Rattle.schedule_fields.specs.declared.Place.{Place}
use Rattle.schedule_fields.specs.Places.{fields_at, fields_left}
use Rattle.schedule_values.specs.Meeting.{most_bits}

-- ---- one field

-- The two forms (FORMAT 12.2).
abbrev pub form_of : Bool → Form
form_of true = packed
form_of false = recorded

-- A field has a bit at least; a record is two whole bytes (FORMAT 12.2).
pub record Aligned (packed : Bool) (n p : ℕ) : Type 0 where
  pub some : 0 < n
  pub wide : packed ≡ false → n ≡ 16
  pub even : packed ≡ false → p % 8 ≡ 0

-- ---- all fields

-- What was read, as the bits that it has in the other form.
abbrev pub mapped : (List ℕ → List Bool) → Parsed (List ℕ) → Parsed (List Bool)
mapped f (done vs rest) = done (f vs) rest
mapped f (refused e) = refused e

-- What fields come to, with the bits xs made of those before them.
unfoldable pub left : Form → Form → Fields → List Bool → ℕ → Parser (List Bool)
left from to f xs room bs = mapped (λ vs. xs ++ write_fields to f vs) (read_fields from to f room bs)

-- What all fields of a source come to where `bytes` bytes are lent.
abbrev pub whole : ℕ → Bool → List ℕ → ℕ → Parsed (List Bool)
whole W reading source bytes = left (form_of reading) (form_of (not reading)) (schedule_fields W) [] (8 * bytes) (bits_of source)

-- Behind the last field no bit is set and no byte follows (FORMAT 12.3).
abbrev pub filled : Parsed (List Bool) → Parsed (List Bool)
filled (done xs rest) = cond (bad_fill rest) (refused not_allowed) (done xs rest)
filled (refused f) = refused f

-- What is told of them.
abbrev pub told : Parsed (List Bool) → List ℕ → Converted
told (done xs rest) lent = written xs lent
told (refused f) lent = turned_away f lent

-- Before the field at a place, with p bits of the source read and q bits of the target made. With the pen down they were written;
-- records are whole bytes.
pub record Going (W : ℕ) (reading down : Bool) (source lent now : List ℕ) (place : Place) (p q : ℕ) : Type 0 where
  pub bits : List Bool
  pub same : whole W reading source (length lent)
      ≡ left (form_of reading) (form_of (not reading)) (fields_at W place) bits (8 * length lent - q) (drop p (bits_of source))
  pub long : q ≡ length bits
  pub wrote : now ≡ cond down (put lent 0 bits) lent
  pub even : reading ≡ true → q % 8 ≡ 0
  pub fits : q ≤ 8 * length lent
  pub few_read : p + 16 * fields_left place ≤ most_bits
  pub few_written : q + 16 * fields_left place ≤ most_bits

-- All fields were gone through, and made so many bits, those of the other form.
pub record Made (W : ℕ) (reading down : Bool) (source before after : List ℕ) (n : ℕ) : Type 0 where
  pub bits : List Bool
  pub rest : List Bool
  pub same : filled (whole W reading source (length before)) ≡ done bits rest
  pub long : n ≡ length bits
  pub wrote : after ≡ cond down (put before 0 bits) before
  pub fits : n ≤ 8 * length before
  pub few : n ≤ most_bits

-- Or one is refused, or what stands behind them.
pub record Unmade (W : ℕ) (reading : Bool) (source before : List ℕ) (f : Fault) : Type 0 where
  pub same : filled (whole W reading source (length before)) ≡ refused (fault_of f)

-- With the pen up nothing was touched.
pub record Passes (W : ℕ) (reading down : Bool) (source before after : List ℕ) (r : Result ℕ Fault) : Type 0 where
  pub untouched : down ≡ false → after ≡ before
  pub came : MatchResult r (λ n. Made W reading down source before after n) (λ f. Unmade W reading source before f)

-- ---- a call

-- The parts of an answer: acceptance has the number 0, a refusal its number alone (FORMAT 12.4).
abbrev pub answer_of : Result ℕ Fault → rules.Answer
answer_of (Ok size) = record { number = 0; size = size; rows = 0; more = false }
answer_of (Err f) = record { number = schedule_fault (fault_of f); size = 0; rows = 0; more = false }

-- What a call promises where o is due: the parts and the lent slice at exit are those of o, and the size is a number of 32 bits.
pub record Converts (r : Result ℕ Fault) (output : List ℕ) (o : Converted) : Type 0 where
  pub outcome : record { answer = answer_of r; output = output } ≡ o
  pub small : (answer_of r).size < 2 ^ 32
