-- What is proved about reading a schedule back. Each statement is a type of its own; its proof stands in the file that is named
-- beside it, instances in Examples.antt.
use Rattle.std.specs.Prelude.{Bool, true, false, List, [], ◌∷◌, ◌++◌, ◌⊎◌, ◌↔◌, ◌≡◌, ℕ, ◌*◌, ◌-◌, ◌^◌, ◌≤◌, ◌<◌, length, take}
use Rattle.lists.specs.Lists.{In}
use Rattle.definitions.specs.Bits.{to_bits, bits_of, pack}
use Rattle.definitions.specs.Parse.{Fault, past, not_allowed}
use Rattle.definitions.specs.Records.{Name, Sheet, Schedule}
use Rattle.definitions.specs.Map.{type_map_of}
use Rattle.definitions.specs.Packing.{order_bits, schedule_bits}
use Rattle.definitions.specs.LegalSchedule.{LegalWidth, LegalOrder, LegalSchedule}
use Rattle.definitions.specs.Relisted.{Holds}
use Rattle.definitions.specs.Answer.{schedule, Input, overwrite, schedule_of, outcome}
use Rattle.definitions.specs.ScheduleFields.{Fields, field, Form, packed, recorded, unwritten, schedule_fields, write_fields}
use Rattle.definitions.specs.Conversion.{Converted, convert, read_schedule, write_schedule}
use Rattle.definitions.specs.Values.{schedule_values, records_of}
use Rattle.law_synthesis.specs.Statements.{ListsLines}
use Rattle.law_reading.specs.Statements.{Bytes}
use Rattle.law_schedule.specs.Statements.{bytes_written, NamesInOrder}

-- the bytes that a schedule is packed into (FORMAT 6.4)
abbrev pub schedule_bytes : Schedule → List ℕ
schedule_bytes s = pack (schedule_bits s)

-- acceptance: these bytes stand at the start of what was lent, and what is behind them stays (FORMAT 12.4)
abbrev pub gives : List ℕ → List ℕ → Converted
gives bytes lent = record {
  answer = record { number = 0; size = length bytes; rows = 0; more = false };
  output = overwrite bytes lent;
}

-- ---- what is accepted (Exactly.antt)

-- the bytes are those of the legal schedule s, and what is lent has room for its records
pub record CanRead (W : ℕ) (bytes lent : List ℕ) (s : Schedule) : Type 0 where
  pub legal : LegalSchedule W s
  pub packed : bytes ≡ schedule_bytes s
  pub room : length (records_of s) ≤ length lent

-- the bytes are the records of the legal schedule s, and what is lent has room for its bytes
pub record CanWrite (W : ℕ) (bytes lent : List ℕ) (s : Schedule) : Type 0 where
  pub legal : LegalSchedule W s
  pub recorded : bytes ≡ records_of s
  pub room : length (schedule_bytes s) ≤ length lent

-- Bytes are read exactly if they are those of a legal schedule and its records have room.
abbrev pub ReadsExactly : Type 0
ReadsExactly =
    (W : ℕ) (bytes lent : List ℕ) → Bytes bytes →
    ((read_schedule W bytes lent).answer.number ≡ 0) ↔ ((s : Schedule) × CanRead W bytes lent s)

-- Then the records are written, and the answer says how many bytes they are.
abbrev pub ReadsRecords : Type 0
ReadsRecords =
    (W : ℕ) (bytes lent : List ℕ) (s : Schedule) → CanRead W bytes lent s →
    read_schedule W bytes lent ≡ gives (records_of s) lent

-- They are read to one schedule only, whatever W is.
abbrev pub ReadsOne : Type 0
ReadsOne = (W W' : ℕ) (bytes lent : List ℕ) (s t : Schedule) → CanRead W bytes lent s → CanRead W' bytes lent t → s ≡ t

-- Records are written as a schedule exactly if they are those of a legal one and its bytes have room.
abbrev pub WritesExactly : Type 0
WritesExactly =
    (W : ℕ) (bytes lent : List ℕ) → Bytes bytes →
    ((write_schedule W bytes lent).answer.number ≡ 0) ↔ ((s : Schedule) × CanWrite W bytes lent s)

-- Then its bytes are written, and the answer says how many they are.
abbrev pub WritesSchedule : Type 0
WritesSchedule =
    (W : ℕ) (bytes lent : List ℕ) (s : Schedule) → CanWrite W bytes lent s →
    write_schedule W bytes lent ≡ gives (schedule_bytes s) lent

-- They are the records of one schedule only, whatever W is.
abbrev pub WritesOne : Type 0
WritesOne = (W W' : ℕ) (bytes lent : List ℕ) (s t : Schedule) → CanWrite W bytes lent s → CanWrite W' bytes lent t → s ≡ t

-- ---- the first fault (Faults.antt)

-- The first field with a fault, both ends before its value: what it is turned into passes the end of the room, it passes the
-- end of the bits itself, or its value is not allowed; where it is in order, the first fault is behind it (FORMAT 12.3).
pub data FirstFault (from to : Form) : Fields → ℕ → List Bool → Fault → Type 0 where
  room_ends : {n least most room : ℕ} {follow : ℕ → Fields} {bits : List Bool} → room < to n →
      FirstFault from to (field n least most follow) room bits past
  bits_end : {n least most room : ℕ} {follow : ℕ → Fields} {bits : List Bool} → length bits < from n →
      FirstFault from to (field n least most follow) room bits past
  bad_value : {n least most room : ℕ} {follow : ℕ → Fields} {bits : List Bool} (v : ℕ) (rest : List Bool) → to n ≤ room →
      bits ≡ to_bits (from n) v ++ rest → v < 2 ^ from n → (v < least) ⊎ (most < v) →
      FirstFault from to (field n least most follow) room bits not_allowed
  later : {n least most room : ℕ} {follow : ℕ → Fields} {bits : List Bool} {f : Fault} (v : ℕ) (rest : List Bool) → to n ≤ room →
      bits ≡ to_bits (from n) v ++ rest → v < 2 ^ from n → least ≤ v → v ≤ most →
      FirstFault from to (follow v) (room - to n) rest f → FirstFault from to (field n least most follow) room bits f

-- the first fault of bytes in the room that is lent
abbrev pub FaultIn : Form → Form → ℕ → List ℕ → List ℕ → Fault → Type 0
FaultIn from to W bytes lent f = FirstFault from to (schedule_fields W) (8 * length lent) (bits_of bytes) f

-- the bits of a schedule in a form
abbrev pub bits_in : Form → ℕ → Schedule → List Bool
bits_in form W s = write_fields form (schedule_fields W) (schedule_values s)

-- a legal schedule that has room, and behind it a byte or more, or a bit that is set
pub record BadBehind (from to : Form) (W : ℕ) (bytes lent : List ℕ) : Type 0 where
  pub s : Schedule
  pub rest : List Bool
  pub legal : LegalSchedule W s
  pub begins : bits_of bytes ≡ bits_in from W s ++ rest
  pub room : length (bits_in to W s) ≤ 8 * length lent
  pub bad : (8 ≤ length rest) ⊎ In true rest

-- 11 exactly if W is good and the first fault is a field that passes an end; 12 exactly if W is not, or the first fault is a
-- value that is not allowed, or no field has one and what is behind them is no fill (FORMAT 12.3).
pub record Numbers (from to : Form) (W : ℕ) (bytes lent : List ℕ) : Type 0 where
  pub eleven : ((convert from to W bytes lent).answer.number ≡ 11) ↔ (LegalWidth W × FaultIn from to W bytes lent past)
  pub twelve : ((convert from to W bytes lent).answer.number ≡ 12)
      ↔ ((LegalWidth W → ⊥) ⊎ ((LegalWidth W × FaultIn from to W bytes lent not_allowed) ⊎ BadBehind from to W bytes lent))

-- This is so of both calls, and of a walk without records.
abbrev pub ReadsNumbers : Type 0
ReadsNumbers = (W : ℕ) (bytes lent : List ℕ) → Numbers packed recorded W bytes lent

abbrev pub WritesNumbers : Type 0
WritesNumbers = (W : ℕ) (bytes lent : List ℕ) → Numbers recorded packed W bytes lent

abbrev pub WalksNumbers : Type 0
WalksNumbers = (W : ℕ) (bytes : List ℕ) → Numbers packed unwritten W bytes []

-- ---- what is refused (Refused.antt)

-- Both calls, and a walk without records, answer 0, 11 or 12.
abbrev pub ThreeNumbers : Type 0
ThreeNumbers =
    (from to : Form) (W : ℕ) (bytes lent : List ℕ) → In (convert from to W bytes lent).answer.number (0 ∷ 11 ∷ 12 ∷ [])

-- a refusal names nothing but its number, and what was lent is as it was
pub record Untouched (c : Converted) (lent : List ℕ) : Type 0 where
  pub size : c.answer.size ≡ 0
  pub rows : c.answer.rows ≡ 0
  pub more : c.answer.more ≡ false
  pub output : c.output ≡ lent

abbrev pub RefusalsTouchNothing : Type 0
RefusalsTouchNothing =
    (from to : Form) (W : ℕ) (bytes lent : List ℕ) → ((convert from to W bytes lent).answer.number ≡ 0 → ⊥) →
    Untouched (convert from to W bytes lent) lent

-- A number of words that is not 2 to 200 is 12, whatever the bytes and the room are.
abbrev pub WidthFirst : Type 0
WidthFirst =
    (from to : Form) (W : ℕ) (bytes lent : List ℕ) → (LegalWidth W → ⊥) → (convert from to W bytes lent).answer.number ≡ 12

-- Too little room for the records of a legal schedule is 11, and so is too little for its bytes.
abbrev pub NoRoomForRecords : Type 0
NoRoomForRecords =
    (W : ℕ) (lent : List ℕ) (s : Schedule) → LegalSchedule W s → length lent < length (records_of s) →
    (read_schedule W (schedule_bytes s) lent).answer.number ≡ 11

abbrev pub NoRoomForSchedule : Type 0
NoRoomForSchedule =
    (W : ℕ) (lent : List ℕ) (s : Schedule) → LegalSchedule W s → length lent < length (schedule_bytes s) →
    (write_schedule W (records_of s) lent).answer.number ≡ 11

-- A legal schedule that is cut short is 11, and so are its records.
abbrev pub CutScheduleIs11 : Type 0
CutScheduleIs11 =
    (W : ℕ) (lent : List ℕ) (s : Schedule) (k : ℕ) → LegalSchedule W s → k < length (schedule_bytes s) →
    (read_schedule W (take k (schedule_bytes s)) lent).answer.number ≡ 11

abbrev pub CutRecordsAre11 : Type 0
CutRecordsAre11 =
    (W : ℕ) (lent : List ℕ) (s : Schedule) (k : ℕ) → LegalSchedule W s → k < length (records_of s) →
    (write_schedule W (take k (records_of s)) lent).answer.number ≡ 11

-- One with more bytes behind it, for which there is room, is 12, and so are its records.
abbrev pub MoreBytesAre12 : Type 0
MoreBytesAre12 =
    (W : ℕ) (lent : List ℕ) (s : Schedule) (b : ℕ) (more : List ℕ) → CanRead W (schedule_bytes s) lent s →
    (read_schedule W (schedule_bytes s ++ b ∷ more) lent).answer.number ≡ 12

abbrev pub MoreRecordsAre12 : Type 0
MoreRecordsAre12 =
    (W : ℕ) (lent : List ℕ) (s : Schedule) (b : ℕ) (more : List ℕ) → CanWrite W (records_of s) lent s →
    (write_schedule W (records_of s ++ b ∷ more) lent).answer.number ≡ 12

-- What an order-only call lists has no item count: as a schedule it is 11, whatever the room is (FORMAT 6.5).
abbrev pub OrderOnlyIs11 : Type 0
OrderOnlyIs11 =
    (W : ℕ) (lent : List ℕ) (ns : List Name) → LegalOrder W ns →
    (read_schedule W (pack (order_bits ns)) lent).answer.number ≡ 11

-- The records of a legal schedule are at most 16 times its bytes.
abbrev pub SixteenTimes : Type 0
SixteenTimes = (W : ℕ) (s : Schedule) → LegalSchedule W s → length (records_of s) ≤ 16 * length (schedule_bytes s)

-- Where the lent slice has 16 times as many bytes as the schedule, the room decides nothing: the number is that of a walk without
-- records.
abbrev pub RoomAlwaysSuffices : Type 0
RoomAlwaysSuffices =
    (W : ℕ) (bytes lent : List ℕ) → 16 * length bytes ≤ length lent →
    (read_schedule W bytes lent).answer.number ≡ (convert packed unwritten W bytes []).answer.number

-- ---- there and back (RoundTrips.antt)

-- of what was lent, as many bytes from the start as the answer's size says
abbrev pub bytes_given : Converted → List ℕ
bytes_given c = take c.answer.size c.output

-- What was read is written back to the bytes that it was read from.
abbrev pub WriteAfterRead : Type 0
WriteAfterRead =
    (W : ℕ) (bytes lent back : List ℕ) → Bytes bytes → (read_schedule W bytes lent).answer.number ≡ 0 →
    length bytes ≤ length back → write_schedule W (bytes_given (read_schedule W bytes lent)) back ≡ gives bytes back

-- What was written is read back to the records that it was written from.
abbrev pub ReadAfterWrite : Type 0
ReadAfterWrite =
    (W : ℕ) (bytes lent back : List ℕ) → Bytes bytes → (write_schedule W bytes lent).answer.number ≡ 0 →
    length bytes ≤ length back → read_schedule W (bytes_given (write_schedule W bytes lent)) back ≡ gives bytes back

-- ---- what our writer makes (RoundTrips.antt)

-- the schedule of a sheet
abbrev pub schedule_in : Sheet → Schedule
schedule_in s = schedule_of schedule (type_map_of s)

-- What the schedule call has listed is read back, W being the number of the sheet's words: the records are those of the sheet's
-- schedule, whose names are in order and whose items are the lines of the map, each once and in their order; and these records
-- are written back to the bytes listed.
pub record ReadBack (i : Input) : Type 0 where
  pub s : Sheet
  pub holds : Holds i.sheet s
  pub names : NamesInOrder s (schedule_in s).order
  pub items : ListsLines s (schedule_in s).items
  pub read : (lent : List ℕ) → length (records_of (schedule_in s)) ≤ length lent →
      read_schedule (length s.words) (bytes_written i) lent ≡ gives (records_of (schedule_in s)) lent
  pub written : (lent : List ℕ) → length (bytes_written i) ≤ length lent →
      write_schedule (length s.words) (records_of (schedule_in s)) lent ≡ gives (bytes_written i) lent

abbrev pub OursIsRead : Type 0
OursIsRead = (i : Input) → i.call ≡ schedule → (outcome i).answer.number ≡ 0 → ReadBack i
