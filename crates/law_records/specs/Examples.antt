-- Schedules on which the statements speak of something: every construct, every limit, one that no writer of ours makes, and the
-- worked example from its sheet.
use Rattle.std.specs.Prelude.{true, false, List, [], ◌∷◌, ◌≡◌, refl, ℕ, ◌≤◌, length}
use mathlib.Core.List.Memᴰ
use Rattle.std.proofs.Common.{inr, sym, subst, arith}
use Rattle.definitions.specs.Bits.{odd, to_bits, bits_of, num, pack_to, pack}
use Rattle.definitions.specs.Records.{synthesized, extension, Schedule}
use Rattle.definitions.specs.Packing.{name_bits, parent_bits, mark_bits, item_bits, order_bits, schedule_bits}
use Rattle.definitions.specs.LegalSchedule.{LegalWidth, LegalSchedule}
use Rattle.definitions.specs.Values.{name_values, parent_values, mark_values, item_values, schedule_values, records_of}
use Rattle.definitions.specs.ScheduleFields.{times, packed, recorded, schedule_fields, write_fields}
use Rattle.definitions.specs.Answer.{schedule, Input, standard, outcome}
use Rattle.definitions.specs.Cases.{hex, lent, run}
use Rattle.law_reading.specs.Statements.{Bytes}
use Rattle.law_reading.specs.Packed.{pack-bytes}
use Rattle.law_reading.specs.Examples.{worked_bytes}
use Rattle.law_schedule.specs.Examples.{everything, everything-legal, sized, worked_schedule}
use Rattle.law_records.specs.Statements.{schedule_bytes, CanRead, CanWrite, BadBehind}

-- ---- every construct

abbrev pub everything_bytes : List ℕ
everything_bytes = hex 22 0x04000080800140202820020209160002088180ffeff8

abbrev pub everything_records : List ℕ
everything_records = hex 66 0x0002000000000000000100010002000100000001000100000001000400000000000100010004000100020003000000010004000100030003000100ff0000000100ff

-- its bytes and its records, computed; of a record the high byte is first
pub everything-bytes : schedule_bytes everything ≡ everything_bytes
unfolding odd to_bits num pack_to pack name_bits parent_bits mark_bits item_bits order_bits schedule_bits
everything-bytes = refl

pub everything-records : records_of everything ≡ everything_records
unfolding name_values parent_values mark_values item_values schedule_values records_of
everything-records = refl

pub everything-can-read : CanRead 5 everything_bytes (lent 66) everything
everything-can-read = record { legal = everything-legal; packed = sym everything-bytes; room = subst (λ r. length r ≤ 66) (sym everything-records) (omega arith) }

pub everything-are-bytes : Bytes everything_bytes
everything-are-bytes = subst Bytes everything-bytes (pack-bytes (schedule_bits everything))

pub everything-can-write : CanWrite 5 everything_records (lent 22) everything
everything-can-write = record { legal = everything-legal; recorded = sym everything-records; room = subst (λ p. length p ≤ 22) (sym everything-bytes) (omega arith) }

-- ---- every count and every field at its limit

abbrev pub largest : Schedule
largest = sized 64 65535 17 448

-- ---- a schedule that no writer of ours makes: a line twice, of types that are not listed, and a resource whose parents are odd

abbrev pub foreign : Schedule
foreign = record {
  order = (1 ∷ []) ∷ [];
  items =
      extension (0 ∷ 1 ∷ []) true true 0
      ∷ extension (0 ∷ 1 ∷ []) true true 0
      ∷ synthesized (0 ∷ []) 0 false ((1 ∷ 1 ∷ 1 ∷ []) ∷ (0 ∷ []) ∷ []) []
      ∷ [];
}

pub foreign-legal : LegalSchedule 2 foreign
foreign-legal = record {
  width = record { enough = omega arith; few = omega arith };
  names = record { enough = omega arith; few = omega arith; every = ((omega arith, tt), tt) };
  items = record {
    enough = omega arith;
    few = omega arith;
    every = (
      record { type = (omega arith, omega arith); word = omega arith },
      (
        record { type = (omega arith, omega arith); word = omega arith },
        (
          record {
            type = (omega arith, tt);
            word = omega arith;
            parents = record {
              enough = omega arith;
              few = omega arith;
              every = (
                record { enough = omega arith; few = omega arith; every = (omega arith, (omega arith, (omega arith, tt))) },
                (record { enough = omega arith; few = omega arith; every = (omega arith, tt) }, tt),
              );
            };
            marks = record { enough = omega arith; few = omega arith; every = tt };
          },
          tt,
        ),
      ),
    );
  };
}

abbrev pub foreign_bytes : List ℕ
foreign_bytes = hex 20 0x0202000380407008040700000002c04040500000

abbrev pub foreign_records : List ℕ
foreign_records = hex 62 0x0001000100000003000100000001000100010001000000010000000100010001000100000000000000000000000000020003000100010001000100000000

pub foreign-bytes : schedule_bytes foreign ≡ foreign_bytes
unfolding odd to_bits num pack_to pack name_bits parent_bits mark_bits item_bits order_bits schedule_bits
foreign-bytes = refl

pub foreign-records : records_of foreign ≡ foreign_records
unfolding name_values parent_values mark_values item_values schedule_values records_of
foreign-records = refl

-- ---- the first fault

abbrev pub two : LegalWidth 2
two = record { enough = omega arith; few = omega arith }

pub set-bit : BadBehind packed recorded 2 (hex 3 0x000001) (lent 4)
unfolding odd to_bits bits_of times schedule_fields write_fields schedule_values
set-bit = record {
  s = record { order = []; items = [] };
  rest = true ∷ [];
  legal = record { width = two; names = record { enough = omega arith; few = omega arith; every = tt }; items = record { enough = omega arith; few = omega arith; every = tt } };
  begins = refl;
  room = omega arith;
  bad = inr (Memᴰ.head refl);
}

-- ---- the worked example, from its sheet

abbrev pub asked : Input
asked = record { settings = standard; call = schedule; sheet = worked_bytes; listing = lent 18; diagnosis = lent 1536 }

pub accepted : (outcome asked).answer.number ≡ 0
unfolding run
accepted = refl

worked-records : records_of worked_schedule ≡ hex 52 0x00030000000000020000000100000002000000000000000100000002000100010001000200010000000100000000000000000001
unfolding name_values parent_values mark_values item_values schedule_values records_of
worked-records = refl
