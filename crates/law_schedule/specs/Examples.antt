-- Legal schedules, so that the theorems speak of something; schedules past the limits that share their bits; and the worked
-- example, from its bytes.
use Rattle.std.specs.Prelude.{true, false, List, [], ◌∷◌, ◌≡◌, refl, ℕ, zero, suc, ◌≤◌, replicate}
use Rattle.std.proofs.Common.{sym, zero-le, arith}
use Rattle.std.proofs.lemmas.List.{length-replicate}
use Rattle.definitions.specs.Bits.{odd, to_bits, bits_of, num, pack_to, pack}
use Rattle.definitions.specs.Records.{Name, makelist_mark, derive_mark, Sheet, Item, synthesized, extension, Schedule}
use Rattle.definitions.specs.Reading.{sheet}
use Rattle.definitions.specs.Packing.{name_bits, parent_bits, mark_bits, item_bits, order_bits, schedule_bits}
use Rattle.definitions.specs.Legal.{Every, Counted}
use Rattle.definitions.specs.LegalSchedule.{most_names, most_items, least_parents, most_parents, most_marks, LegalItem, LegalOrder, LegalSchedule}
use Rattle.definitions.specs.Answer.{Call, schedule, order, Input, standard, rest_of, outcome}
use Rattle.definitions.specs.Relisted.{Holds}
use Rattle.definitions.specs.Cases.{hex, lent, run}
use Rattle.law_lines.specs.Statements.{Readable}
use Rattle.law_reading.specs.Examples.{worked, worked_bytes}
use Rattle.law_reading.specs.Parsers.{done-value}
use Rattle.law_schedule.specs.Statements.{bytes_written}

-- ---- every construct: a two-word type, a parent of three words, both marks, an extension line

abbrev pub everything : Schedule
everything = record {
  order = (0 ∷ []) ∷ (0 ∷ 1 ∷ []) ∷ [];
  items =
      extension (0 ∷ 1 ∷ []) false true 4
      ∷ synthesized (0 ∷ 1 ∷ []) 4 true ((0 ∷ 1 ∷ 4 ∷ []) ∷ (3 ∷ []) ∷ []) (derive_mark 255 ∷ makelist_mark ∷ derive_mark 255 ∷ [])
      ∷ [];
}

pub everything-legal : LegalSchedule 5 everything
everything-legal = record {
  width = record { enough = omega arith; few = omega arith };
  names = record { enough = omega arith; few = omega arith; every = ((omega arith, tt), ((omega arith, omega arith), tt)) };
  items = record {
    enough = omega arith;
    few = omega arith;
    every = (
      record { type = (omega arith, omega arith); word = omega arith },
      (
        record {
          type = (omega arith, omega arith);
          word = omega arith;
          parents = record {
            enough = omega arith;
            few = omega arith;
            every = (
              record { enough = omega arith; few = omega arith; every = (omega arith, (omega arith, (omega arith, tt))) },
              (record { enough = omega arith; few = omega arith; every = (omega arith, tt) }, tt),
            );
          };
          marks = record { enough = omega arith; few = omega arith; every = (omega arith, (tt, (omega arith, tt))) };
        },
        tt,
      ),
    );
  };
}

abbrev pub everything_bytes : List ℕ
everything_bytes = hex 22 0x04000080800140202820020209160002088180ffeff8

-- its 22 bytes, computed
pub everything-bytes : pack (schedule_bits everything) ≡ everything_bytes
unfolding odd to_bits num pack_to pack name_bits parent_bits mark_bits item_bits order_bits schedule_bits
everything-bytes = refl

-- its names alone
everything-order-legal : LegalOrder 5 everything.order
everything-order-legal = record { width = everything-legal.width; names = everything-legal.names }

-- ---- every count and every field at its limit

every-replicate : {A : Type 0} (P : A → Type 0) (n : ℕ) (x : A) → P x → Every P (replicate n x)
every-replicate P zero x h = tt
every-replicate P (suc n) x h = (h, every-replicate P n x h)

counted-replicate : {A : Type 0} {P : A → Type 0} (least most n : ℕ) (x : A) → least ≤ n → n ≤ most → P x → Counted least most P (replicate n x)
counted-replicate {P = P} least most n x p q h =
    let e = length-replicate n x in
    record { enough = omega arith; few = omega arith; every = every-replicate P n x h }

abbrev last_name : Name
last_name = 199 ∷ 199 ∷ []

abbrev last_parent : Name
last_parent = 199 ∷ 199 ∷ 199 ∷ []

abbrev largest : ℕ → ℕ → Item
largest parents marks = synthesized last_name 199 true (replicate parents last_parent) (replicate marks (derive_mark 255))

-- so many names, and so many items of so many parents and marks
unfoldable pub sized : ℕ → ℕ → ℕ → ℕ → Schedule
sized names items parents marks = record { order = replicate names last_name; items = replicate items (largest parents marks) }

sized-legal : (n x p k : ℕ) → n ≤ most_names → x ≤ most_items → least_parents ≤ p → p ≤ most_parents → k ≤ most_marks → LegalSchedule 200 (sized n x p k)
unfolding sized
sized-legal n x p k hn hx lp hp hk =
    let item : LegalItem 200 (largest p k) = record {
      type = (omega arith, omega arith);
      word = omega arith;
      parents = counted-replicate _ _ p last_parent lp hp
          (record { enough = omega arith; few = omega arith; every = (omega arith, (omega arith, (omega arith, tt))) });
      marks = counted-replicate _ _ k (derive_mark 255) zero-le hk (omega arith);
    } in
    record {
      width = record { enough = omega arith; few = omega arith };
      names = counted-replicate _ _ n last_name zero-le hn (omega arith, omega arith);
      items = counted-replicate _ _ x (largest p k) zero-le hx item;
    }

pub at-limits-legal : LegalSchedule 200 (sized 64 65535 17 448)
at-limits-legal = sized-legal _ _ _ _ (omega arith) (omega arith) (omega arith) (omega arith) (omega arith)

-- ---- past the limits two schedules can have the same bits

abbrev named : Name → Schedule
named n = record { order = n ∷ []; items = [] }

-- the word 256 is written like 0
word-256 : schedule_bits (named (256 ∷ [])) ≡ schedule_bits (named (0 ∷ []))
unfolding odd to_bits name_bits order_bits schedule_bits
word-256 = refl

-- of a name of three words the third is not written
third-word : schedule_bits (named (0 ∷ 1 ∷ 2 ∷ [])) ≡ schedule_bits (named (0 ∷ 1 ∷ []))
unfolding odd to_bits name_bits order_bits schedule_bits
third-word = refl

-- ---- the worked example, from its bytes

abbrev pub asked : Call → Input
asked c = record { settings = standard; call = c; sheet = worked_bytes; listing = lent 18; diagnosis = lent 1536 }

-- both calls accept it
pub accepted : ((outcome (asked schedule)).answer.number ≡ 0) × ((outcome (asked order)).answer.number ≡ 0)
unfolding run
accepted = (refl, refl)

abbrev pub listed_bytes : List ℕ
listed_bytes = hex 16 0x06000200800080001090140802800010

-- what the calls have written, computed
pub worked-written : (bytes_written (asked schedule) ≡ listed_bytes) × (bytes_written (asked order) ≡ hex 5 0x0600020080)
unfolding run
worked-written = (refl, refl)

-- it is read to base, resource, file; base.file under file and resource, with the mark makelist; the line of base and file
abbrev pub worked_schedule : Schedule
worked_schedule = record {
  order = (0 ∷ []) ∷ (2 ∷ []) ∷ (1 ∷ []) ∷ [];
  items = synthesized (0 ∷ []) 1 false ((1 ∷ []) ∷ (2 ∷ []) ∷ []) (makelist_mark ∷ []) ∷ extension (0 ∷ []) false false 1 ∷ [];
}

pub worked-bytes : pack (schedule_bits worked_schedule) ≡ listed_bytes
unfolding odd to_bits num pack_to pack name_bits parent_bits mark_bits item_bits order_bits schedule_bits
worked-bytes = refl

pub worked-legal : LegalSchedule 4 worked_schedule
worked-legal = record {
  width = record { enough = omega arith; few = omega arith };
  names = record { enough = omega arith; few = omega arith; every = ((omega arith, tt), ((omega arith, tt), ((omega arith, tt), tt))) };
  items = record {
    enough = omega arith;
    few = omega arith;
    every = (
      record {
        type = (omega arith, tt);
        word = omega arith;
        parents = record {
          enough = omega arith;
          few = omega arith;
          every = (
            record { enough = omega arith; few = omega arith; every = (omega arith, tt) },
            (record { enough = omega arith; few = omega arith; every = (omega arith, tt) }, tt),
          );
        };
        marks = record { enough = omega arith; few = omega arith; every = (tt, tt) };
      },
      (record { type = (omega arith, tt); word = omega arith }, tt),
    );
  };
}

-- the bytes hold the worked sheet and no other
pub worked-sheet : (s : Sheet) → Holds worked_bytes s → s ≡ worked
unfolding run
worked-sheet s h = done-value s worked h.rest (rest_of (sheet (bits_of worked_bytes))) (sym h.read)

-- so is the schedule itself
pub worked-readable : Readable worked
unfolding run
worked-readable = record { words = refl; once = refl }
