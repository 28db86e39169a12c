-- What the schedule call says of the items that it writes.
use Rattle.std.specs.Prelude.{List, ◌≡◌, ℕ}
use Rattle.definitions.specs.Bits.{pack}
use Rattle.definitions.specs.Records.{Sheet}
use Rattle.definitions.specs.Map.{type_map_of}
use Rattle.definitions.specs.Packing.{schedule_bits}
use Rattle.definitions.specs.Answer.{schedule, schedule_of, overwrite}
use Rattle.definitions.specs.Relisted.{Holds}
use Rattle.law_synthesis.specs.Statements.{ListsLines}

-- The listing has the schedule of the sheet that the bytes hold: each line of its map once, and nothing else (FORMAT 5.2), in the
-- order of FORMAT 5.3, which no other list of these lines has.
pub record Lists (bytes entry exit : List ℕ) : Type 0 where
  pub s : Sheet
  pub holds : Holds bytes s
  pub written : exit ≡ overwrite (pack (schedule_bits (schedule_of schedule (type_map_of s)))) entry
  pub items : ListsLines s (schedule_of schedule (type_map_of s)).items

-- so it is where the number that is answered is 0, acceptance
pub record LinesListed (bytes entry exit : List ℕ) (number : ℕ) : Type 0 where
  pub accepted : number ≡ 0 → Lists bytes entry exit
