-- What a call does with a map that the tests before the order let pass: 8, 9, 10 or acceptance.
use Rattle.std.specs.Prelude.{Bool, false, cond, List, ℕ, min, ltb, length, take}
use Rattle.lists.specs.Lists.{null, each}
use Rattle.definitions.specs.Bits.{size, pack}
use Rattle.definitions.specs.Records.{Row}
use Rattle.definitions.specs.Map.{TypeMap}
use Rattle.definitions.specs.Order.{has_order}
use Rattle.definitions.specs.OrderRows.{order_rows}
use Rattle.definitions.specs.Packing.{row_bytes}
use Rattle.definitions.specs.Answer.{Call, Outcome, schedule_of, bits_written, synthesis_rows, overwrite}
use Rattle.sheet_draft.specs.declared.Draft.{Draft}
use Rattle.sheet_draft.specs.declared.entry.Entry.{Entry}
use Rattle.catalogue.specs.declared.Catalogue.{Catalogue}
use Rattle.order_compact.specs.Reading.{Drawn}
use Rattle.answers.specs.Answers.{Answer, parts, Answered}

-- 8 and 9: as many rows as the limit lets are written, and no byte behind them changes (FORMAT 8.2)
abbrev pub diagnosed : ℕ → ℕ → List Row → List ℕ → List ℕ → Outcome
diagnosed limit n rows listing diagnosis = record {
  answer = parts n 0 (min limit (length rows)) (ltb limit (length rows));
  listing = listing;
  diagnosis = overwrite (each row_bytes (take limit rows)) diagnosis;
}

-- 10 names the size that is needed and touches nothing; acceptance writes the bits and names their size (FORMAT 7.4)
abbrev pub listed : List Bool → List ℕ → List ℕ → Outcome
listed bits listing diagnosis =
    cond
    (ltb (length listing) (size (length bits)))
    (record { answer = parts 10 (size (length bits)) 0 false; listing = listing; diagnosis = diagnosis })
    (record { answer = parts 0 (size (length bits)) 0 false; listing = overwrite (pack bits) listing; diagnosis = diagnosis })

-- the bits that a call writes for a map
abbrev pub bits_for : Call → TypeMap → List Bool
bits_for call m = bits_written call (schedule_of call m)

unfoldable pub ended : ℕ → Call → TypeMap → List ℕ → List ℕ → Outcome
ended limit call m listing diagnosis =
    cond
    (has_order m)
    (cond (null (synthesis_rows call m)) (listed (bits_for call m) listing diagnosis) (diagnosed limit 9 (synthesis_rows call m) listing diagnosis))
    (diagnosed limit 8 (order_rows m) listing diagnosis)

-- ---- what the parts of the code leave

-- 8, for every map that the draft has
pub record Unordered (t : Catalogue) (d : Draft) (entries : List Entry) (n w limit : ℕ) (entry exit : List ℕ) (r : Answer) : Type 0 where
  pub due : (m : TypeMap) → Drawn m t d entries n w → (listing : List ℕ) → Answered r listing exit (diagnosed limit 8 (order_rows m) listing entry)
