-- What stands in the tables of a call, from test to test.
use Rattle.std.specs.Prelude.{Bool, true, false, List, ◌≡◌, ℕ, ◌*◌, ◌≤◌, length, Option, MatchOption, Result, MatchResult}
use Rattle.definitions.specs.Bits.{bits_of}
use Rattle.definitions.specs.Records.{Sheet}
use Rattle.definitions.specs.Map.{type_map_of}
use Rattle.definitions.specs.Order.{has_order}
use Rattle.definitions.specs.Answer.{order, schedule}
use Rattle.law_lines.specs.Statements.{line_map, any_refused}
use Rattle.sheet_draft.specs.declared.Draft.{Draft}
use Rattle.sheet_draft.specs.declared.entry.Entry.{Entry}
use Rattle.catalogue.specs.Catalogue.{Catalogued}
use Rattle.catalogue.specs.declared.Catalogue.{Catalogue}
use Rattle.item_draft.specs.Fill.{Drawn}
use Rattle.item_draft.specs.declared.Placing.{Placing}
use Rattle.item_names.specs.Names.{NamesPut}
use Rattle.item_entries.specs.Entries.{firsts_of, seconds_of}
use Rattle.order_parents.specs.declared.Found.{Found}
use Rattle.order_parents.specs.Parents.{ParentsPut}
use Rattle.order_rounds.specs.Organized.{Organized}
use Rattle.order_rounds.specs.declared.sequence.Order.{Order}
use Rattle.order_compact.specs.Reading as compact
use Rattle.sheet_draft.specs.declared.Decoding.{Decoding}
use Rattle.sheet_decode.specs.Decodes.{Whole}
use Rattle.law_reading.specs.Statements.{RowsFit}
use Rattle.answers.specs.declared.Settings.{Settings}
use Rattle.answers.specs.declared.Refusal.{Refusal}
use Rattle.answers.specs.Answers.{settings_of, Answer, Answered}
use Rattle.answers.specs.Telling.{Refuses}
use Rattle.access.specs.Ending.{ended}

-- The bytes are refused by none of the tests before the order, and the tables have their sheet (FORMAT 7.3).
pub record Taken (settings : Settings) (s : List ℕ) (room : ℕ) (d : Draft) (entries : List Entry) (t : Catalogue) (r : Decoding) : Type 0 where
  pub short : length s ≤ 40960
  pub fit : RowsFit (settings_of settings) room
  pub whole : Whole s d entries t r

-- Or they are refused by each call that lends a diagnosis slice of so many bytes, and both slices stay (FORMAT 7.3).
abbrev pub Takes : Settings → List ℕ → ℕ → Draft → List Entry → Catalogue → Result Decoding Refusal → Type 0
Takes settings s room d entries t r = MatchResult r (λ n. Taken settings s room d entries t n) (λ e. Refuses settings s room e)

-- Some bytes hold the sheet of which the tables have the types.
pub record Decoded (d : Draft) (entries : List Entry) (t : Catalogue) (n : Decoding) : Type 0 where
  pub bytes : List ℕ
  pub whole : Whole bytes d entries t n

-- Names and parents of the types went into the decoder's table, and the order was looked for (FORMAT 3.2).
pub record Looked (d : Draft) (entries : List Entry) (old new : Catalogue) (n : Decoding) (places : Order) (found : Bool) (r : Placing) : Type 0 where
  pub named : Catalogue
  pub parents : Found
  pub names : NamesPut (firsts_of entries) (seconds_of entries) n.count n.width old named r.words
  pub put : ParentsPut d entries (n.own * 256) n.count named new parents
  pub childed : r.childed ≡ parents.set
  pub organized : Organized new n.count parents.whole places found

-- There is one, or none.
abbrev pub Organizes : Draft → List Entry → Catalogue → Catalogue → Decoding → Order → Option Placing → Type 0
Organizes d entries old new n places r =
    MatchOption r ((p : Placing) × Looked d entries old new n places false p) (λ p. Looked d entries old new n places true p)

-- What the order-only call owes to each sheet of which the tables have the types (FORMAT 7.3, 7.4).
pub record Ordered (d : Draft) (entries : List Entry) (t : Catalogue) (n : Decoding) (limit : ℕ) (listing diagnosis : List ℕ) (r : Answer) (listing' diagnosis' : List ℕ) : Type 0 where
  pub due : (bytes : List ℕ) (w : Whole bytes d entries t n) → Answered r listing' diagnosis' (ended limit order (type_map_of w.s) listing diagnosis)

-- The tables have the sheet that the bytes hold: its draft, and the catalogue of its map, which has an order (FORMAT 3.2).
pub record FilledFor (s : Sheet) (bytes : List ℕ) (d : Draft) (entries : List Entry) (t : Catalogue) (n : Decoding) : Type 0 where
  pub short : length bytes ≤ 40960
  pub drawn : Drawn s (bits_of bytes) d entries n.count
  pub width : n.width ≡ length s.words
  pub sketch : compact.Drawn (type_map_of s) t d entries n.count n.own
  pub catalogued : Catalogued s t
  pub order : has_order (type_map_of s) ≡ true

-- 9 is due to each such sheet of which a type is refused (FORMAT 8.11).
pub record RowsDue (bytes : List ℕ) (d : Draft) (entries : List Entry) (t : Catalogue) (n : Decoding) (limit : ℕ) (entry exit : List ℕ) (r : Answer) : Type 0 where
  pub due : (s : Sheet) → FilledFor s bytes d entries t n → any_refused (line_map s) ≡ true → (listing : List ℕ)
      → Answered r listing exit (ended limit schedule (type_map_of s) listing entry)

-- What the schedule call owes to the sheet that the bytes hold (FORMAT 7.3, 7.4).
pub record Scheduled (bytes : List ℕ) (d : Draft) (entries : List Entry) (t : Catalogue) (n : Decoding) (limit : ℕ) (listing diagnosis : List ℕ) (r : Answer) (listing' diagnosis' : List ℕ) : Type 0 where
  pub due : (w : Whole bytes d entries t n) → Answered r listing' diagnosis' (ended limit schedule (type_map_of w.s) listing diagnosis)
