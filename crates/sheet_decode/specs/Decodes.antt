-- What the decoder answers.
use Rattle.std.specs.Prelude.{false, List, ◌≡◌, ℕ, ◌≤◌, length, Result, MatchResult}
use Rattle.definitions.specs.Bits.{bits_of}
use Rattle.definitions.specs.Checks.{resource_bytes, self_bytes}
use Rattle.definitions.specs.Map.{number_of}
use Rattle.definitions.specs.Records.{Sheet}
use Rattle.definitions.specs.Relisted.{Holds}
use Rattle.law_decoding.specs.Decoding.{turned_back, decoded}
use Rattle.law_orders.specs.Reach.{NoHyphen}
use Rattle.catalogue.specs.declared.Catalogue.{Catalogue}
use Rattle.sheet_draft.specs.declared.Decoding.{Decoding}
use Rattle.sheet_draft.specs.declared.Draft.{Draft}
use Rattle.sheet_draft.specs.declared.entry.Entry.{Entry}
use Rattle.sheet_draft.specs.Drafted.{Drafted, Entered}
use Rattle.sheet_types.specs.Rows.{NotesRead}
use Rattle.sheet_extensions.specs.Records.{records_in}
use Rattle.answers.specs.declared.Refusal.{Refusal}
use Rattle.answers.specs.Answers as answers
use Rattle.answers.specs.Answers.{alone, refusal_of}

-- The extension records of the sheet stand in the catalogue, n of them.
pub record Extensions (s : Sheet) (t : Catalogue) (n : ℕ) : Type 0 where
  pub few : n ≤ 32
  pub records : records_in t n ≡ s.extensions

-- The bytes hold a sheet, of which draft, entries and catalogue have the types and the extension records.
pub record Whole (bytes : List ℕ) (d : Draft) (entries : List Entry) (t : Catalogue) (r : Decoding) : Type 0 where
  pub s : Sheet
  pub holds : Holds bytes s
  pub drafted : Drafted s (bits_of bytes) d r.count
  pub notes : NotesRead (length s.words) (bits_of bytes) d r.count
  pub entered : Entered s.words d entries r.count
  pub extensions : Extensions s t r.extensions
  pub width : r.width ≡ length s.words
  pub resource : r.resource ≡ number_of resource_bytes s.words
  pub self : r.own ≡ number_of self_bytes s.words
  pub plain : r.hyphens ≡ false → NoHyphen s.words

-- The refusal has the number of the first test that holds of the bytes, and nothing comes with it.
pub record Back (bytes : List ℕ) (e : Refusal) : Type 0 where
  pub number : decoded bytes ≡ turned_back (answers.number_of e)
  pub alone : refusal_of e ≡ alone (answers.number_of e)

-- The whole sheet, or that refusal (FORMAT 7.3).
abbrev pub Decodes : List ℕ → Draft → List Entry → Catalogue → Result Decoding Refusal → Type 0
Decodes bytes d entries t r = MatchResult r (λ n. Whole bytes d entries t n) (λ e. Back bytes e)
