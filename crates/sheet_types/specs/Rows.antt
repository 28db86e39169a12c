-- What the code reads of a type, and what stands in the draft afterwards.
use Rattle.std.specs.Prelude.{Bool, true, false, List, ◌≡◌, ℕ, ◌/◌, ◌%◌, ◌≤◌, ◌<◌, eqb, drop, Result, IfOk}
use Rattle.definitions.specs.Parse.{Parsed, done, refused, Parser, next, ◌>>=◌, pure, flag, between}
use Rattle.definitions.specs.Reading.{variant}
use Rattle.definitions.specs.Records.{Variant}
use Rattle.definitions.specs.Records as records
use Rattle.bits.specs.declared.Cursor.{Cursor}
use Rattle.fields.specs.declared.Fault.{Fault}
use Rattle.fields.specs.Fields.{of_parsed}
use Rattle.sheet_keys.specs.Keys.{name_of_key, names_in}
use Rattle.sheet_notes.specs.Notes.{Notes, notes, of_skip}
use Rattle.sheet_draft.specs.declared.Draft.{Draft}
use Rattle.sheet_draft.specs.declared.DraftRow.{DraftRow}
use Rattle.sheet_draft.specs.Draft.{row_at, variant_of, notes_of, types_in}

-- What stands between the name and the parents of a type: 8 bits (FORMAT 2.6).
pub record Top : Type 0 where
  pub variant : Variant
  pub virtual : Bool
  pub trait : Bool
  pub count : ℕ

-- These fields, one behind the other (FORMAT 2.6).
unfoldable pub top : Parser Top
top = do
  v ← variant
  virtual ← flag
  trait ← flag
  k ← between 4 0 8
  pure (record { variant = v; virtual = virtual; trait = trait; count = k })

-- The same out of the 8 bits as one number; a count is at most 8, so that % 9 changes nothing (FORMAT 2.6).
abbrev pub top_of : ℕ → Top
top_of h = record { variant = variant_of (h / 64); virtual = eqb (h / 32 % 2) 1; trait = eqb (h / 16 % 2) 1; count = h % 16 % 9 }

-- An answer as a parser's.
abbrev pub of_top : List Bool → Result (ℕ × Cursor) Fault → Parsed Top
of_top = of_parsed top_of

-- A number that was answered is one that is allowed.
abbrev pub Small : Result (ℕ × Cursor) Fault → Type 0
Small r = IfOk r (λ v. (v.0 < 192) × (v.0 % 16 ≤ 8))

-- A type of these parts.
abbrev pub type_of : List ℕ → Top → List (List ℕ) → Notes → records.TypeInfo
type_of n h ps x = record { name = n; variant = h.variant; virtual = h.virtual; trait = h.trait; parents = ps; annotations = x.annotations; marks = x.marks }

-- The annotations and marks of a row, out of the bits of a sheet with W words, and its type.
abbrev pub notes_in : ℕ → List Bool → DraftRow → Parsed Notes
notes_in W bs r = notes W (eqb (r.key % 256) 0) (drop r.place bs)

abbrev pub row_type : ℕ → List Bool → DraftRow → records.TypeInfo
row_type W bs r = type_of (name_of_key r.key) (top_of r.head) (names_in r.parents (r.head % 16 % 9)) (notes_of (notes_in W bs r))

-- Whether a parser gave a value.
abbrev pub is_done : {A : Type 0} → Parsed A → Bool
is_done (done a rest) = true
is_done (refused r) = false

-- Annotations and marks can be read at the place that a row has for them.
abbrev pub NotesDone : ℕ → List Bool → DraftRow → Type 0
NotesDone W bs r = is_done (notes_in W bs r) ≡ true

-- So they can of a row that was read.
abbrev pub DoneHere : ℕ → List Bool → DraftRow → Result Cursor Fault → Type 0
DoneHere W bs row r = IfOk r (λ c. NotesDone W bs row)

-- So they can of the first n rows.
pub record NotesRead (W : ℕ) (bs : List Bool) (d : Draft) (n : ℕ) : Type 0 where
  pub read : (i : ℕ) → i < n → NotesDone W bs (row_at d i)

-- An answer as a parser's: the type is that of the row.
abbrev pub of_type_read : ℕ → List Bool → DraftRow → Result Cursor Fault → Parsed records.TypeInfo
of_type_read W bs row r = next (of_skip bs r) (λ x. pure (row_type W bs row))

-- An answer as a parser's: the types are those of the first rows.
abbrev pub of_types_read : ℕ → List Bool → Draft → Result (ℕ × Cursor) Fault → Parsed (List records.TypeInfo)
of_types_read W bs d = of_parsed (types_in W bs d) bs
