-- The draft of a map: its types in the order of the sheet, a row for each. What stands at a place of a column, and what a row means.
use Rattle.std.specs.Prelude.{Bool, List, [], ◌∷◌, ℕ, ◌/◌, ◌%◌, eqb, drop, get_or, replicate}
use Rattle.lists.specs.Tabulating.{tabulate}
use Rattle.definitions.specs.Parse.{Parsed, done, refused}
use Rattle.definitions.specs.Records as records
use Rattle.definitions.specs.Records.{Variant, domain, resource, other}
use Rattle.sheet_keys.specs.Keys.{name_of_key, names_in}
use Rattle.sheet_notes.specs.Notes.{Notes, notes}
use Rattle.sheet_draft.specs.declared.Draft.{Draft}
use Rattle.sheet_draft.specs.declared.DraftRow.{DraftRow}

-- No row.
abbrev pub no_row : DraftRow
no_row = record { key = 0; head = 0; place = 0; parents = [] }

-- Row i.
abbrev pub row_at : Draft → ℕ → DraftRow
row_at d i = get_or d.rows i no_row

-- The name of the type in row i, as a key.
abbrev pub key_at : Draft → ℕ → ℕ
key_at d i = (row_at d i).key

-- Variant, virtual, trait and number of parents, in the 8 bits that the sheet has them in (FORMAT 2.6).
abbrev pub head_at : Draft → ℕ → ℕ
head_at d i = (row_at d i).head

-- The bit of the sheet from which its annotations and marks stand.
abbrev pub place_at : Draft → ℕ → ℕ
place_at d i = (row_at d i).place

-- How many parents it has: at most 8, whatever stands in the table.
abbrev pub parent_count_at : Draft → ℕ → ℕ
parent_count_at d i = head_at d i % 16 % 9

-- The k-th parent of row i, as a key.
abbrev pub parent_at : Draft → ℕ → ℕ → ℕ
parent_at d i k = get_or (row_at d i).parents k 0

-- The annotations and marks that a parser gave; none where it refused.
abbrev pub notes_of : Parsed Notes → Notes
notes_of (done x rest) = x
notes_of (refused r) = record { annotations = []; marks = [] }

-- Those of row i, out of the bits of a sheet with W words.
unfoldable pub notes_at : ℕ → List Bool → Draft → ℕ → Notes
notes_at W bs d i = notes_of (notes W (eqb (key_at d i % 256) 0) (drop (place_at d i) bs))

-- The variant of a number (FORMAT 2.6).
abbrev pub variant_of : ℕ → Variant
variant_of v = get_or (domain ∷ resource ∷ other ∷ []) v other

-- The type in row i: its name, head and parents out of the table, its annotations and marks out of the sheet.
unfoldable pub type_in : ℕ → List Bool → Draft → ℕ → records.TypeInfo
type_in W bs d i = record {
  name = name_of_key (key_at d i);
  variant = variant_of (head_at d i / 64);
  virtual = eqb (head_at d i / 32 % 2) 1;
  trait = eqb (head_at d i / 16 % 2) 1;
  parents = names_in (row_at d i).parents (parent_count_at d i);
  annotations = (notes_at W bs d i).annotations;
  marks = (notes_at W bs d i).marks;
}

-- The types in the first n rows.
unfoldable pub types_in : ℕ → List Bool → Draft → ℕ → List records.TypeInfo
types_in W bs d n = tabulate (type_in W bs d) n

-- Nothing stands in it.
unfoldable pub blank : Draft
blank = record { rows = replicate 64 (record no_row { parents = replicate 8 0 }) }
