-- Where the annotations of the types stand.
use Rattle.std.specs.Prelude.{Bool, List, ℕ, ◌%◌, ◌≤◌, ◌<◌, eqb, get_or, Option, None}
use Rattle.sheet_notes.specs.Notes.{notes}
use Rattle.sheet_draft.specs.Draft.{key_at, place_at, notes_at}
use Rattle.sheet_draft.specs.declared.Draft.{Draft}
use Rattle.sheet_draft.specs.declared.entry.Entry.{Entry}
use Rattle.item_notes.specs.Notes.{DoneAt}
use Rattle.item_entries.specs.Entries.{row_in, RowsThere}
use Rattle.synth_own.specs.Owning.{Noted}
use Rattle.synth_own.specs.declared.Location.{Location}

-- Annotations and marks of a row can be read, in a sheet of W words (FORMAT 2.6).
abbrev pub ReadAt : ℕ → List Bool → Draft → ℕ → Type 0
ReadAt W bs d row = DoneAt (notes W (eqb (key_at d row % 256) 0)) bs (place_at d row)

-- Those of each type can.
pub record Readable (W : ℕ) (bs : List Bool) (d : Draft) (entries : List Entry) (n : ℕ) : Type 0 where
  pub few : n ≤ 64
  pub there : RowsThere entries n
  pub read : (a : ℕ) → a < n → ReadAt W bs d (row_in entries a)

-- It is told where the annotations of the first n types stand.
pub record Located (W : ℕ) (bs : List Bool) (d : Draft) (entries : List Entry) (n : ℕ) (out : List (Option Location)) : Type 0 where
  pub at : (a : ℕ) → a < n → Noted bs (get_or out a None) (notes_at W bs d (row_in entries a)).annotations
