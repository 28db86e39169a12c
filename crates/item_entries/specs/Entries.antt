-- The names of the entries as two lists of bytes, as the catalogue's names are described.
use Rattle.std.specs.Prelude.{List, ◌≡◌, ℕ, ◌+◌, ◌/◌, ◌%◌, ◌≤◌, ◌<◌, get_or}
use Rattle.lists.specs.Tabulating.{tabulate}
use Rattle.sheet_draft.specs.declared.entry.Entry.{Entry}
use Rattle.sheet_draft.specs.Drafted.{no_entry}
use Rattle.catalogue.specs.Layout.{first_at, second_at}
use Rattle.catalogue.specs.declared.Catalogue.{Catalogue}

-- The key of an entry (FORMAT 1.4).
abbrev pub key_in : List Entry → ℕ → ℕ
key_in entries a = (get_or entries a no_entry).key

-- The row of an entry in the draft.
abbrev pub row_in : List Entry → ℕ → ℕ
row_in entries a = (get_or entries a no_entry).row

-- The first word of each name (FORMAT 1.4).
unfoldable pub firsts_of : List Entry → List ℕ
firsts_of entries = tabulate (λ a. key_in entries a / 256) 64

-- The second word of each name, 255 for none (FORMAT 1.4).
unfoldable pub seconds_of : List Entry → List ℕ
seconds_of entries = tabulate (λ a. (key_in entries a % 256 + 255) % 256) 64

-- The rows of the first n entries are rows of a draft (FORMAT 2.6).
abbrev pub RowsThere : List Entry → ℕ → Type 0
RowsThere entries n = (a : ℕ) → a < n → row_in entries a < 64

-- There are at most 64 entries, and their keys have two bytes (FORMAT 1.4, 2.6).
pub record KeysFit (entries : List Entry) (n : ℕ) : Type 0 where
  pub few : n ≤ 64
  pub small : (a : ℕ) → a < n → key_in entries a < 65536

-- The sets of the first n words, and of the first n numbers of second words, are empty.
pub record SetsCleared (n : ℕ) (old new : Catalogue) : Type 0 where
  pub first : (w : ℕ) → w < n → first_at new w ≡ 0
  pub second : (w : ℕ) → w < n → second_at new w ≡ 0
  pub kept : new ≡ record old { firsts = new.firsts; seconds = new.seconds }
