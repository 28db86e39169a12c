-- What the code puts into the catalogue out of the draft and the sheet, part by part.
use Rattle.std.specs.Prelude.{Bool, ◌&&◌, ◌||◌, List, map, ◌≡◌, ℕ, ◌/◌, ◌%◌, ◌≤◌, ◌<◌, eqb, ltb, get_or}
use Rattle.lists.specs.Lists.{any, each, repeats}
use Rattle.rows.specs.Rows.{has_bit}
use Rattle.definitions.specs.Checks.{resources_of}
use Rattle.definitions.specs.Items.{associate_of}
use Rattle.order_form.specs.Lists.{tab}
use Rattle.sheet_notes.specs.Notes.{Notes, notes}
use Rattle.sheet_draft.specs.Draft as draft
use Rattle.sheet_draft.specs.Draft.{place_at, notes_at}
use Rattle.sheet_draft.specs.declared.Draft.{Draft}
use Rattle.sheet_draft.specs.declared.entry.Entry.{Entry}
use Rattle.catalogue.specs.Layout.{head_at, packed_at, own_at}
use Rattle.catalogue.specs.declared.Catalogue.{Catalogue}
use Rattle.item_heads.specs.Heads.{Packs}
use Rattle.item_classes.specs.Classes.{class_in, meets, lost}
use Rattle.item_entries.specs.Entries.{row_in, RowsThere}
use Rattle.item_notes.specs.Notes.{DoneAt}

-- A head in 8 bits that says the same of a type (FORMAT 2.6).
pub record HeadOf (h r : ℕ) : Type 0 where
  pub small : r < 256
  pub resource : eqb (r / 64) 1 ≡ eqb (h / 64) 1
  pub virtual : r / 32 % 2 ≡ h / 32 % 2
  pub trait : r / 16 % 2 ≡ h / 16 % 2

-- The heads of the first n types stand in the catalogue; r has the resources among them (FORMAT 2.6).
pub record HeadsPut (d : Draft) (entries : List Entry) (n : ℕ) (old new : Catalogue) (r : ℕ) : Type 0 where
  pub at : (a : ℕ) → a < n → HeadOf (draft.head_at d (row_in entries a)) (head_at new a)
  pub resources : (b : ℕ) → has_bit r b ≡ (ltb b n && eqb (draft.head_at d (row_in entries b) / 64) 1)
  pub kept : new ≡ record old { heads = new.heads }

-- Nothing changed but marks and own classes.
abbrev pub KeptNotes : Catalogue → Catalogue → Type 0
KeptNotes old new = new ≡ record old { marks = new.marks; own = new.own }

-- The annotations and marks of each type stand where the draft says (FORMAT 2.6).
pub record NotesReady (bs : List Bool) (d : Draft) (entries : List Entry) (t : Catalogue) (n : ℕ) : Type 0 where
  pub few : n ≤ 64
  pub there : RowsThere entries n
  pub read : (a : ℕ) → a < n → DoneAt (notes t.width (eqb (draft.key_at d (row_in entries a) % 256) 0)) bs (place_at d (row_in entries a))

-- The annotations and marks of the type at a place.
abbrev pub notes_of_type : List Bool → Draft → List Entry → ℕ → ℕ → Notes
notes_of_type bs d entries W a = notes_at W bs d (row_in entries a)

-- The classes of a type's own Associates as sets, in their order; those of the nested ones too (FORMAT 4.1, 4.3).
abbrev pub own_sets : Catalogue → List Bool → Draft → List Entry → ℕ → ℕ → List ℕ
own_sets t bs d entries W a = map (class_in t) (each associate_of (notes_at W bs d (row_in entries a)).annotations)

abbrev pub given_sets : Catalogue → List Bool → Draft → List Entry → ℕ → ℕ → List ℕ
given_sets t bs d entries W a = map (class_in t) (each resources_of (notes_at W bs d (row_in entries a)).annotations)

-- Whether a class of a type is lost or an own one stands twice, by the numbers in the catalogue.
abbrev pub lost_at : Catalogue → List Bool → Draft → List Entry → ℕ → Bool
lost_at t bs d entries a =
    (any (lost t.resources) (own_sets t bs d entries t.width a) || repeats meets (own_sets t bs d entries t.width a))
    || (has_bit t.childed a && any (lost t.resources) (given_sets t bs d entries t.width a))

-- The own classes and the marks of the first n types, and the classes that they give in a list of their own.
pub record NotesPut (bs : List Bool) (d : Draft) (entries : List Entry) (n : ℕ) (old new : Catalogue) (given : List ℕ) (r : Bool) : Type 0 where
  pub own : (a : ℕ) → a < n → (b : ℕ) → has_bit (own_at new a) b ≡ any (λ x. has_bit x b) (own_sets old bs d entries old.width a)
  pub gives : (a : ℕ) → a < n → (b : ℕ) → has_bit (get_or given a 0) b ≡ any (λ x. has_bit x b) (given_sets old bs d entries old.width a)
  pub marks : (a : ℕ) → a < n → Packs (notes_at old.width bs d (row_in entries a)).marks (packed_at new a)
  pub lost : r ≡ any (lost_at old bs d entries) (tab (λ a. a) n)
  pub kept : KeptNotes old new
