-- What the code puts into the catalogue of the parents of the types, out of the draft.
use Rattle.std.specs.Prelude.{Bool, ◌&&◌, not, List, ◌≡◌, ℕ, ◌^◌, ◌≤◌, ◌<◌, eqb, get_or}
use Rattle.lists.specs.Lists.{any, all}
use Rattle.rows.specs.Rows.{has_bit}
use Rattle.order_form.specs.Lists.{tab}
use Rattle.sheet_draft.specs.Draft.{parent_count_at, parent_at}
use Rattle.sheet_draft.specs.Drafted.{no_entry}
use Rattle.catalogue.specs.Layout.{parents_at, looked}
use Rattle.catalogue.specs.declared.Catalogue.{Catalogue}
use Rattle.sheet_draft.specs.declared.Draft.{Draft}
use Rattle.sheet_draft.specs.declared.entry.Entry.{Entry}
use Rattle.order_parents.specs.declared.Found.{Found}

-- Whether a key is that of a declared type, and not `self` (FORMAT 3.2).
unfoldable pub known_key : Catalogue → ℕ → ℕ → Bool
known_key t own key = not (eqb (looked t key) 0) && not (eqb key own)

-- The row of the type at a place in name order.
abbrev pub row_of : List Entry → ℕ → ℕ
row_of entries a = (get_or entries a no_entry).row

-- The parents that the type in a row lists, as keys (FORMAT 2.6).
unfoldable pub keys_in : Draft → ℕ → List ℕ
keys_in d row = tab (parent_at d row) (parent_count_at d row)

-- Each of them is a key of two words.
pub record KeysOf (d : Draft) (row : ℕ) : Type 0 where
  pub place : row < 64
  pub keys : (k : ℕ) → k < parent_count_at d row → parent_at d row k < 65536

-- The same of each type.
pub record Prepared (d : Draft) (entries : List Entry) (n : ℕ) : Type 0 where
  pub few : n ≤ 64
  pub keys : (a : ℕ) → a < n → KeysOf d (row_of entries a)

-- The set of a type's parents (FORMAT 3.1), and whether each is known.
pub record ParentsOf (t : Catalogue) (d : Draft) (row own : ℕ) (r : Found) : Type 0 where
  pub bits : (b : ℕ) → has_bit r.set b ≡ any (λ key. has_bit (looked t key) b) (keys_in d row)
  pub whole : r.whole ≡ all (known_key t own) (keys_in d row)

-- The parents of the first n types stand in the catalogue; r has those that are a parent, and whether each is known.
pub record ParentsPut (d : Draft) (entries : List Entry) (own n : ℕ) (old new : Catalogue) (r : Found) : Type 0 where
  pub most : (a : ℕ) → a < n → parents_at new a < 2 ^ 64
  pub sets : (a : ℕ) → a < n → (b : ℕ) → has_bit (parents_at new a) b ≡ any (λ key. has_bit (looked old key) b) (keys_in d (row_of entries a))
  pub childed : (b : ℕ) → has_bit r.set b ≡ any (λ a. any (λ key. has_bit (looked old key) b) (keys_in d (row_of entries a))) (tab (λ a. a) n)
  pub whole : r.whole ≡ all (λ a. all (known_key old own) (keys_in d (row_of entries a))) (tab (λ a. a) n)
  pub kept : new ≡ record old { parents = new.parents }
