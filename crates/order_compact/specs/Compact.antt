-- What the steps that fill the compact form leave in it, out of a draft.
use Rattle.std.specs.Prelude.{List, ◌≡◌, ℕ, ◌≤◌, ◌<◌, get_or}
use Rattle.bitsets.specs.Bitsets.{Lowest}
use Rattle.order_form.specs.Reading as reading
use Rattle.order_form.specs.Reading.{no_name, how_many}
use Rattle.order_form.specs.declared.Parent.{Parent}
use Rattle.order_form.specs.declared.Parents.{Parents}
use Rattle.fields.specs.Keys.{name_with}
use Rattle.sheet_draft.specs.Draft.{key_at, parent_count_at, parent_at}
use Rattle.sheet_draft.specs.declared.Draft.{Draft}
use Rattle.sheet_draft.specs.declared.entry.Entry.{Entry}
use Rattle.catalogue.specs.Layout.{looked}
use Rattle.catalogue.specs.declared.Catalogue.{Catalogue}
use Rattle.order_parents.specs.Parents.{row_of, KeysOf}

-- The place of the one type of a set; n where there is none.
pub record PlaceIs (types n r : ℕ) : Type 0 where
  pub none : types ≡ 0 → r ≡ n
  pub some : 0 < types → Lowest types r

-- The keys of the names and of the parents are keys of two words.
pub record Drafts (d : Draft) (entries : List Entry) (n : ℕ) : Type 0 where
  pub few : n ≤ 64
  pub name : (a : ℕ) → a < n → key_at d (row_of entries a) < 65536
  pub parents : (a : ℕ) → a < n → KeysOf d (row_of entries a)

-- Type a: the name of its key, and how many parents it lists.
pub record TypeIs (key count : ℕ) (l : Parents) (a : ℕ) : Type 0 where
  pub name : get_or l.names a no_name ≡ name_with key
  pub many : how_many l a ≡ count

-- A listed parent: the name of its key, and the place of the type that has it, one of n.
pub record ParentIs (t : Catalogue) (key n : ℕ) (q : Parent) : Type 0 where
  pub name : q.name ≡ name_with key
  pub place : PlaceIs (looked t key) n q.place

-- What stands of the types before type a is there still.
pub record KeptBefore (a : ℕ) (old new : Parents) : Type 0 where
  pub count : new.count ≡ old.count
  pub self_word : new.self_word ≡ old.self_word
  pub names : (b : ℕ) → b < a → get_or new.names b no_name ≡ get_or old.names b no_name
  pub counts : (b : ℕ) → b < a → how_many new b ≡ how_many old b
  pub parents : (b i : ℕ) → b < a → reading.parent_at new b i ≡ reading.parent_at old b i

-- Type a and its first k parents, out of a row.
pub record TypePut (t : Catalogue) (d : Draft) (row a n k : ℕ) (old new : Parents) : Type 0 where
  pub kept : KeptBefore a old new
  pub type : TypeIs (key_at d row) (parent_count_at d row) new a
  pub parents : (j : ℕ) → j < k → ParentIs t (parent_at d row j) n (reading.parent_at new a j)

-- The first b of n types; w is the number of the word `self`.
pub record Stands (t : Catalogue) (d : Draft) (entries : List Entry) (n w b : ℕ) (l : Parents) : Type 0 where
  pub self_word : l.self_word ≡ w
  pub type : (a : ℕ) → a < b → TypeIs (key_at d (row_of entries a)) (parent_count_at d (row_of entries a)) l a
  pub parents : (a k : ℕ) → a < b → k < parent_count_at d (row_of entries a) → ParentIs t (parent_at d (row_of entries a) k) n (reading.parent_at l a k)
