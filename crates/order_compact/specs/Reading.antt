-- The compact form reads the map of the draft.
use Rattle.std.specs.Prelude.{List, ◌≡◌, ℕ, ◌*◌, ◌<◌}
use Rattle.definitions.specs.Map.{TypeMap}
use Rattle.order_form.specs.Reading.{type_at, Reads}
use Rattle.order_form.specs.Compact.{Within}
use Rattle.order_form.specs.declared.Parents.{Parents}
use Rattle.sheet_keys.specs.Keys.{name_of_key}
use Rattle.sheet_draft.specs.Draft.{key_at}
use Rattle.catalogue.specs.declared.Catalogue.{Catalogue}
use Rattle.sheet_draft.specs.declared.Draft.{Draft}
use Rattle.sheet_draft.specs.declared.entry.Entry.{Entry}
use Rattle.order_parents.specs.Parents.{row_of}
use Rattle.order_parents.specs.Known.{Rows}

-- The draft has the types of the map, the catalogue their names, and w is the number of the word `self`.
pub record Drawn (m : TypeMap) (t : Catalogue) (d : Draft) (entries : List Entry) (n w : ℕ) : Type 0 where
  pub rows : Rows m d entries n (w * 256) t
  pub names : (a : ℕ) → a < n → (type_at m a).name ≡ name_of_key (key_at d (row_of entries a))
  pub within : Within m
  pub word : w ≡ m.self

-- It reads every such map.
pub record Compacts (t : Catalogue) (d : Draft) (entries : List Entry) (n w : ℕ) (p : Parents) : Type 0 where
  pub reads : (m : TypeMap) → Drawn m t d entries n w → Reads p m
