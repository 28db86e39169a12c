-- What `interpret_associate` finds of a word's classes: in a map, and in its catalogue.
use Rattle.std.specs.Prelude.{Bool, not, List, [], ◌∷◌, ℕ, ◌%◌}
use Rattle.lists.specs.Lists.{null}
use Rattle.rows.specs.declared.Row.{Row}
use Rattle.rows.specs.Lists.{below}
use Rattle.definitions.specs.Records as records
use Rattle.definitions.specs.Records.{Name}
use Rattle.definitions.specs.Map.{LineMap}
use Rattle.definitions.specs.Making.{declared, is_resource}
use Rattle.catalogue.specs.Layout.{key_at}
use Rattle.catalogue.specs.declared.Catalogue.{Catalogue}
use Rattle.sheet_keys.specs.Keys.{name_of_key}
use Rattle.synth_classes.specs.Classes.{unknown_at}
use Rattle.synth_classes.specs.Made.{class_name}
use Rattle.synth_classes.specs.Walks.{among}

-- a class that is not declared: kind 4 (FORMAT 8.10)
abbrev pub is_unknown : LineMap → Name → Bool
is_unknown m c = null (declared m c)

-- a declared class of another variant than a resource's: kind 5 (FORMAT 8.10)
abbrev pub is_other : LineMap → Name → Bool
is_other m c = not (is_resource m c)

-- the doms whose classes are not declared
unfoldable pub unknown_doms : Catalogue → Row → ℕ → List ℕ
unknown_doms t doms word = below (among doms (unknown_at t word)) 201

-- the name of the type at a place
abbrev pub name_in : Catalogue → ℕ → Name
name_in t place = name_of_key (key_at t place % 65536)

-- the row of an unknown class, by its dom
abbrev pub unknown_row : Catalogue → ℕ → ℕ → ℕ → records.Row
unknown_row t place word k = record { kind = 4; subject = name_in t place; other = class_name word k; word = word ∷ [] }
