-- The listed parent that has the name of a key, and a place.
use Rattle.std.specs.Prelude.{ℕ}
use Rattle.fields.specs.Keys.{name_with}
use Rattle.order_form.specs.declared.Parent.{Parent}

abbrev pub parent_of : ℕ → ℕ → Parent
parent_of key place = record { place = place; name = name_with key }
