-- What keys mean, and what a table of keys holds.
use Rattle.std.specs.Prelude.{Bool, cond, List, [], ◌∷◌, ℕ, ◌-◌, ◌/◌, ◌%◌, eqb, get_or, Result}
use Rattle.lists.specs.Tabulating.{tabulate}
use Rattle.definitions.specs.Parse.{Parsed}
use Rattle.bits.specs.declared.Cursor.{Cursor}
use Rattle.fields.specs.declared.Fault.{Fault}
use Rattle.fields.specs.Fields.{of_parsed}

-- the words of a key
unfoldable pub name_of_key : ℕ → List ℕ
name_of_key k = (k / 256) ∷ cond (eqb (k % 256) 0) [] ((k % 256 - 1) ∷ [])

abbrev pub of_key_read : List Bool → Result (ℕ × Cursor) Fault → Parsed (List ℕ)
of_key_read = of_parsed name_of_key

-- The names of the first n keys of a table.
abbrev pub names_in : List ℕ → ℕ → List (List ℕ)
names_in l n = tabulate (λ j. name_of_key (get_or l j 0)) n

-- An answer as a parser's: the names are the first ones of a table.
abbrev pub of_names : List Bool → List ℕ → Result (ℕ × Cursor) Fault → Parsed (List (List ℕ))
of_names bs l = of_parsed (names_in l) bs
