-- A row as the code has it.
use Rattle.std.specs.Prelude.{List, [], ◌∷◌, ℕ}
use Rattle.std.specs.Option.{unwrap_or}
use Rattle.fields.specs.declared.Name.{Name}
use Rattle.emitting.specs.declared.Row.{Row}
use Rattle.emitting.specs.declared.RowBytes.{RowBytes}
use Rattle.emitting.specs.declared.Kind.{Kind}
use Rattle.emitting.specs.declared.Kind.TheVariants.{ListsSelf, ClosesCycle, UndeclaredParent, UndeclaredClass, NoResource, Duplicate}

-- the number of a kind (FORMAT 8.1)
abbrev pub number_of : Kind → ℕ
number_of ListsSelf = 1
number_of ClosesCycle = 2
number_of UndeclaredParent = 3
number_of UndeclaredClass = 4
number_of NoResource = 5
number_of Duplicate = 6

-- an absent name
abbrev pub no_name : Name
no_name = record { first = 255; second = 255 }

abbrev pub other_of : Row → Name
other_of r = unwrap_or r.other no_name

-- the six bytes of a row, in their order (FORMAT 8.1)
abbrev pub bytes_of : Row → List ℕ
bytes_of r = number_of r.kind ∷ r.subject.first ∷ r.subject.second ∷ (other_of r).first ∷ (other_of r).second ∷ unwrap_or r.word 255 ∷ []

-- the six bytes of a row that may be any, in their order
abbrev pub row_bytes : RowBytes → List ℕ
row_bytes r = r.kind ∷ r.first ∷ r.second ∷ r.other_first ∷ r.other_second ∷ r.word ∷ []
