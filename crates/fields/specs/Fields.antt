-- What the answers of the code mean: each as the definitions' parsers give it, for the bits bs of the sheet.
use Rattle.std.specs.Prelude.{cond, List, [], ◌∷◌, Bool, Result, Ok, Err, ℕ, eqb, drop, get_or}
use Rattle.lists.specs.Tabulating.{tabulate}
use Rattle.definitions.specs.Bits.{bits_of}
use Rattle.definitions.specs.Parse as parse
use Rattle.definitions.specs.Parse.{Parsed, done, refused}
use Rattle.bits.specs.declared.Cursor.{Cursor}
use Rattle.fields.specs.declared.Fault.{Fault}
use Rattle.fields.specs.declared.Name.{Name}
use Rattle.fields.specs.declared.Names.{Names}
use Rattle.fields.specs.declared.source.Sheet.{Sheet}

-- the bits of a sheet
abbrev pub bits_in : Sheet → List Bool
bits_in s = bits_of s.bytes.now

abbrev pub fault_of : Fault → parse.Fault
fault_of Fault.Past = parse.past
fault_of Fault.NotAllowed = parse.not_allowed

-- what was read, of which f tells what it means
abbrev pub of_parsed : {A B : Type 0} → (A → B) → List Bool → Result (A × Cursor) Fault → Parsed B
of_parsed f bs (Ok (v, c)) = done (f v) (drop c.at bs)
of_parsed f bs (Err r) = refused (fault_of r)

-- a number means itself
abbrev pub of_field : List Bool → Result (ℕ × Cursor) Fault → Parsed ℕ
of_field = of_parsed (λ v. v)

-- a word, or none where it is 255
abbrev pub optional : ℕ → List ℕ
optional w = cond (eqb w 255) [] (w ∷ [])

abbrev pub two_words : ℕ → ℕ → List ℕ
two_words a b = a ∷ optional b

abbrev pub name_of : Name → List ℕ
name_of n = two_words n.first n.second

unfoldable pub of_names : Names → List (List ℕ)
of_names t = tabulate (λ i. two_words (get_or t.first i 0) (get_or t.second i 0)) t.count
