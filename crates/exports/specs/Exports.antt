-- What the exported calls tell: the number is returned; the size, the count of rows and the flag go into three lent numbers.
use Rattle.std.specs.Prelude.{Bool, true, false, cond, List, [], ◌∷◌, ℕ, ltb, length}
use Rattle.definitions.specs.Answer.{Input, Outcome, overwrite, outcome}

-- 1 if more rows exist
abbrev pub flag : Bool → ℕ
flag true = 1
flag false = 0

-- the returned number, and the lent slices at exit
pub record Exported : Type 0 where
  pub number : ℕ
  pub parts : List ℕ
  pub listing : List ℕ
  pub diagnosis : List ℕ

-- an outcome, told to a caller who lent `parts`
abbrev pub told : Outcome → List ℕ → Exported
told o parts = record {
  number = o.answer.number;
  parts = overwrite (o.answer.size ∷ o.answer.rows ∷ flag o.answer.more ∷ []) parts;
  listing = o.listing;
  diagnosis = o.diagnosis;
}

-- the number that a caller gets who lends fewer than three numbers; it is that of no refusal
abbrev pub too_few_parts : ℕ
too_few_parts = 255

-- what the call tells a caller who lent `parts`; with fewer than three nothing is touched
unfoldable pub exported : Input → List ℕ → Exported
exported i parts =
    cond (ltb (length parts) 3) (record { number = too_few_parts; parts = parts; listing = i.listing; diagnosis = i.diagnosis }) (told (outcome i) parts)
