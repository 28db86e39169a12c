-- What the exported calls tell that turn a schedule into records and back: the number is returned; the size goes into the first of
-- three lent numbers, and the others are 0.
use Rattle.std.specs.Prelude.{cond, List, [], ◌∷◌, ℕ, ltb, length}
use Rattle.definitions.specs.Answer.{overwrite}
use Rattle.definitions.specs.Conversion.{Converted}
use Rattle.exports.specs.Exports.{flag, too_few_parts}

-- the returned number, and the lent slices at exit
pub record ExportedConversion : Type 0 where
  pub number : ℕ
  pub parts : List ℕ
  pub output : List ℕ

-- what is told to a caller who lent `parts`
abbrev pub told_conversion : Converted → List ℕ → ExportedConversion
told_conversion o parts = record {
  number = o.answer.number;
  parts = overwrite (o.answer.size ∷ o.answer.rows ∷ flag o.answer.more ∷ []) parts;
  output = o.output;
}

-- with fewer than three numbers nothing is touched
unfoldable pub exported_conversion : Converted → List ℕ → List ℕ → ExportedConversion
exported_conversion o lent parts =
    cond (ltb (length parts) 3) (record { number = too_few_parts; parts = parts; output = lent }) (told_conversion o parts)
