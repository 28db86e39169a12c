-- What decoding a sheet gives, put together from the definitions of its parts.
use Rattle.std.specs.Prelude.{Bool, cond, List, ℕ}
use Rattle.definitions.specs.Bits.{bits_of}
use Rattle.definitions.specs.Parse.{Parsed, done, refused}
use Rattle.definitions.specs.Records.{Sheet}
use Rattle.definitions.specs.Reading.{sheet}
use Rattle.definitions.specs.Checks.{bad_fill, bad_words, something_twice}
use Rattle.definitions.specs.Map.{TypeMap, type_map_of}
use Rattle.definitions.specs.Answer.{sheet_fault}

-- the number of a refusal, or the whole sheet: its words, and its map with the types in name order
pub data Decoding : Type 0 where
  turned_back : ℕ → Decoding
  whole : (words : List (List ℕ)) (map : TypeMap) → Decoding

abbrev pub whole_of : Sheet → Decoding
whole_of s = whole s.words (type_map_of s)

-- what is tested behind the last field: 7, 5, 6 (FORMAT 7.3)
abbrev pub tested : Sheet → List Bool → Decoding
tested s rest = cond (bad_fill rest) (turned_back 7) (cond (bad_words s.words) (turned_back 5) (cond (something_twice s) (turned_back 6) (whole_of s)))

-- the number of the fault where reading ended early (FORMAT 2.1), otherwise the later tests
abbrev pub of_parsed : Parsed Sheet → Decoding
of_parsed (done s rest) = tested s rest
of_parsed (refused f) = turned_back (sheet_fault f)

unfoldable pub decoded : List ℕ → Decoding
decoded bytes = of_parsed (sheet (bits_of bytes))
