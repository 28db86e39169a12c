-- What the definition of decoding comes to. Each statement is a type of its own; the proofs are in DecodingLaws.antt.
use Rattle.std.specs.Prelude.{Bool, true, false, List, ◌≡◌, ℕ, ◌≤◌, length}
use Rattle.definitions.specs.Bits.{bits_of}
use Rattle.definitions.specs.Parse.{Fault, done, refused}
use Rattle.definitions.specs.Records.{Sheet}
use Rattle.definitions.specs.Reading.{sheet}
use Rattle.definitions.specs.Checks.{bad_fill, bad_words, something_twice}
use Rattle.definitions.specs.Map.{TypeMap, type_map_of}
use Rattle.definitions.specs.Answer.{sheet_fault}
use Rattle.definitions.specs.Relisted.{Holds}
use Rattle.law_decoding.specs.Decoding.{turned_back, whole, whole_of, decoded}

-- bytes that hold a sheet are decoded to it
abbrev pub HeldIsWhole : Type 0
HeldIsWhole = (bytes : List ℕ) (s : Sheet) → Holds bytes s → decoded bytes ≡ whole_of s

-- and only these are decoded
pub record Held (bytes : List ℕ) (ws : List (List ℕ)) (m : TypeMap) : Type 0 where
  pub s : Sheet
  pub holds : Holds bytes s
  pub words : s.words ≡ ws
  pub map : type_map_of s ≡ m

abbrev pub WholeIsHeld : Type 0
WholeIsHeld = (bytes : List ℕ) (ws : List (List ℕ)) (m : TypeMap) → length bytes ≤ 40960 → decoded bytes ≡ whole ws m → Held bytes ws m

-- why bytes are turned back with n: 3 or 4, 7, 5 or 6, in this order
pub data Why (bytes : List ℕ) (n : ℕ) : Type 0 where
  unread : (f : Fault) → sheet (bits_of bytes) ≡ refused f → n ≡ sheet_fault f → Why bytes n
  fill : (s : Sheet) (rest : List Bool) → sheet (bits_of bytes) ≡ done s rest → bad_fill rest ≡ true → n ≡ 7 → Why bytes n
  words : (s : Sheet) (rest : List Bool) → sheet (bits_of bytes) ≡ done s rest → bad_fill rest ≡ false → bad_words s.words ≡ true → n ≡ 5 → Why bytes n
  twice : (s : Sheet) (rest : List Bool) → sheet (bits_of bytes) ≡ done s rest → bad_fill rest ≡ false → bad_words s.words ≡ false → something_twice s ≡ true → n ≡ 6
      → Why bytes n

abbrev pub TurnedBackWhy : Type 0
TurnedBackWhy = (bytes : List ℕ) (n : ℕ) → decoded bytes ≡ turned_back n → Why bytes n
