-- Relisted sheets, and answers that are alike (FORMAT 5.4, 5.5).
use Rattle.std.specs.Prelude.{Bool, false, ◌↔◌, ◌≡◌, ℕ, ◌≤◌, length, take}
use mathlib.Core.List.{List, [], ◌∷◌, Permᴰ}
use Rattle.lists.specs.Lists.{In}
use Rattle.definitions.specs.Records.{Name, TypeInfo, Sheet}
use Rattle.definitions.specs.Bits.{bits_of}
use Rattle.definitions.specs.Parse.{done}
use Rattle.definitions.specs.Reading.{sheet}
use Rattle.definitions.specs.Checks.{bad_fill, bad_words, something_twice}
use Rattle.definitions.specs.Answer.{Input, outcome}

-- Two type records that differ in nothing but how often and in which order they list their parents (FORMAT 5.4).
pub record SameButParents (T U : TypeInfo) : Type 0 where
  pub name : T.name ≡ U.name
  pub variant : T.variant ≡ U.variant
  pub virtual : T.virtual ≡ U.virtual
  pub trait : T.trait ≡ U.trait
  pub annotations : T.annotations ≡ U.annotations
  pub marks : T.marks ≡ U.marks
  pub parents : (p : Name) → In p T.parents ↔ In p U.parents

-- Two lists of type records that differ so, record by record.
pub data Reparented : List TypeInfo → List TypeInfo → Type 0 where
  end : Reparented [] []
  and : {T U : TypeInfo} {l k : List TypeInfo} → SameButParents T U → Reparented l k → Reparented (T ∷ l) (U ∷ k)

-- Two sheets with equal words and extensions, and the same type records up to their order and that of their parents (FORMAT
-- 5.4).
pub record Relisted (s t : Sheet) : Type 0 where
  pub words : s.words ≡ t.words
  pub extensions : s.extensions ≡ t.extensions
  pub shuffled : List TypeInfo
  pub shuffle : Permᴰ s.types shuffled
  pub types : Reparented shuffled t.types

-- The bytes hold the sheet: they are refused neither by 1 nor by 3 to 7 (FORMAT 7.2).
pub record Holds (bytes : List ℕ) (s : Sheet) : Type 0 where
  pub rest : List Bool
  pub short : length bytes ≤ 40960
  pub read : sheet (bits_of bytes) ≡ done s rest
  pub fill : bad_fill rest ≡ false
  pub words : bad_words s.words ≡ false
  pub once : something_twice s ≡ false

-- The fields of the bytes are read to the sheet, whatever 7, 5 and 6 find in it or behind it.
pub record ReadTo (bytes : List ℕ) (s : Sheet) : Type 0 where
  pub rest : List Bool
  pub read : sheet (bits_of bytes) ≡ done s rest

-- The refusals of which nothing is said here: 1, and 3 to 7 (FORMAT 5.5).
abbrev pub left_out : List ℕ
left_out = 1 ∷ 3 ∷ 4 ∷ 5 ∷ 6 ∷ 7 ∷ []

-- The number answered is none of these. It may be 17 or 2, which say nothing of the sheet.
abbrev pub Compared : Input → Type 0
Compared i = In (outcome i).answer.number left_out → ⊥

-- Two inputs of one call under one limit: bytes that are read to relisted sheets and answered by no number left out; slices of
-- equal lengths.
pub record RelistedInputs (i j : Input) : Type 0 where
  pub settings : i.settings ≡ j.settings
  pub call : i.call ≡ j.call
  pub listing : length i.listing ≡ length j.listing
  pub diagnosis : length i.diagnosis ≡ length j.diagnosis
  pub s : Sheet
  pub t : Sheet
  pub left : ReadTo i.sheet s
  pub right : ReadTo j.sheet t
  pub relisted : Relisted s t
  pub left_compared : Compared i
  pub right_compared : Compared j

-- What both answers have in common, as a caller sees it: number and size; and where both accept, the bytes written, whatever
-- stood in the lent listings, hence the order of the types, and the lines in theirs (FORMAT 5.5).
pub record Alike (i j : Input) : Type 0 where
  pub number : (outcome i).answer.number ≡ (outcome j).answer.number
  pub size : (outcome i).answer.size ≡ (outcome j).answer.size
  pub written : (outcome i).answer.number ≡ 0
      → take (outcome i).answer.size (outcome i).listing ≡ take (outcome j).answer.size (outcome j).listing
