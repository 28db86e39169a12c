-- What is read of the words of a sheet.
use Rattle.std.specs.Prelude.{◌≡◌, ◌≤◌, ◌<◌, ℕ, List, [], Option, Some, None, cond, ltb, length, slice_index_or, string_bytes}
use Rattle.std.specs.declared.string.String.{String}
use Rattle.definitions.specs.Bits.{bits_of}
use Rattle.bits.specs.declared.Cursor.{Cursor}
use Rattle.bits.specs.Reading.{read_at}
use Rattle.text.specs.declared.words.Word.{Word}
use Rattle.text.specs.declared.words.Word.TheVariants.{Text, Number}

-- the value of a field, 0 where it passes the end
abbrev pub value_or_0 : Option (ℕ × Cursor) → ℕ
value_or_0 (Some (v, c)) = v
value_or_0 None = 0

-- the n bits of a sheet at p as a number; 0 where they pass the end, and in what is longer than any slice of a program
abbrev pub value_at : List ℕ → ℕ → ℕ → ℕ
value_at sheet p n = cond (ltb 16777216 (length sheet)) 0 (value_or_0 (read_at (bits_of sheet) p n))

-- W: the 8 bits behind the version
abbrev pub width_of : List ℕ → ℕ
width_of sheet = value_at sheet 4 8

-- word n: the bytes of its text, or the number where there is none
abbrev pub IsWord : {A : Type 0} → List (String A) → ℕ → Word → Type 0
IsWord {A} texts n (Text t) = (n < length texts) × ((d : String A) → t.now ≡ string_bytes (slice_index_or texts n d))
IsWord {A} texts n (Number k) = (length texts ≤ n) × (k ≡ n)

-- word n as it is printed: the bytes of its text; where there is none, nothing for a number below `spelled`, else the number
abbrev pub IsPrinted : {A : Type 0} → List (String A) → ℕ → ℕ → Word → Type 0
IsPrinted {A} texts spelled n (Text t) =
    (n < length texts → (d : String A) → t.now ≡ string_bytes (slice_index_or texts n d)) × (length texts ≤ n → (n < spelled) × (t.now ≡ []))
IsPrinted {A} texts spelled n (Number k) = (length texts ≤ n) × (spelled ≤ n) × (k ≡ n)
