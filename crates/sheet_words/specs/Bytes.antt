-- The bytes of words, and their heads.
use mathlib.Core.Bool.{Bool, true, ◌&&◌, cond}
use Rattle.std.specs.Prelude.{List, [], ◌∷◌, ◌≡◌, ℕ, zero, suc, ◌+◌, ◌*◌, ◌^◌, ◌≤◌, length, drop}
use Rattle.std.specs.Int.Bits.{bit_and, bit_or, bit_xor}
use Rattle.lists.specs.Lists.{all}
use Rattle.definitions.specs.Bits.{bits_of, to_bits, pack_to}
use Rattle.definitions.specs.Reading.{is_first_byte, is_word_byte}

-- Whether a byte may stand in a word: behind its first, or anywhere (FORMAT 1.1).
abbrev pub may_stand : Bool → ℕ → Bool
may_stand inner b = cond inner (is_word_byte b) (is_first_byte b)

-- Whether bytes may stand in a word that begins with them (FORMAT 1.1).
abbrev pub is_word : List ℕ → Bool
is_word [] = true
is_word (b ∷ l) = is_first_byte b && all is_word_byte l

-- Whether each of the n bytes of a number passes a test.
unfoldable pub spelt : (ℕ → Bool) → ℕ → ℕ → Bool
spelt ok n v = all ok (pack_to n (to_bits (8 * n) v))

-- A number with c in each of six bytes.
abbrev pub six : ℕ → ℕ
six c = 1103823438081 * c

-- Of six bytes below 128, the top bit of each that a word may begin with (FORMAT 1.1).
unfoldable pub marks : ℕ → ℕ
marks v =
    bit_and
    (bit_xor
    (bit_xor (bit_xor (bit_or v (six 32) + six 31) (bit_or v (six 32) + six 5)) (bit_xor (v + six 80) (v + six 70)))
    (bit_xor (v + six 33) (v + six 32)))
    (six 128)

-- The same of the hyphens alone (FORMAT 1.1).
unfoldable pub hyphens : ℕ → ℕ
hyphens v = bit_and (bit_xor (v + six 83) (v + six 82)) (six 128)

-- The first k bytes of a word as one number, zeros behind a shorter word (FORMAT 1.2).
unfoldable pub head_of : ℕ → List ℕ → ℕ
head_of zero l = 0
head_of (suc k) [] = 0
head_of (suc k) (x ∷ l) = x * 2 ^ (8 * k) + head_of k l

-- The bytes of a word are in the sheet s and allowed, its head is theirs, and it is plain where none is a hyphen (FORMAT 1.1).
pub record Held (s : List ℕ) (at count head : ℕ) (plain : Bool) : Type 0 where
  pub first : head ≡ head_of 6 (pack_to count (drop at (bits_of s)))
  pub good : all is_word_byte (pack_to count (drop at (bits_of s))) ≡ true
  pub kind : plain ≡ all is_first_byte (pack_to count (drop at (bits_of s)))
  pub inside : at + 8 * count ≤ 8 * length s
  pub few : count ≤ 31
