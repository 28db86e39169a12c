-- Bytes as lists of bits, the most significant first (FORMAT 2.1, 6.4).
use Rattle.std.specs.Prelude.{Bool, true, false, List, [], ◌∷◌, ◌++◌, ℕ, zero, suc, ◌+◌, ◌*◌, ◌/◌, ◌%◌, ◌^◌, eqb, length, drop}

-- A bit as a number.
abbrev pub bit : Bool → ℕ
bit true = 1
bit false = 0

-- Whether a number is odd: its last bit.
unfoldable pub odd : ℕ → Bool
odd v = eqb (v % 2) 1

-- A field of n bits that holds v: the last n bits of v, most significant first (FORMAT 2.1).
unfoldable pub to_bits : ℕ → ℕ → List Bool
to_bits zero v = []
to_bits (suc n) v = odd (v / 2 ^ n) ∷ to_bits n v

-- The bits of bytes, eight each.
unfoldable pub bits_of : List ℕ → List Bool
bits_of [] = []
bits_of (x ∷ s) = to_bits 8 x ++ bits_of s

-- The first n bits as a number; past the end of the list they are 0.
unfoldable pub num : ℕ → List Bool → ℕ
num zero bs = 0
num (suc n) [] = 0
num (suc n) (b ∷ bs) = bit b * 2 ^ n + num n bs

-- k bytes from the start of a list of bits.
unfoldable pub pack_to : ℕ → List Bool → List ℕ
pack_to zero bs = []
pack_to (suc k) bs = num 8 bs ∷ pack_to k (drop 8 bs)

-- How many bytes hold n bits: n divided by 8, rounded up (FORMAT 6.4).
abbrev pub size : ℕ → ℕ
size n = (n + 7) / 8

-- The bytes that hold the bits; zero bits fill the last byte (FORMAT 2.11, 6.4).
unfoldable pub pack : List Bool → List ℕ
pack bs = pack_to (size (length bs)) bs
