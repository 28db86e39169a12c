-- Sets of numbers below 256, as rows of bits.
use Rattle.std.specs.Prelude.{Bool, ℕ, zero, suc, ◌/◌, ◌%◌, ◌^◌, eqb}
use Rattle.std.specs.Int.Bits.{bit_and, bit_or, bit_xor}
use Rattle.rows.specs.declared.Row.{Row}

unfoldable pub common : Row → Row → Row
common x y = record { a = bit_and x.a y.a; b = bit_and x.b y.b; c = bit_and x.c y.c; d = bit_and x.d y.d }

unfoldable pub without : Row → Row → Row
without x y = record { a = bit_xor x.a (bit_and x.a y.a); b = bit_xor x.b (bit_and x.b y.b); c = bit_xor x.c (bit_and x.c y.c); d = bit_xor x.d (bit_and x.d y.d) }

unfoldable pub either : Row → Row → Row
either x y = record { a = bit_or x.a y.a; b = bit_or x.b y.b; c = bit_or x.c y.c; d = bit_or x.d y.d }

unfoldable pub none : Row → Bool
none x = eqb (bit_or (bit_or (bit_or x.a x.b) x.c) x.d) 0

-- bit k of a number
abbrev pub bit : ℕ → ℕ → ℕ
bit n zero = n % 2
bit n (suc k) = bit (n / 2) k

-- whether k stands in a row of 64
unfoldable pub has_bit : ℕ → ℕ → Bool
has_bit n k = eqb (bit n k) 1

abbrev pub limb : Row → ℕ → ℕ
limb r zero = r.a
limb r (suc zero) = r.b
limb r (suc (suc zero)) = r.c
limb r (suc (suc (suc zero))) = r.d
limb r (suc (suc (suc (suc n)))) = 0

-- whether k stands in the row
unfoldable pub has : Row → ℕ → Bool
has r k = eqb (bit (limb r (k / 64)) (k % 64)) 1

-- the row in which w alone stands, w below 256
abbrev pub lone : ℕ → ℕ → Row
lone zero n = record { a = n; b = 0; c = 0; d = 0 }
lone (suc zero) n = record { a = 0; b = n; c = 0; d = 0 }
lone (suc (suc zero)) n = record { a = 0; b = 0; c = n; d = 0 }
lone (suc (suc (suc i))) n = record { a = 0; b = 0; c = 0; d = n }

unfoldable pub single : ℕ → Row
single w = lone (w / 64) (2 ^ (w % 64))

-- nothing stands in it
abbrev pub empty : Row
empty = record { a = 0; b = 0; c = 0; d = 0 }
