-- What reading a field at a bit position finds.
use Rattle.std.specs.Prelude.{Bool, cond, List, Option, Some, None, ℕ, ◌+◌, ◌^◌, ◌≤◌, leb, length, drop}
use Rattle.definitions.specs.Bits.{num}
use Rattle.definitions.specs.Parse.{past, Parsed, done, refused}
use Rattle.bits.specs.declared.Cursor.{Cursor}

-- So few bytes that a place among their bits, and some bits behind it, is a number of the code: what every reader asks. The
-- limits of a sheet are those of the calls.
abbrev pub Addressable : List ℕ → Type 0
Addressable s = length s ≤ 2 ^ 60

-- the n bits at p as a number, and the position behind them; None where they pass the end
unfoldable pub read_at : List Bool → ℕ → ℕ → Option (ℕ × Cursor)
read_at bs p n = cond (leb (p + n) (length bs)) (Some (num n (drop p bs), record { at = p + n })) None

-- what was read of bs, as the definitions' parsers give it: the value and the bits left, or that the field passes the end
abbrev pub of_read : List Bool → Option (ℕ × Cursor) → Parsed ℕ
of_read bs (Some (v, c)) = done v (drop c.at bs)
of_read bs None = refused past
