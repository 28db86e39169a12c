-- Laws of reading.
use Rattle.std.specs.Prelude.{Bool, true, false, cond, List, [], ◌∷◌, ◌++◌, Option, Some, None, ◌≡◌, refl, ℕ, zero, suc, ◌+◌, ◌*◌, ◌-◌, ◌^◌, ◌≤◌, ◌<◌, leb, length, drop}
use Rattle.std.proofs.Common.{sym, ap, ◌∙◌, mod-eq_of_lt, mul-one, add-zero, zero-add, zero-mul, add-mul, mul_comm, mul_assoc, add_assoc, arith, le-leb, length-append, length-drop}
use Rattle.std.proofs.lemmas.Option.{some_pair_parts}
use Rattle.std.proofs.Math.Decide.{dec_le}
use Rattle.std.proofs.Math.Nat.{pow-succ'}
use Rattle.std.proofs.lemmas.Bool.{lt-leb}
use Rattle.std.proofs.Math.Seq
use Rattle.definitions.specs.Bits.{bit, to_bits, bits_of, num}
use Rattle.definitions.specs.Parse.{past, Parsed, done, refused, field_onto, field}
use Rattle.bits.specs.declared.Cursor.{Cursor}
use Rattle.bits.specs.Reading.{read_at, of_read}
use Rattle.bits.specs.NumberLaws.{length-to_bits, length-bits_of, num-lt, num-to_bits}

-- whether a value was read
abbrev pub is_done : {A : Type 0} → Parsed A → Bool
is_done (done a rest) = true
is_done (refused f) = false

-- ---- reading at a position
pub read-in : (s : List ℕ) (p n : ℕ) → p + n ≤ 8 * length s →
    read_at (bits_of s) p n ≡ Some (num n (drop p (bits_of s)), record { at = p + n })
unfolding read_at
read-in s p n h = simp (length-bits_of, le-leb (p + n) (8 * length s) h)

pub read_past : (s : List ℕ) (p n : ℕ) → 8 * length s < p + n → read_at (bits_of s) p n ≡ None
unfolding read_at
read_past s p n h = simp (length-bits_of, lt-leb (p + n) (8 * length s) h)

-- a value that was read is below 2 ^ n
pub read-lt : (bs : List Bool) (p n v : ℕ) (c : Cursor) → read_at bs p n ≡ Some (v, c) → v < 2 ^ n
unfolding read_at
read-lt bs p n v c e = go (leb (p + n) (length bs)) e
  where
    go : (t : Bool) → cond {A = Option (ℕ × Cursor)} t (Some (num n (drop p bs), record { at = p + n })) None ≡ Some (v, c) → v < 2 ^ n
    go true h = rw (← (some_pair_parts _ v _ c h).0) (num-lt n (drop p bs))
    go false h = let z : ◌≡◌ {A = ℕ} 0 1 = cc in absurd (omega arith)

-- ---- reading what was written
pub read-written : (bs : List Bool) (p n v : ℕ) (rest : List Bool) → drop p bs ≡ to_bits n v ++ rest → 0 < n → v < 2 ^ n →
    read_at bs p n ≡ Some (v, record { at = p + n })
unfolding read_at
read-written bs p n v rest e h l =
    let m : length bs - p ≡ n + length rest =
    sym (length-drop p bs) ∙ ap length e ∙ rw (length-append, length-to_bits n v) in
    rw (le-leb (p + n) (length bs) (omega arith), e, num-to_bits n v rest, mod-eq_of_lt l)

pub drop-behind : (bs : List Bool) (p : ℕ) (xs rest : List Bool) → drop p bs ≡ xs ++ rest → drop (p + length xs) bs ≡ rest
drop-behind bs p xs rest e = rw (← Seq.drop-drop (length xs) p bs, e) (Seq.drop-append_seam xs rest)

-- ---- the definitions' parser

field_onto-in : (v n : ℕ) (bs : List Bool) → n ≤ length bs → field_onto v n bs ≡ done (v * 2 ^ n + num n bs) (drop n bs)
unfolding field_onto num
field_onto-in v zero bs h = rw (mul-one, add-zero)
field_onto-in v (suc n) [] h = absurd (omega arith)
field_onto-in v (suc n) (b ∷ bs) h =
    rw (field_onto-in (2 * v + bit b) n bs (omega arith), add-mul, mul_comm 2 v, mul_assoc v 2 (2 ^ n), ← pow-succ' 2 n, add_assoc)

field_onto-past : (v n : ℕ) (bs : List Bool) → length bs < n → field_onto v n bs ≡ refused past
unfolding field_onto
field_onto-past v zero bs h = absurd (omega arith)
field_onto-past v (suc n) [] h = refl
field_onto-past v (suc n) (b ∷ bs) h = field_onto-past (2 * v + bit b) n bs (omega arith)

-- a field of the bits that are left is what reading at their place finds
pub field-read : (bs : List Bool) (p n : ℕ) → 0 < n → field n (drop p bs) ≡ of_read bs (read_at bs p n)
unfolding read_at
field-read bs p n h = elim (dec_le (p + n) (length bs)) [
  | yes l ↦ rw (le-leb (p + n) (length bs) l, field_onto-in 0 n (drop p bs) (omega (arith, length-drop p bs)), zero-mul, zero-add, Seq.drop-drop)
  | no l ↦ rw (lt-leb (p + n) (length bs) (omega arith), field_onto-past 0 n (drop p bs) (omega (arith, length-drop p bs)))
]
