-- Laws of a sheet.
use Rattle.std.specs.Prelude.{Bool, true, false, List, [], ◌∷◌, Option, Some, None, ◌≡◌, refl, ℕ, ◌+◌, ◌*◌, ◌^◌, ◌≤◌, ◌<◌, ltb, length, drop}
use Rattle.std.proofs.Common.{sym, ap, ◌∙◌, arith, le-leb, lt-ltb, length-drop, drop_of_length-le}
use Rattle.std.proofs.lemmas.Bool.{lt-leb}
use Rattle.std.proofs.Math.Pow
use Rattle.lists.specs.Lists.{any}
use Rattle.definitions.specs.Bits.{num, bits_of}
use Rattle.definitions.specs.Checks.{bad_fill}
use Rattle.definitions.specs.Reading.{sheet}
use Rattle.definitions.specs.Parse.{next}
use Rattle.bits.specs.declared.Cursor.{Cursor}
use Rattle.bits.specs.Reading.{read_at}
use Rattle.bits.specs.ReadLaws.{read-in}
use Rattle.bits.specs.NumberLaws.{length-bits_of}
use Rattle.sheet.specs.Sheets.{version, lists}

pub sheet-parts : (bs : List Bool) → sheet bs ≡ next (version bs) (λ v. lists)
unfolding sheet version lists
sheet-parts bs = refl

-- bits of which none is set are the number 0
any-num : (bs : List Bool) → any (λ b. b) bs ≡ ltb 0 (num (length bs) bs)
unfolding num
any-num [] = refl
any-num (true ∷ bs) = sym (lt-ltb 0 (1 * 2 ^ length bs + num (length bs) bs) (omega (arith, Pow.pow_pos (length bs))))
any-num (false ∷ bs) =
    let e : num (length bs) bs ≡ 0 * 2 ^ length bs + num (length bs) bs = omega arith in
    any-num bs ∙ ap (λ (n : ℕ). ltb 0 n) e

pub fill-long : (bs : List Bool) → 8 ≤ length bs → bad_fill bs ≡ true
unfolding bad_fill
fill-long bs h = rw (le-leb 8 (length bs) h)

pub fill_none : (s : List ℕ) (p : ℕ) → 8 * length s ≤ p → bad_fill (drop p (bits_of s)) ≡ false
unfolding bad_fill
fill_none s p h = rw (drop_of_length-le (bits_of s) {i = p} (omega (arith, length-bits_of s)))

fill-short : (bs : List Bool) (n : ℕ) → length bs ≡ n → n < 8 → bad_fill bs ≡ ltb 0 (num n bs)
unfolding bad_fill
fill-short bs n e h = rw (← e, lt-leb 8 (length bs) (omega arith)) (any-num bs)

-- what the last bits tell, read as one field
abbrev pub fill_of : Option (ℕ × Cursor) → Bool
fill_of (Some (v, c)) = ltb 0 v
fill_of None = true

pub fill-read : (s : List ℕ) (p n : ℕ) → p + n ≡ 8 * length s → n < 8 → bad_fill (drop p (bits_of s)) ≡ fill_of (read_at (bits_of s) p n)
fill-read s p n e h =
    rw (read-in s p n (omega arith)) (fill-short (drop p (bits_of s)) n (omega (arith, length-drop p (bits_of s), length-bits_of s)) h)
