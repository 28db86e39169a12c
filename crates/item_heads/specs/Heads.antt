-- What the code makes of variants and of marks.
use Rattle.std.specs.Prelude.{◌&&◌, ◌||◌, cond, List, [], ◌∷◌, ◌++◌, ◌≡◌, ℕ, ◌<◌, eqb, length}
use Rattle.std.proofs.Common.{arith}
use Rattle.lists.specs.Lists.{each}
use Rattle.rows.specs.Rows.{has_bit}
use Rattle.definitions.specs.Bits.{to_bits}
use Rattle.definitions.specs.Records.{Mark, makelist_mark, derive_mark}
use Rattle.definitions.specs.Packing as packing
use Rattle.item_heads.specs.declared.packed.Packed.{Packed}

-- A set with the type at a place, if it is a resource.
pub record WithResource (types a variant r : ℕ) : Type 0 where
  pub bits : (b : ℕ) → has_bit r b ≡ (has_bit types b || (eqb a b && eqb variant 1))

-- A mark from two numbers: whether it is Derive, and its tag.
abbrev pub mark_as : ℕ → ℕ → Mark
mark_as d t = cond (eqb d 1) (derive_mark t) makelist_mark

-- No marks.
abbrev pub no_marks : Packed
no_marks = record { bits = 0; width = 0; count = 0; few = omega arith; narrow = omega arith; less = omega arith }

-- The marks as bits, one behind the other as in a schedule, at most 7 (FORMAT 2.9, 6.2).
pub record Packs (ms : List Mark) (p : Packed) : Type 0 where
  pub count : p.count ≡ length ms
  pub bits : to_bits p.width p.bits ≡ each packing.mark_bits ms

-- One mark more, while there are less than 7.
pub record WithMark (p : Packed) (derive tag : ℕ) (r : Packed) : Type 0 where
  pub more : (ms : List Mark) → length ms < 7 → Packs ms p → Packs (ms ++ (mark_as derive tag ∷ [])) r
