-- Seven derive marks, the most that there can be, fill 63 bits.
use Rattle.std.specs.Prelude.{refl, ◌-◌, ◌^◌, replicate}
use Rattle.std.proofs.Common.{arith}
use Rattle.definitions.specs.Bits.{to_bits, odd}
use Rattle.definitions.specs.Records.{derive_mark}
use Rattle.definitions.specs.Packing as packing
use Rattle.item_heads.specs.Heads.{Packs}
use Rattle.item_heads.specs.declared.packed.Packed.{Packed}

abbrev seven : Packed
seven = record { bits = 2 ^ 63 - 1; width = 63; count = 7; few = omega arith; narrow = omega arith; less = omega arith }

pub seven-marks : Packs (replicate 7 (derive_mark 255)) seven
unfolding to_bits odd packing.mark_bits
seven-marks = record { count = refl; bits = refl }
