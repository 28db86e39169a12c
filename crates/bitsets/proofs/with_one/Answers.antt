use mathlib.Core.Path.{ap}
use Prim.Native.Nat.{ℕ}
use lib.Bits.{bit_or}
use Rattle.rows.specs.RowLaws.{one_shifted}
use Rattle.bitsets.specs.Bitsets.{more}
use Rattle.bitsets.proofs.with_one.Goals as goal

pub returns : goal.returns
unfolding more
returns c = ap (λ (z : ℕ). bit_or c.args.set z) (one_shifted c.args.k c.requires)
