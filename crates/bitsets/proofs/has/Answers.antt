use mathlib.Core.Path.{sym, ap, ◌∙◌}
use Prim.Native.Nat.{ℕ, ◌/◌, ◌^◌}
use lib.Bits.{and_mask}
use lib.Dec.{eqb}
use Rattle.rows.specs.Rows.{has_bit}
use Rattle.rows.specs.RowLaws.{bit_is}
use Rattle.bitsets.proofs.has.Goals as goal

pub returns : goal.returns
unfolding has_bit
returns c = ap (λ (z : ℕ). eqb z 1) (and_mask (c.args.set / 2 ^ c.args.k) 1 ∙ sym (bit_is c.args.set c.args.k))
