use mathlib.Core.Path.{sym, ap, ◌∙◌}
use Prim.Native.Nat.{ℕ, ◌/◌, ◌%◌, ◌^◌}
use lib.Bits.{and_mask}
use lib.Dec.{eqb}
use Rattle.rows.specs.Rows.{has, limb}
use Rattle.rows.specs.RowLaws.{bit_is}
use Rattle.rows.proofs.holds.Goals as goal

pub returns : goal.returns
unfolding has
returns c =
    let k = c.args.k in
    ap (λ (z : ℕ). eqb z 1)
    (and_mask (c.quarter-n.result / 2 ^ (k % 64)) 1 ∙ ap (λ (z : ℕ). z / 2 ^ (k % 64) % 2) c.quarter-n.ensures ∙ sym (bit_is (limb c.args.x (k / 64)) (k % 64)))
