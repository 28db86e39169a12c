use mathlib.Core.Path.{ap, ◌∙◌}
use Prim.Native.Nat.{ℕ, ◌-◌, ◌^◌, min}
use lib.Pow.{pow_pos}
use mathlib.Core.Path.{◌≡◌}
use native.Mathlib.Omega.{arith}
use Rattle.rows.specs.RowLaws.{one_shifted}
use Rattle.bitsets.specs.Bitsets.{first_bits}
use Rattle.bitsets.proofs.first.Goals as goal

pub overflow_sub-result : goal.overflow_sub-result
overflow_sub-result c = omega (arith, one_shifted c.args.count c.if-count-lt64.true, pow_pos c.args.count)

pub returns-then-count-lt64 : goal.returns-then-count-lt64
unfolding first_bits
returns-then-count-lt64 c =
    let e : c.args.count ≡ min c.args.count 64 = omega arith in
    ap (λ (z : ℕ). z - 1) (one_shifted c.args.count c.if-count-lt64.true ∙ ap (λ (z : ℕ). 2 ^ z) e)

pub returns : goal.returns
unfolding first_bits
returns c =
    let e : 64 ≡ min c.args.count 64 = omega arith in
    ap (λ (z : ℕ). 2 ^ z - 1) e
