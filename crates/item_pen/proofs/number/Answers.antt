use mathlib.Core.Path.{refl, ap, ◌∙◌}
use Prim.Native.Nat.{ℕ, ◌%◌}
use lib.Pow.{pow_pos}
use Rattle.definitions.specs.Bits.{to_bits}
use Rattle.item_pen.specs.PenLaws.{shifted_one, last-bits}
use Rattle.item_pen.proofs.number.Goals as goal

pub nonzero_rem-result : goal.nonzero_rem-result
nonzero_rem-result c = rw (shifted_one c.args.n c.requires) (pow_pos c.args.n)

pub returns : goal.returns
returns c =
    let n = c.args.n in
    let v = c.args.v in
    record { wide = refl; bits = ap (λ (x : ℕ). to_bits n (v % x)) (shifted_one n c.requires) ∙ last-bits n v }
