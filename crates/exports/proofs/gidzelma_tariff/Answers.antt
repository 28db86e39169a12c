use native.Mathlib.Omega.{arith}
use mathlib.Core.Path.{ap, ◌∙◌}
use Prim.Native.Nat.{ℕ}
use lib.IntN.{pos}
use Rattle.exports.specs.ExportLaws.{few-numbers}
use Rattle.exports.proofs.gidzelma_tariff.Goals as goal

pub overflow_cast-result : goal.overflow_cast-result
overflow_cast-result c = let f = few-numbers c.in-Err.refusal in record { fits = omega (arith, f, c.number.ensures) }

pub returns-in-Err : goal.returns-in-Err
returns-in-Err c = ap (λ (n : ℕ). record { number = n; total = pos 0 }) c.number.ensures ∙ c.in-Err.ensures
