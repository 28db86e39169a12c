use native.Mathlib.Omega.{arith}
use lib.Count.{trailing_le}
use Rattle.bitsets.specs.BitLaws.{lowest-is}
use Rattle.bitsets.proofs.lowest.Goals as goal

pub overflow_cast-result : goal.overflow_cast-result
overflow_cast-result c = omega (arith, trailing_le 64 c.args.set)

pub returns : goal.returns
returns c = lowest-is c.args.set c.requires (omega arith)
