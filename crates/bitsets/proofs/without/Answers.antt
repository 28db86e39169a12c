use mathlib.Core.Path.{refl}
use Rattle.bitsets.specs.Bitsets.{less}
use Rattle.bitsets.proofs.without.Goals as goal

pub returns : goal.returns
unfolding less
returns c = refl
