use mathlib.Core.Path.{◌≡◌}
use lib.ListN.{length}
use Rattle.pairs.proofs.read_resources.Given as goal

abbrev pub invariant-loop-i : goal.invariant-loop-i
invariant-loop-i g l = (length l.words ≡ 15) × (length l.doms ≡ 15)
