use Rattle.std.proofs.Common.{◌≡◌, ◌+◌, length}
use Rattle.item_making.specs.Making.{Recorded, added}
use Rattle.item_making.proofs.count_added.Given as goal

abbrev pub invariant-loop-e : goal.invariant-loop-e
invariant-loop-e l = (l.n + length (added l.t l.e-iterator.left) ≡ length (added l.t l.records)) × Recorded l.t l.e-iterator.left
