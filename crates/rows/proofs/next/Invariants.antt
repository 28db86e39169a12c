use Prim.Native.Nat.{◌+◌, ◌*◌, ◌<◌, ◌≤◌}
use Rattle.rows.specs.NextLaws.{Passed}
use Rattle.rows.specs.Rows.{has}
use Rattle.rows.proofs.next.Given as goal

abbrev pub invariant-loop-i : goal.invariant-loop-i
invariant-loop-i l = (l.from ≤ l.i * 64 + l.j) × (l.j < 64) × Passed (has l.r) l.from (l.i * 64 + l.j)
