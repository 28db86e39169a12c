use Rattle.std.proofs.Common.{◌≡◌, ◌+◌, insert, take}
use Rattle.bounded.proofs.UpTo.insert.Given as goal

abbrev pub invariant-loop-i : goal.invariant-loop-i
invariant-loop-i g l = (l.self.count ≡ l.count) × (take (l.i + 1) l.self.items ≡ insert (take l.i l.before) l.at l.fn.item)
