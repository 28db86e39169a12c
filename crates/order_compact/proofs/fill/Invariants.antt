use Rattle.order_compact.specs.Compact.{Stands}
use Rattle.order_compact.proofs.fill.Given as goal

abbrev pub invariant-loop-a : goal.invariant-loop-a
invariant-loop-a l = Stands l.t l.x.draft.now l.x.entries.now l.x.read.count l.x.read.own l.a l.l
