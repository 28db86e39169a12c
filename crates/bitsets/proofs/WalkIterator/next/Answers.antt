use Rattle.std.proofs.Common.{arith, ap, length}
use Rattle.bitsets.specs.BitLaws.{members-next}
use Rattle.bitsets.proofs.WalkIterator.next.Goals as goal

pub returns-clause-goes : goal.returns-clause-goes
returns-clause-goes c =
    let e = members-next _ _ _ c.lowest-k.ensures c.rest-self.ensures in
    record { on = λ _. (tt, tt, omega (arith, ap length e)); keeps = tt; rests = λ _. tt }
