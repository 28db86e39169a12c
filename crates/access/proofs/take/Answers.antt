use Rattle.access.specs.TestLaws.{takes}
use Rattle.access.proofs.take.Goals as goal

pub returns : goal.returns
returns c =
    let q = c.in_ok-refused_early.ensures in
    takes _ _ _ _ _ _ q.0 q.1 _ c.decode.ensures
