use mathlib.Core.Path.{refl}
use Rattle.definitions.specs.Answer.{order}
use Rattle.access.specs.TestLaws.{due-so}
use Rattle.access.proofs.order.Goals as goal

pub returns : goal.returns
returns c =
    let p = c.in_ok-read.ensures in
    let e = c.end_order in
    due-so _ _ _ _ _ _ _ p order _ _ _ _ e.result refl (e.ensures.due _ p.whole)
