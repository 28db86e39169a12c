use mathlib.Core.Path.{refl}
use Rattle.definitions.specs.Answer.{schedule}
use Rattle.access.specs.LineLaws.{due-lists}
use Rattle.access.specs.TestLaws.{due-so}
use Rattle.access.proofs.schedule.Goals as goal

pub returns : goal.returns
returns c =
    let p = c.in_ok-read.ensures in
    let e = c.end_schedule in
    let q = due-so _ _ _ _ _ _ _ p schedule _ _ _ _ e.result refl (e.ensures.due p.whole) in
    record { answered = q; lines_listed = due-lists _ _ _ _ _ _ e.result q }
