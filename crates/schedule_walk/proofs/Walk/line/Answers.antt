use native.Mathlib.Omega.{arith}
use Rattle.schedule_walk.specs.WalkingLaws.{stopped}
use Rattle.schedule_walk.specs.FormLaws.{gone-from, stops-from, line-name, line-flag, line-trait, line-word, line-gone}
use Rattle.schedule_walk.proofs.Walk.line.Goals as goal

pub returns-in_err-named : goal.returns-in_err-named
returns-in_err-named c = stopped _ _ c.from_residual.ensures.1 (line-name _ _ _ c.in_err-named.ensures)

pub returns-in_err-flag : goal.returns-in_err-flag
returns-in_err-flag c = stopped _ _ c.from_residual-in_err-flag.ensures.1 (line-flag _ _ _ _ c.in_ok-named.ensures c.in_err-flag.ensures)

pub returns-in_err-flag-2 : goal.returns-in_err-flag-2
returns-in_err-flag-2 c =
    stopped _ _ c.from_residual-in_err-flag-2.ensures.1 (line-trait _ _ _ _ c.in_ok-named.ensures _ c.in_ok-flag.ensures c.in_err-flag-2.ensures)

pub returns-in_err-last : goal.returns-in_err-last
returns-in_err-last c =
    stopped _ _ c.from_residual-in_err-last.ensures.1
    (line-word _ _ _ _ c.in_ok-named.ensures _ c.in_ok-flag.ensures _ c.in_ok-flag-2.ensures (stops-from (omega arith) c.in_err-last.ensures))

pub returns : goal.returns
returns c =
    line-gone _ _ _ _ c.in_ok-named.ensures _ c.in_ok-flag.ensures _ c.in_ok-flag-2.ensures _ (gone-from (omega arith) c.in_ok-last.ensures)
