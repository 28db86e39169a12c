use mathlib.Core.Path.{ap}
use Rattle.definitions.specs.Bits.{bit}
use native.Mathlib.Omega.{arith}
use Rattle.schedule_walk.specs.WalkingLaws.{stopped}
use Rattle.schedule_walk.specs.FormLaws.{item-lead, item-made, item-line}
use Rattle.schedule_walk.proofs.Walk.item.Goals as goal

pub returns-in_err-is_line : goal.returns-in_err-is_line
returns-in_err-is_line c = stopped _ _ c.from_residual.ensures.1 (item-lead _ _ _ c.in_err-is_line.ensures)

pub returns-then-not-is_line : goal.returns-then-not-is_line
returns-then-not-is_line c = item-made _ _ _ _ c.in_ok-is_line.ensures (ap bit c.if-not-is_line.true) _ c.made.ensures

pub returns : goal.returns
returns c = item-line _ _ _ _ c.in_ok-is_line.ensures (omega (arith, ap bit c.if-not-is_line.false)) _ c.line.ensures
