use mathlib.Core.Path.{ap}
use Rattle.definitions.specs.Bits.{bit}
use native.Mathlib.Omega.{arith}
use Rattle.schedule_walk.specs.WalkingLaws.{stopped}
use Rattle.schedule_walk.specs.FormLaws.{name-first, name-flag, name-one, name-two}
use Rattle.schedule_walk.proofs.Walk.name.Goals as goal

pub returns-in_err-first : goal.returns-in_err-first
returns-in_err-first c = stopped _ _ c.from_residual.ensures.1 (name-first _ _ _ c.in_err-first.ensures)

pub returns-in_err-has_second : goal.returns-in_err-has_second
returns-in_err-has_second c = stopped _ _ c.from_residual-in_err-has_second.ensures.1 (name-flag _ _ _ _ c.in_ok-first.ensures c.in_err-has_second.ensures)

pub returns-then-not-has_second : goal.returns-then-not-has_second
returns-then-not-has_second c = name-one _ _ _ _ c.in_ok-first.ensures _ c.in_ok-has_second.ensures (ap bit c.if-not-has_second.true)

pub returns : goal.returns
returns c = name-two _ _ _ _ c.in_ok-first.ensures _ c.in_ok-has_second.ensures (omega (arith, ap bit c.if-not-has_second.false)) _ c.word-2.ensures
