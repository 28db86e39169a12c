use mathlib.Core.Path.{ap}
use Rattle.definitions.specs.Bits.{bit}
use native.Mathlib.Omega.{arith}
use Rattle.schedule_walk.specs.WalkingLaws.{stopped}
use Rattle.schedule_walk.specs.FormLaws.{has-rule, lacks-rule, mark-stops, mark-plain, tag-stops, mark-tag}
use Rattle.schedule_walk.proofs.Walk.mark.Goals as goal

pub returns-in_err-is_derive : goal.returns-in_err-is_derive
returns-in_err-is_derive c = stopped _ _ c.from_residual.ensures.1 (mark-stops _ _ c.in_err-is_derive.ensures)

pub returns-then-not-is_derive : goal.returns-then-not-is_derive
returns-then-not-is_derive c = mark-plain _ _ _ c.in_ok-is_derive.ensures (ap bit c.if-not-is_derive.true)

pub returns-in_err-field : goal.returns-in_err-field
returns-in_err-field c =
    stopped _ _ c.from_residual-in_err-field.ensures.1
    (tag-stops _ _ _ c.in_ok-is_derive.ensures (omega (arith, ap bit c.if-not-is_derive.false)) (lacks-rule c.rule_at-rule.ensures c.in_err-field.ensures))

pub returns : goal.returns
returns c = let r = c.rule_at-rule.ensures in
    mark-tag _ _ _ c.in_ok-is_derive.ensures (omega (arith, ap bit c.if-not-is_derive.false)) _ (has-rule r c.in_ok-field.ensures) _ r.width
