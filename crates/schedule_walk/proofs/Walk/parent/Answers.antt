use Prim.Native.Nat.{◌+◌}
use mathlib.Core.Path.{ap}
use Rattle.definitions.specs.ScheduleFields.{parent_fields}
use Rattle.schedule_walk.specs.WalkingLaws.{stopped}
use Rattle.schedule_walk.specs.FormLaws.{has-rule, lacks-rule, parent-stops, parent-goes}
use Rattle.schedule_walk.proofs.Walk.parent.Goals as goal

pub returns-in_err-count : goal.returns-in_err-count
unfolding parent_fields
returns-in_err-count c = stopped _ _ c.from_residual.ensures.1 (parent-stops _ _ _ (lacks-rule c.rule_at-rule.ensures c.in_err-count.ensures))

pub returns : goal.returns
unfolding parent_fields
returns c = let r = c.rule_at-rule.ensures in
    let a = c.args in
    parent-goes _ _ _ _ (has-rule r c.in_ok-count.ensures) _ (ap (λ i. a.at + i) r.width) _ c.each_word.ensures
