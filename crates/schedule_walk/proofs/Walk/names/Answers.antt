use Rattle.definitions.specs.ScheduleFields.{schedule_fields}
use Rattle.schedule_walk.specs.WalkingLaws.{stopped}
use Rattle.schedule_walk.specs.FormLaws.{has-rule, lacks-rule, names-stops, names-goes}
use Rattle.schedule_walk.proofs.Walk.names.Goals as goal

pub returns-in_err-count : goal.returns-in_err-count
unfolding schedule_fields
returns-in_err-count c = stopped _ _ c.from_residual.ensures.1 (names-stops _ _ (lacks-rule c.rule_at-rule.ensures c.in_err-count.ensures))

pub returns : goal.returns
unfolding schedule_fields
returns c = let r = c.rule_at-rule.ensures in
    names-goes _ _ _ (has-rule r c.in_ok-count.ensures) _ r.width _ c.each_name.ensures
