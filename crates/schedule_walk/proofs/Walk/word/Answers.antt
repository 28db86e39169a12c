use Rattle.schedule_walk.specs.WalkingLaws.{field-stops, stopped}
use Rattle.schedule_walk.specs.FormLaws.{has-rule, lacks-rule, word-gone}
use Rattle.schedule_walk.proofs.Walk.word.Goals as goal

pub returns-in_err-field : goal.returns-in_err-field
returns-in_err-field c = stopped _ _ c.from_residual.ensures.1 (field-stops (lacks-rule c.rule_at.ensures c.in_err-field.ensures) (λ k v. k))

pub returns : goal.returns
returns c = word-gone _ _ _ _ (has-rule c.rule_at.ensures c.in_ok-field.ensures)
