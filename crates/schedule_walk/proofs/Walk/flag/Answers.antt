use Rattle.std.proofs.lemmas.Result.{err_from_is_err_and}
use Rattle.schedule_walk.specs.FormLaws.{has-rule, lacks-rule, has-flag}
use Rattle.schedule_walk.proofs.Walk.flag.Goals as goal

pub returns-in_err-value : goal.returns-in_err-value
returns-in_err-value c =
    let e = err_from_is_err_and c.from_residual.result c.from_residual.ensures.1 in
    rw (e.1, e.2) (lacks-rule c.rule_at-rule.ensures c.in_err-value.ensures)

pub returns : goal.returns
returns c = has-flag (has-rule c.rule_at-rule.ensures c.in_ok-value.ensures)
