use Prim.Native.Nat.{◌+◌}
use mathlib.Core.Path.{ap}
use Rattle.schedule_walk.specs.WalkingLaws.{stopped}
use Rattle.schedule_walk.specs.FormLaws.{has-rule, lacks-rule, gone-from, stops-from, made-head, made-flag, made-count, made-rest, made-gone}
use Rattle.schedule_walk.proofs.Walk.made.Goals as goal

pub returns-in_err-head : goal.returns-in_err-head
returns-in_err-head c = stopped _ _ c.from_residual.ensures.1 (made-head _ _ _ c.in_err-head.ensures)

pub returns-in_err-is_virtual : goal.returns-in_err-is_virtual
returns-in_err-is_virtual c = stopped _ _ c.from_residual-in_err-is_virtual.ensures.1 (made-flag _ _ _ _ c.in_ok-head.ensures c.in_err-is_virtual.ensures)

pub returns-in_err-count : goal.returns-in_err-count
returns-in_err-count c =
    stopped _ _ c.from_residual-in_err-count.ensures.1
    (made-count _ _ _ _ c.in_ok-head.ensures _ c.in_ok-is_virtual.ensures (lacks-rule c.rule_at-rule.ensures c.in_err-count.ensures))

pub returns-in_err-rest : goal.returns-in_err-rest
returns-in_err-rest c = let r = c.rule_at-rule.ensures in
    stopped _ _ c.from_residual-in_err-rest.ensures.1
    (made-rest _ _ _ _ c.in_ok-head.ensures _ c.in_ok-is_virtual.ensures _ (has-rule r c.in_ok-count.ensures)
    (stops-from (ap (λ i. c.in_ok-head.head + 1 + i) r.width) c.in_err-rest.ensures))

pub returns : goal.returns
returns c = let r = c.rule_at-rule.ensures in
    made-gone _ _ _ _ c.in_ok-head.ensures _ c.in_ok-is_virtual.ensures _ (has-rule r c.in_ok-count.ensures) _ c.of_flag.ensures _
    (gone-from (ap (λ i. c.in_ok-head.head + 1 + i) r.width) c.in_ok-rest.ensures)
