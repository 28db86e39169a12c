use native.Mathlib.Omega.{arith}
use mathlib.Core.Path.{sym, ◌∙◌}
use Rattle.schedule_fields.specs.PlaceLaws.{times_none, times_more}
use Rattle.schedule_fields.proofs.after_marks.Goals as goal

pub returns-then-m-eq0 : goal.returns-then-m-eq0
returns-then-m-eq0 c = record { same = λ W. c.after_items.ensures.same W ∙ sym (times_none c.args.m _ _ c.if-m-eq0.true); few = omega (arith, c.after_items.ensures.few) }

pub returns-else-m-eq0 : goal.returns-else-m-eq0
returns-else-m-eq0 c = record { same = λ W. sym (times_more c.args.m _ _ (omega arith)); few = omega arith }
