use native.Mathlib.Omega.{arith}
use mathlib.Core.Path.{sym}
use Rattle.schedule_fields.specs.PlaceLaws.{times_none, times_more}
use Rattle.schedule_fields.proofs.after_parents.Goals as goal

pub returns-then-p-eq0 : goal.returns-then-p-eq0
returns-then-p-eq0 c = record { same = λ W. sym (times_none c.args.p _ _ c.if-p-eq0.true); few = omega arith }

pub returns-else-p-eq0 : goal.returns-else-p-eq0
returns-else-p-eq0 c = record { same = λ W. sym (times_more c.args.p _ _ (omega arith)); few = omega arith }
