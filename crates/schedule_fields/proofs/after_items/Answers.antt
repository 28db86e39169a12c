use native.Mathlib.Omega.{arith}
use mathlib.Core.Path.{sym}
use Rattle.schedule_fields.specs.PlaceLaws.{times_none, times_more}
use Rattle.schedule_fields.proofs.after_items.Goals as goal

pub returns-then-n-eq0 : goal.returns-then-n-eq0
returns-then-n-eq0 c = record { same = λ W. sym (times_none c.args.n _ _ c.if-n-eq0.true); few = omega arith }

pub returns-else-n-eq0 : goal.returns-else-n-eq0
returns-else-n-eq0 c = record { same = λ W. sym (times_more c.args.n _ _ (omega arith)); few = omega arith }
