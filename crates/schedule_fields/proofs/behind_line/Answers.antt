use native.Mathlib.Omega.{arith}
use mathlib.Core.Path.{sym}
use Rattle.schedule_fields.specs.PlaceLaws.{pick-none, pick-one}
use Rattle.schedule_fields.proofs.behind_line.Goals as goal

pub returns-then-v-eq0 : goal.returns-then-v-eq0
returns-then-v-eq0 c = record { same = λ W. sym (pick-none c.args.v _ _ c.if-v-eq0.true); few = omega arith }

pub returns-else-v-eq0 : goal.returns-else-v-eq0
returns-else-v-eq0 c = record { same = λ W. sym (pick-one c.args.v _ _ (omega arith)); few = omega arith }
