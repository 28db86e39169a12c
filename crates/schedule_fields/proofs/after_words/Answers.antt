use native.Mathlib.Omega.{arith}
use mathlib.Core.Path.{sym, ◌∙◌}
use Rattle.schedule_fields.specs.PlaceLaws.{times_none, times_more}
use Rattle.schedule_fields.proofs.after_words.Goals as goal

pub returns-then-k-eq0 : goal.returns-then-k-eq0
returns-then-k-eq0 c = record { same = λ W. c.after_parents.ensures.same W ∙ sym (times_none c.args.k _ _ c.if-k-eq0.true); few = omega (arith, c.after_parents.ensures.few) }

pub returns-else-k-eq0 : goal.returns-else-k-eq0
returns-else-k-eq0 c = record { same = λ W. sym (times_more c.args.k _ _ (omega arith)); few = omega arith }
