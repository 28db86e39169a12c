use mathlib.Core.Path.{◌≡◌}
use lib.ListN.{length}
use Rattle.schedule_fields.specs.Places.{fields_at, fields_left, RuleOf}
use Rattle.schedule_values.specs.Meeting.{bits_within}
use Rattle.schedule_records.specs.Turning.{Going}
use Rattle.schedule_records.proofs.pass.Given as goal

abbrev pub invariant-loop-rule : goal.invariant-loop-rule
invariant-loop-rule l =
    Going l.w l.reading l.down l.source l.initial.target l.target l.place l.at l.to × RuleOf l.rule (fields_at l.w l.place) × (l.end ≡ bits_within (length l.source)) × (l.room ≡ bits_within (length l.initial.target))

abbrev pub decreases-loop-rule : goal.decreases-loop-rule
decreases-loop-rule l = fields_left l.place
