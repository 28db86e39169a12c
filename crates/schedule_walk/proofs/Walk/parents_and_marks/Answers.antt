use native.Mathlib.Omega.{arith}
use Rattle.definitions.specs.ScheduleFields.{marks_fields}
use Rattle.definitions.specs.Values.{mark_values, counted_values}
use Rattle.schedule_walk.specs.Walking.{Anything, marks_bits}
use Rattle.schedule_walk.specs.FormLaws.{both-goes}
use Rattle.schedule_walk.proofs.Walk.parents_and_marks.Goals as goal

pub returns : goal.returns
returns c = both-goes marks_fields (counted_values mark_values) Anything marks_bits _ (omega (arith, c.requires.1)) c.in_ok-listed.ensures _ c.marks.ensures
