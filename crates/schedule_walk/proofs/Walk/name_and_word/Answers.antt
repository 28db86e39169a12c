use native.Mathlib.Omega.{arith}
use Rattle.definitions.specs.ScheduleFields.{word_fields}
use Rattle.schedule_walk.specs.Walking.{one, Anything}
use Rattle.schedule_walk.specs.FormLaws.{both-goes}
use Rattle.schedule_walk.proofs.Walk.name_and_word.Goals as goal

pub returns : goal.returns
returns c = both-goes (word_fields c.args.self.words) one Anything 8 _ (omega arith) c.in_ok-named.ensures _ c.word.ensures
