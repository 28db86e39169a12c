-- What the functions below the exported calls pass on.
use Rattle.std.specs.Prelude.{ℕ, ◌^◌, ◌<◌, Result}
use Rattle.definitions.specs.Answer.{Answer}
use Rattle.fields.specs.declared.Fault.{Fault}
use Rattle.schedule_records.specs.Turning.{answer_of}

-- the parts fit 32 bits
pub record Small (a : Answer) : Type 0 where
  pub number : a.number < 2 ^ 32
  pub size : a.size < 2 ^ 32
  pub rows : a.rows < 2 ^ 32

-- the answer where a schedule is turned into records, or back
abbrev pub converted : Result ℕ Fault → Answer
converted = answer_of
