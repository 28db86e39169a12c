-- Which call a value of the code's enum is.
use Rattle.definitions.specs.Answer as rules
use Rattle.access.specs.declared.call.Call.{Call}
use Rattle.access.specs.declared.call.Call.TheVariants.{Order, Schedule}

abbrev pub call_of : Call → rules.Call
call_of Order = rules.order
call_of Schedule = rules.schedule
