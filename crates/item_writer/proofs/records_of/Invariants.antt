use Rattle.item_writer.specs.WriterLaws.{RecordsTo}
use Rattle.item_writer.proofs.records_of.Given as goal

abbrev pub invariant-loop-e : goal.invariant-loop-e
invariant-loop-e l = RecordsTo l.t l.key l.out l.e
