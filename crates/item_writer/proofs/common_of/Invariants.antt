use Rattle.item_writer.specs.WriterLaws.{CommonTo}
use Rattle.item_writer.proofs.common_of.Given as goal

abbrev pub invariant-loop-p : goal.invariant-loop-p
invariant-loop-p l =
    CommonTo l.t l.types l.out l.p-iterator.left
