use Rattle.item_writer.specs.WriterLaws.{PassingTo}
use Rattle.item_writer.proofs.passing.Given as goal

abbrev pub invariant-loop-p : goal.invariant-loop-p
invariant-loop-p l =
    PassingTo l.t l.parents l.mask l.out l.p-iterator.left
