use Rattle.item_writer.specs.WriterLaws.{FillsTo}
use Rattle.item_writer.proofs.fill_word.Given as goal

abbrev pub invariant-loop-c : goal.invariant-loop-c
invariant-loop-c l =
    FillsTo l.initial.words l.types l.k l.words l.c-iterator.left
