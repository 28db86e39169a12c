use Rattle.item_writer.specs.WriterLaws.{WordsTo}
use Rattle.item_writer.proofs.fill_words.Given as goal

abbrev pub invariant-loop-k : goal.invariant-loop-k
invariant-loop-k l = WordsTo l.t l.words l.k
