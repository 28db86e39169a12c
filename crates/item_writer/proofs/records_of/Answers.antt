use Rattle.std.proofs.Common.{sym, ◌∙◌}
use Rattle.item_writer.specs.WriterLaws.{records-empty}
use Rattle.item_writer.proofs.records_of.Goals as goal

pub returns-then-not-has : goal.returns-then-not-has
returns-then-not-has c = records-empty _ _ _ (sym c.has.ensures ∙ c.if-not-has.true)
