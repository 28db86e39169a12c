use Rattle.std.proofs.Common.{sym, ◌∙◌}
use Rattle.sheet_same.specs.RepeatLaws.{twice-words, twice-none}
use Rattle.sheet_same.proofs.repeats_word.Goals as goal

pub returns-in-Associate : goal.returns-in-Associate
returns-in-Associate c = c.has_word_twice.ensures ∙ sym (twice-words c.args.a c.in-Associate.is)

pub returns-in-MakeList : goal.returns-in-MakeList
returns-in-MakeList c = sym (twice-none c.args.a c.in-MakeList.is)
