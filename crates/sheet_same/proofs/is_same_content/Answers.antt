use Rattle.std.proofs.Common.{sym, ◌∙◌}
use Rattle.sheet_same.specs.Repeats.{same_content}
use Rattle.sheet_same.specs.RepeatLaws.{content-sets, content-words, content-none}
use Rattle.sheet_same.proofs.is_same_content.Goals as goal

pub returns-in-Associate : goal.returns-in-Associate
returns-in-Associate c = c.is_same_set.ensures ∙ sym (content-sets _ _ _ c.in-Associate.is)

pub returns-in-Inherit : goal.returns-in-Inherit
unfolding same_content
returns-in-Inherit c = c.is_same_rows.ensures ∙ sym (rw c.in-Inherit.is)

pub returns-in-Alias : goal.returns-in-Alias
returns-in-Alias c = rw (c.only_word.ensures, c.only_word-in-Alias.ensures) (sym (content-words _ _ _ c.in-Alias.is))

pub returns-in-MakeList : goal.returns-in-MakeList
returns-in-MakeList c = sym (content-none _ _ _ c.in-MakeList.is)
