use mathlib.Core.Path.{sym, ◌∙◌}
use Rattle.sheet_same.specs.Repeats.{repeats_in}
use Rattle.sheet_same.proofs.is_repeating.Goals as goal

pub returns-then-has_repeated_word : goal.returns-then-has_repeated_word
unfolding repeats_in
returns-then-has_repeated_word c = sym (rw (← c.has_repeated_word.ensures, c.if-has_repeated_word.true))

pub returns-else-has_repeated_word : goal.returns-else-has_repeated_word
unfolding repeats_in
returns-else-has_repeated_word c = c.repeats_annotation.ensures ∙ sym (rw (← c.has_repeated_word.ensures, c.if-has_repeated_word.false))
