use native.Mathlib.Omega.{arith}
use mathlib.Core.Path.{refl, sym, ◌∙◌}
use lib.ListN.{drop}
use Rattle.sheet_words.specs.Words.{bits_in}
use Rattle.sheet_words.specs.WordLaws.{word-none, word-split}
use Rattle.sheet_words.proofs.is_word_at.Goals as goal

pub returns-then-n-eq0 : goal.returns-then-n-eq0
returns-then-n-eq0 c = sym (word-none c.args.n (drop c.args.at (bits_in c.args.s)) c.if-n-eq0.true)

pub returns-then-is_text : goal.returns-then-is_text
returns-then-is_text c =
    let a = c.args in
    sym (word-split (bits_in a.s) a.at a.n (omega (arith, c.if-n-eq0.false)) ∙ rw (sym c.is_text.ensures ∙ c.if-is_text.true) (sym c.is_text-then-is_text.ensures))

pub returns : goal.returns
returns c =
    let a = c.args in
    sym (word-split (bits_in a.s) a.at a.n (omega (arith, c.if-n-eq0.false)) ∙ rw (sym c.is_text.ensures ∙ c.if-is_text.false) refl)
