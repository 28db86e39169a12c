use mathlib.Core.Path.{sym, ◌∙◌}
use native.Mathlib.Omega.{arith}
use lib.ListN.{drop}
use Rattle.bits.specs.NumberLaws.{length-bits_of}
use Rattle.definitions.specs.Bits.{pack_to}
use Rattle.sheet_words.specs.ByteLaws.{word-letters}
use Rattle.sheet_words.specs.Words.{bits_in}
use Rattle.sheet_words.specs.WordLaws.{past-good, past-bad, text-good, text-bad}
use Rattle.sheet_words.proofs.bytes_from.Goals as goal

pub returns-then-is_word_at : goal.returns-then-is_word_at
returns-then-is_word_at c =
    let a = c.args in
    let l = length-bits_of a.s.bytes.now in
    past-good (bits_in a.s) a.at a.n _ (omega (arith, l)) c.if-there-n.true (omega (arith, l, c.requires.0)) (sym c.is_word_at.ensures ∙ c.if-is_word_at.true)

pub returns-then-there-n : goal.returns-then-there-n
returns-then-there-n c =
    let a = c.args in
    let l = length-bits_of a.s.bytes.now in
    past-bad (bits_in a.s) a.at a.n _ (omega (arith, l)) c.if-there-n.true (omega (arith, l, c.requires.0)) (sym c.is_word_at.ensures ∙ c.if-is_word_at.false)

pub returns-then-is_word_at-2 : goal.returns-then-is_word_at-2
returns-then-is_word_at-2 c =
    let a = c.args in
    let l = length-bits_of a.s.bytes.now in
    text-good (bits_in a.s) a.at a.n c.requires.1 (omega (arith, l, c.requires, c.if-there-n.false)) (sym c.is_word_at-2.ensures ∙ c.if-is_word_at-2.true)

pub returns : goal.returns
returns c =
    let a = c.args in
    let l = length-bits_of a.s.bytes.now in
    text-bad (bits_in a.s) a.at a.n c.requires.1 (omega (arith, l, c.requires, c.if-there-n.false)) (sym c.is_word_at-2.ensures ∙ c.if-is_word_at-2.false)

pub invariant_of-result : goal.invariant_of-result
invariant_of-result c =
    let a = c.args in
    let l = length-bits_of a.s.bytes.now in
    record {
      held = record {
        first = c.head_at.ensures;
        good = word-letters (pack_to a.n (drop a.at (bits_in a.s))) (sym c.is_word_at-2.ensures ∙ c.if-is_word_at-2.true);
        kind = c.is_text.ensures;
        inside = omega (arith, l, c.requires, c.if-there-n.false);
        few = c.requires.2;
      };
    }
