use mathlib.Core.Path.{◌∙◌}
use native.Mathlib.Omega.{arith}
use lib.ListN.{drop}
use Rattle.bits.specs.NumberLaws.{length-bits_of, num-lt}
use Rattle.sheet_words.specs.Words.{bits_in}
use Rattle.sheet_words.specs.ByteLaws.{no_length, word-empty, word_some}
use Rattle.sheet_words.proofs.plain_word.Goals as goal

pub returns-then-total-at : goal.returns-then-total-at
returns-then-total-at c =
    let a = c.args in
    no_length (bits_in a.s) a.at 0 (omega (arith, length-bits_of a.s.bytes.now, c.if-total-at.true))

pub returns-then-total-at-lt5 : goal.returns-then-total-at-lt5
returns-then-total-at-lt5 c =
    let a = c.args in
    no_length (bits_in a.s) a.at 0 (omega (arith, length-bits_of a.s.bytes.now, c.if-total-at-lt5.true, c.if-total-at.false))

pub returns-then-n-eq0 : goal.returns-then-n-eq0
returns-then-n-eq0 c =
    let a = c.args in
    word-empty (bits_in a.s) a.at _ (omega (arith, length-bits_of a.s.bytes.now, c.if-total-at-lt5.false, c.if-total-at.false)) c.wide-n.ensures c.if-n-eq0.true

pub bytes_from-requires : goal.bytes_from-requires
bytes_from-requires c =
    let a = c.args in
    (omega (arith, c.if-total-at-lt5.false, c.if-total-at.false), omega (arith, c.if-n-eq0.false), omega (arith, c.wide-n.ensures, num-lt 5 (drop a.at (bits_in a.s))))

pub returns : goal.returns
returns c =
    let a = c.args in
    let l = length-bits_of a.s.bytes.now in
    c.bytes_from.ensures
    ∙ word_some (bits_in a.s) a.at _ (omega (arith, l, c.if-total-at-lt5.false, c.if-total-at.false)) c.wide-n.ensures (omega (arith, c.if-n-eq0.false))
