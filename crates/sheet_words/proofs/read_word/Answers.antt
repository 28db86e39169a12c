use native.Mathlib.Omega.{arith}
use Rattle.bits.specs.NumberLaws.{length-bits_of}
use Rattle.sheet_words.specs.Words.{bits_in}
use Rattle.sheet_words.specs.WordLaws.{begun-is}
use Rattle.sheet_words.proofs.read_word.Goals as goal

pub short_word-requires : goal.short_word-requires
short_word-requires c =
    let a = c.args in
    let l = length-bits_of a.s.bytes.now in
    (begun-is (bits_in a.s) a.at _ (omega (arith, l, c.if-at-s.true)) c.wide_in-w.ensures c.if-n-gt0.true, c.if-n-le6.true)

pub long_word-requires : goal.long_word-requires
long_word-requires c =
    let a = c.args in
    let l = length-bits_of a.s.bytes.now in
    (begun-is (bits_in a.s) a.at _ (omega (arith, l, c.if-at-s.true)) c.wide_in-w.ensures c.if-n-gt0.true, omega (arith, c.if-n-le6.false))
