use native.Mathlib.Omega.{arith}
use Rattle.definitions.specs.Bits.{bits_of}
use Rattle.bits.specs.NumberLaws.{length-bits_of}
use Rattle.sheet_fields.specs.FieldsLaws.{word-there, word-large}
use Rattle.sheet_fields.proofs.word_in.Goals as goal

pub returns-then-v-limit : goal.returns-then-v-limit
returns-then-v-limit c =
    let w = c.window-v in
    let b = c in
    let a = b.args in
    word-there (bits_of a.s.now) a.at w.result a.limit (omega (arith, length-bits_of a.s.now, b.requires.1)) w.ensures c.if-v-limit.true

pub returns : goal.returns
returns c =
    let w = c.window-v in
    let b = c in
    let a = b.args in
    word-large (bits_of a.s.now) a.at w.result a.limit (omega (arith, length-bits_of a.s.now, b.requires.1)) w.ensures c.if-v-limit.false
