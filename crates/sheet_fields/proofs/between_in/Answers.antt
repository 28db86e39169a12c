use native.Mathlib.Omega.{arith}
use Rattle.definitions.specs.Bits.{bits_of}
use Rattle.bits.specs.NumberLaws.{length-bits_of}
use Rattle.sheet_fields.specs.FieldsLaws.{between-low, between-high, between_is}
use Rattle.sheet_fields.proofs.between_in.Goals as goal

pub returns-then-v-least : goal.returns-then-v-least
returns-then-v-least c =
    let w = c.window-v in
    let b = c in
    let a = b.args in
    between-low (bits_of a.s.now) a.at a.n w.result b.requires.1 (omega (arith, length-bits_of a.s.now, b.requires.2, b.requires.3)) w.ensures a.least a.most c.if-v-least.true

pub returns-then-most-v : goal.returns-then-most-v
returns-then-most-v c =
    let w = c.window-v in
    let b = c in
    let a = b.args in
    between-high (bits_of a.s.now) a.at a.n w.result b.requires.1 (omega (arith, length-bits_of a.s.now, b.requires.2, b.requires.3)) w.ensures a.least a.most c.if-v-least.false c.if-most-v.true

pub returns : goal.returns
returns c =
    let w = c.window-v in
    let b = c in
    let a = b.args in
    between_is (bits_of a.s.now) a.at a.n w.result b.requires.1 (omega (arith, length-bits_of a.s.now, b.requires.2, b.requires.3)) w.ensures a.least a.most c.if-v-least.false c.if-most-v.false
