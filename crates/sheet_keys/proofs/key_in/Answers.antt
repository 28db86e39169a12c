use Prim.Native.Nat.{◌+◌, ◌≤◌}
use native.Mathlib.Omega.{arith}
use lib.ListN.{length}
use Rattle.definitions.specs.Bits.{bits_of}
use Rattle.bits.specs.NumberLaws.{length-bits_of}
use Rattle.sheet_keys.specs.KeyLaws.{first-large, one-word, second-large, two-words}
use Rattle.sheet_keys.proofs.key_in.Goals as goal

pub returns-then-s-a : goal.returns-then-s-a
returns-then-s-a c =
    let w = c.window-w in
    let a = c.args in
    let m = c.requires in
    let bs = bits_of a.s.bytes.now in
    let l : a.at + 17 ≤ length bs = omega (arith, length-bits_of a.s.bytes.now, m) in
    first-large bs a.at a.s.words w.result l a.s.few w.ensures (omega arith)

pub returns-then-w-eq0 : goal.returns-then-w-eq0
returns-then-w-eq0 c =
    let w = c.window-w in
    let a = c.args in
    let m = c.requires in
    let bs = bits_of a.s.bytes.now in
    let l : a.at + 17 ≤ length bs = omega (arith, length-bits_of a.s.bytes.now, m) in
    one-word bs a.at a.s.words w.result l a.s.few w.ensures (omega arith) c.if-w-eq0.true

pub returns-then-s-b : goal.returns-then-s-b
returns-then-s-b c =
    let w = c.window-w in
    let a = c.args in
    let m = c.requires in
    let bs = bits_of a.s.bytes.now in
    let l : a.at + 17 ≤ length bs = omega (arith, length-bits_of a.s.bytes.now, m) in
    second-large bs a.at a.s.words w.result l a.s.few w.ensures (omega arith) (omega (arith, c.if-w-eq0.false)) (omega arith)

pub returns : goal.returns
returns c =
    let w = c.window-w in
    let a = c.args in
    let m = c.requires in
    let bs = bits_of a.s.bytes.now in
    let l : a.at + 17 ≤ length bs = omega (arith, length-bits_of a.s.bytes.now, m) in
    two-words bs a.at a.s.words w.result l a.s.few w.ensures (omega arith) (omega (arith, c.if-w-eq0.false)) (omega arith)
