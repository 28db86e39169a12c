use Rattle.sheet_within.specs.PlainLaws.{none-there, no-associate, other-there, associate-there, nested-there, each-there}
use Rattle.bits.specs.NumberLaws.{length-bits_of, num-lt}
use Rattle.definitions.specs.Bits.{bits_of}
use Rattle.sheet_records.specs.Kinds.{number_of}
use Rattle.std.proofs.Common.{◌≡◌, sym, ap, ◌∙◌, inl, inr}
use lib.ListN.{length, drop}
use Prim.Native.Nat.{◌+◌, ◌/◌, ◌%◌, ◌<◌, ◌≤◌}
use native.Mathlib.Omega.{arith}
use Rattle.sheet_within.proofs.is_plain_in.Goals as goal

-- src/lib.rt:180:9
pub returns-then-w-lt128 : goal.returns-then-w-lt128
returns-then-w-lt128 c =
    let s = c in
    let a = s.args in
    let bs = bits_of a.s.bytes.now in
    let w = c.window-w in
    let l : a.at + 11 ≤ length bs = omega (arith, length-bits_of a.s.bytes.now, s.requires) in
    none-there a.s.words bs a.at w.result l w.ensures a.single c.if-w-lt128.true

pub is_plain_each-requires : goal.is_plain_each-requires
is_plain_each-requires c =
    let a = c.args in
    omega (arith, c.window-w.ensures, num-lt 11 (drop a.at (bits_of a.s.bytes.now)))

-- src/lib.rt:183:9
pub returns-then-w-ge256 : goal.returns-then-w-ge256
returns-then-w-ge256 c =
    let s = c in
    let a = s.args in
    let bs = bits_of a.s.bytes.now in
    let w = c.window-w in
    let l : a.at + 11 ≤ length bs = omega (arith, length-bits_of a.s.bytes.now, s.requires) in
    each-there a.s.words a.single bs a.at w.result l w.ensures _ c.is_plain_each.ensures

pub returns-in_default : goal.returns-in_default
returns-in_default c =
    let s = c in
    let a = s.args in
    let bs = bits_of a.s.bytes.now in
    let w = c.window-w in
    let l : a.at + 11 ≤ length bs = omega (arith, length-bits_of a.s.bytes.now, s.requires) in
    let h : 6 < w.result / 16 % 8 = c.in_default.ensures.1 in
    other-there a.s.words bs a.at w.result l w.ensures (omega (arith, c.if-w-lt128.false)) (omega (arith, c.if-w-ge256.false)) a.single (λ e. absurd (omega (arith, h, e))) (λ e. absurd (omega (arith, h, e)))

pub returns-in-Associate : goal.returns-in-Associate
returns-in-Associate c =
    let s = c in
    let a = s.args in
    let bs = bits_of a.s.bytes.now in
    let w = c.window-w in
    let l : a.at + 11 ≤ length bs = omega (arith, length-bits_of a.s.bytes.now, s.requires) in
    let n : number_of c.in-Ok.kind ≡ w.result / 16 % 8 = c.in-Ok.ensures in
    elim c.in-Associate.is [
      | inl h ↦ associate-there a.s.words bs a.at w.result l w.ensures (omega (arith, c.if-w-lt128.false)) (omega (arith, c.if-w-ge256.false)) a.single _ (sym n ∙ ap number_of h) c.is_plain_list.ensures
      | inr h ↦ nested-there a.s.words bs a.at w.result l w.ensures (omega (arith, c.if-w-lt128.false)) (omega (arith, c.if-w-ge256.false)) a.single _ (sym n ∙ ap number_of h) c.is_plain_list.ensures
    ]

pub returns-in-MakeList : goal.returns-in-MakeList
returns-in-MakeList c =
    let s = c in
    let a = s.args in
    let bs = bits_of a.s.bytes.now in
    let w = c.window-w in
    let l : a.at + 11 ≤ length bs = omega (arith, length-bits_of a.s.bytes.now, s.requires) in
    let k = no-associate c.in-Ok.kind _ c.in-Ok.ensures c.in-MakeList.is in
    other-there a.s.words bs a.at w.result l w.ensures (omega (arith, c.if-w-lt128.false)) (omega (arith, c.if-w-ge256.false)) a.single k.0 k.1
