use Rattle.sheet_within.specs.UpLaws.{associate-at, nested-at}
use Rattle.bits.specs.NumberLaws.{length-bits_of}
use Rattle.definitions.specs.Bits.{bits_of}
use Rattle.sheet_records.specs.Kinds.{number_of}
use Rattle.std.proofs.Common.{◌≡◌, sym, ap, ◌∙◌}
use lib.ListN.{length}
use Prim.Native.Nat.{◌+◌, ◌/◌, ◌≤◌}
use native.Mathlib.Omega.{arith}
use Rattle.sheet_within.proofs.count_at.Goals as goal

pub returns-in-Associate : goal.returns-in-Associate
returns-in-Associate c =
    let a = c.args in
    let bs = bits_of a.s.bytes.now in
    let w = c.window-w in
    let l : a.at + 7 ≤ length bs = omega (arith, length-bits_of a.s.bytes.now, c.if-s-at.false) in
    record { count = associate-at a.s.words a.single bs a.at w.result l w.ensures (sym c.in-Ok.ensures ∙ ap number_of c.in-Associate.is) }

pub returns-in-NestAssociate : goal.returns-in-NestAssociate
returns-in-NestAssociate c =
    let a = c.args in
    let bs = bits_of a.s.bytes.now in
    let w = c.window-w in
    let l : a.at + 7 ≤ length bs = omega (arith, length-bits_of a.s.bytes.now, c.if-s-at.false) in
    record { count = nested-at a.s.words a.single bs a.at w.result l w.ensures c.if-single.true (sym c.in-Ok.ensures ∙ ap number_of c.in-NestAssociate.is) }
