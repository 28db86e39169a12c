use native.Mathlib.Omega.{arith}
use Prim.Native.Nat.{◌+◌, ◌*◌, ◌/◌, ◌%◌, ◌^◌, ◌≤◌}
use Rattle.definitions.specs.Bits.{bits_of}
use Rattle.sheet_records.specs.Kinds.{number_of}
use Rattle.item_notes.specs.NoteLaws.{room, rows_start, rows-there, rows_more, rows_all, peek-small}
use Rattle.item_notes.proofs.with_rows.Goals as goal
use Rattle.item_notes.proofs.with_rows.Goals.{After-with_row-out}

-- the end of a name is in the sheet
end : (c : After-with_row-out) → c.loop-left.next + 9 + c.peek-w.result / 256 % 2 * 8 ≤ 2 ^ 63
end c =
    let s = c.args in
    let l = c.loop-left in
    let p = c.peek-w in
    room s.s.now _ c.requires.addressable (rows-there s.t.now s.resources (number_of s.kind) s.n (bits_of s.s.now) s.g l.next l.left p.result l.out c.requires.names_at c.loop-left-test.true p.ensures l.invariant)

pub loop-left-init : goal.loop-left-init
loop-left-init c = rows_start _ _ _ _ _ c.args.g

pub class_in-requires : goal.class_in-requires
class_in-requires c = peek-small (bits_of c.args.s.now) c.loop-left.next c.peek-w.result c.peek-w.ensures

pub overflow_add-next : goal.overflow_add-next
overflow_add-next c = omega (arith, end (goal.at.overflow_add-next c).After-with_row-out)

pub overflow_add-next-in-loop-left : goal.overflow_add-next-in-loop-left
overflow_add-next-in-loop-left c = omega (arith, end (goal.at.overflow_add-next-in-loop-left c).After-with_row-out)

pub loop-left-preserved : goal.loop-left-preserved
loop-left-preserved c =
    let s = c.args in
    let l = c.loop-left in
    let p = c.peek-w in
    rows_more s.t.now s.resources (number_of s.kind) s.n (bits_of s.s.now) s.g l.next l.left p.result c.class_in.result l.out c.with_row-out.result c.loop-left-test.true p.ensures c.class_in.ensures c.with_row-out.ensures l.invariant

pub returns : goal.returns
returns c =
    let s = c.args in
    let l = c.loop-left in
    rows_all s.t.now s.resources (number_of s.kind) s.n (bits_of s.s.now) s.g l.next l.left l.out (omega arith) l.invariant
