use native.Mathlib.Omega.{arith}
use Prim.Native.Nat.{◌+◌, ◌*◌, ◌/◌, ◌^◌, ◌≤◌}
use Rattle.definitions.specs.Bits.{bits_of}
use Rattle.item_notes.specs.NoteLaws.{room, marks-start, marks-fit, mark-small, mark-fits, marks-more, marks-all}
use Rattle.item_notes.proofs.pack_marks.Goals as goal
use Rattle.item_notes.proofs.pack_marks.Goals.{After-with_mark-out}

-- the end of a mark is in the sheet
end : (c : After-with_mark-out) → c.loop-left.next + 1 + c.peek-w.result / 256 * 8 ≤ 2 ^ 63
end c =
    let s = c.args in
    let l = c.loop-left in
    let p = c.peek-w in
    room s.s.now _ c.requires.addressable (mark-fits (bits_of s.s.now) s.at l.out l.next l.left p.result c.requires.marks_at c.loop-left-test.true p.ensures l.invariant)

pub overflow_add-next : goal.overflow_add-next
overflow_add-next c =
    let s = c.args in
    omega (arith, room s.s.now _ c.requires.addressable (marks-fit (bits_of s.s.now) s.at c.requires.marks_at))

pub loop-left-init : goal.loop-left-init
loop-left-init c = rw c.none-out.ensures (marks-start _ _ c.peek-left.result c.peek-left.ensures)

pub overflow_cast-w : goal.overflow_cast-w
overflow_cast-w c = omega (arith, mark-small (bits_of c.args.s.now) c.loop-left.next c.peek-w.result c.peek-w.ensures)

pub overflow_add-next-in-loop-left : goal.overflow_add-next-in-loop-left
overflow_add-next-in-loop-left c = omega (arith, end (goal.at.overflow_add-next-in-loop-left c).After-with_mark-out)

pub overflow_add-next-in-loop-left-2 : goal.overflow_add-next-in-loop-left-2
overflow_add-next-in-loop-left-2 c = omega (arith, end (goal.at.overflow_add-next-in-loop-left-2 c).After-with_mark-out)

pub loop-left-preserved : goal.loop-left-preserved
loop-left-preserved c =
    let s = c.args in
    let l = c.loop-left in
    let p = c.peek-w in
    marks-more (bits_of s.s.now) s.at l.out c.with_mark-out.result l.next l.left p.result c.loop-left-test.true p.ensures c.with_mark-out.ensures l.invariant

pub returns : goal.returns
returns c =
    let s = c.args in
    let l = c.loop-left in
    marks-all (bits_of s.s.now) s.at l.out l.next l.left (omega arith) l.invariant
