use native.Mathlib.Omega.{arith}
use Rattle.definitions.specs.Bits.{bits_of}
use Rattle.item_notes.specs.NoteLaws.{room, annotations-start, annotations-fit, annotation-at, annotations-more, annotations-all}
use Rattle.item_notes.proofs.gather.Goals as goal

pub overflow_add-g : goal.overflow_add-g
overflow_add-g c =
    let s = c.args in
    omega (arith, room s.s.now _ c.requires.addressable (annotations-fit s.t.now s.resources (bits_of s.s.now) s.at c.requires.annotations_at))

pub loop-left-init : goal.loop-left-init
loop-left-init c = annotations-start _ _ _ _ c.peek-left.result c.peek-left.ensures

pub with_annotation-g-requires-clause-annotation_at : goal.with_annotation-g-requires-clause-annotation_at
with_annotation-g-requires-clause-annotation_at c =
    let s = c.args in
    let l = c.loop-left in
    annotation-at s.t.now s.resources (bits_of s.s.now) s.at l.g l.left c.requires.annotations_at c.loop-left-test.true l.invariant

pub loop-left-preserved : goal.loop-left-preserved
loop-left-preserved c =
    let s = c.args in
    let l = c.loop-left in
    annotations-more s.t.now s.resources (bits_of s.s.now) s.at l.g c.with_annotation-g.result l.left c.loop-left-test.true c.with_annotation-g.ensures l.invariant

pub returns : goal.returns
returns c =
    let s = c.args in
    let l = c.loop-left in
    annotations-all s.t.now s.resources (bits_of s.s.now) s.at l.g l.left (omega arith) l.invariant
