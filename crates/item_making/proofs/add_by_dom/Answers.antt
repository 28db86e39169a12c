use Rattle.item_pen.specs.PenLaws.{pending-all}
use Rattle.catalogue.specs.DomLaws.{by_dom-less}
use Rattle.item_making.specs.Making.{marks_bits}
use Rattle.item_making.specs.Adding.{dom-room, dom-less, dom-end}
use Rattle.item_making.proofs.add_by_dom.Goals as goal

pub loop-left-init : goal.loop-left-init
loop-left-init c = pending-all _ 0 _

pub add_class-requires-clause-room_for : goal.add_class-requires-clause-room_for
add_class-requires-clause-room_for c = dom-room c.args.t.now (marks_bits c.args.t.now) c.first_by_dom-c.ensures c.loop-left.invariant c.requires

pub loop-left-smaller : goal.loop-left-smaller
loop-left-smaller c = rw (c.without-left.ensures, c.with_one.ensures) (by_dom-less c.args.t.now _ _ c.first_by_dom-c.ensures)

pub loop-left-preserved : goal.loop-left-preserved
loop-left-preserved c =
    rw (c.without-left.ensures, c.with_one.ensures)
    (dom-less c.args.t.now (marks_bits c.args.t.now) c.first_by_dom-c.ensures c.loop-left.invariant c.add_class.ensures)

pub returns : goal.returns
returns c = dom-end c.args.t.now (marks_bits c.args.t.now) c.loop-left-test.false c.loop-left.invariant
