use Rattle.std.proofs.Common.{arith, refl}
use Rattle.item_pen.specs.PenLaws.{field_room, penned_put, penned_not}
use Rattle.item_pen.proofs.ListingPen.add_once.Goals as goal
use Rattle.item_pen.proofs.ListingPen.add_once.Goals.{then-self, else-self}

pub put_near-requires : goal.put_near-requires
put_near-requires c =
    let r = field_room c.args.self.now c.args.f c.requires in
    (r.fits c.if-self.true, r.small)

pub overflow_add-self : goal.overflow_add-self
overflow_add-self c =
    let r = field_room c.args.self.now c.args.f c.requires in
    elim c.if-self.branch [
      | then-self w ↦ rw w.self-is (record { fits = r.small })
      | else-self w ↦ rw w.self-is (record { fits = r.small })
    ]

pub returns : goal.returns
returns c =
    let a = c.args in
    let P = a.self.now in
    elim c.if-self.branch [
      | then-self w ↦ rw w.self-is (record { slice = refl; state = refl; items = omega arith; penned = penned_put P.down P.buf.now _ P.pen.at a.f w.if-self.true w.put_near.ensures })
      | else-self w ↦ rw w.self-is (record { slice = refl; state = refl; items = omega arith; penned = penned_not P.down P.buf.now P.pen.at a.f w.if-self.false })
    ]
