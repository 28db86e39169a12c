use Rattle.std.proofs.Common.{arith, refl}
use Rattle.item_pen.specs.PenLaws.{penned-none}
use Rattle.item_pen.proofs.ListingPen.count_item.Goals as goal

pub returns : goal.returns
returns c =
    let P = c.args.self.now in
    record { slice = refl; state = refl; items = omega arith; penned = penned-none P.down P.buf.now P.pen.at }
