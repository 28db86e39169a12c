use Rattle.std.proofs.Common.{sym}
use Rattle.item_pen.specs.PenLaws.{adds_none, adds-as, room_as, flushed-none, flushed-all}
use Rattle.item_pen.proofs.ListingPen.make_room.Goals as goal

pub returns-then-held-f-le56 : goal.returns-then-held-f-le56
returns-then-held-f-le56 c = adds-as (sym (flushed-none c.args.held c.args.f c.if-held-f-le56.true)) (adds_none c.args.self.now)

pub add-requires : goal.add-requires
add-requires c = room_as (flushed-all c.args.held c.args.f c.if-held-f-le56.false) c.requires

pub returns : goal.returns
returns c = adds-as (sym (flushed-all c.args.held c.args.f c.if-held-f-le56.false)) c.add.ensures
