use Rattle.std.proofs.Common.{refl}
use Rattle.item_pen.specs.PenLaws.{holds_as, holds-join}
use Rattle.item_making.specs.MakingLaws.{resource-bits}
use Rattle.item_making.proofs.resource_field.Goals as goal

pub returns : goal.returns
returns c = holds_as 10 _ refl (resource-bits c.args.t.now) (holds-join c.number.ensures c.number-2.ensures c.join.ensures)
