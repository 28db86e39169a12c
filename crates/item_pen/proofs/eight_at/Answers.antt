use mathlib.Core.Path.{◌∙◌}
use Rattle.item_pen.specs.WideLaws.{from-be}
use Rattle.item_pen.proofs.eight_at.Goals as goal

pub returns : goal.returns
returns c = c.from_be_bytes.ensures ∙ from-be c.args.s.now c.args.i (λ j. (c.type_inv.s j).fits)
