use Rattle.item_pen.specs.SoFarLaws.{grows-one}
use Rattle.item_making.proofs.add_item.Goals as goal

pub returns-in-Synthesized : goal.returns-in-Synthesized
returns-in-Synthesized c = rw c.in-Synthesized.is (grows-one c.create_synthetic_resource.ensures)

pub returns-in-Extension : goal.returns-in-Extension
returns-in-Extension c = rw c.in-Extension.is (grows-one c.extension_line.ensures)
