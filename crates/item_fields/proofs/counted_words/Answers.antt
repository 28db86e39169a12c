use Rattle.item_pen.specs.PenLaws.{holds-join}
use mathlib.Core.Path.{refl}
use Rattle.item_fields.proofs.counted_words.Goals as goal

pub returns : goal.returns
returns c = holds-join {g = c.args.words} c.number.ensures (record { wide = refl; bits = refl }) c.join.ensures
