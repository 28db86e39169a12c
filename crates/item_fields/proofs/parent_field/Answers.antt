use native.Mathlib.Omega.{arith}
use Rattle.definitions.specs.Packing.{parent_bits}
use Rattle.catalogue.specs.Catalogue.{name_of_key}
use Rattle.item_pen.specs.PenLaws.{holds-all}
use Rattle.item_fields.specs.FieldLaws.{parent-bits}
use Rattle.item_fields.proofs.parent_field.Goals as goal

pub returns : goal.returns
returns c =
    let n = name_of_key c.args.key in
    let w = c.words_field.ensures in
    let h = c.counted_words.ensures in
    (holds-all (parent_bits n) (parent-bits _ _ n w.0.wide w.0.bits) h, omega (arith, h.wide, w.1))
