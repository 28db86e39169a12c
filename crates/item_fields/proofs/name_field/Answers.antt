use native.Mathlib.Omega.{arith}
use Rattle.definitions.specs.Packing.{name_bits}
use Rattle.catalogue.specs.Catalogue.{name_of_key}
use Rattle.item_pen.specs.PenLaws.{holds-join, holds-all}
use Rattle.item_fields.specs.FieldLaws.{bits-alone, bits-paired}
use Rattle.item_fields.proofs.name_field.Goals as goal

pub returns-then-second-eq0 : goal.returns-then-second-eq0
returns-then-second-eq0 c =
    let k = c.args.key in
    let h = holds-join c.number-first.ensures c.number.ensures c.join.ensures in
    (holds-all (name_bits (name_of_key k)) (bits-alone k c.if-second-eq0.true) h, omega (arith, h.wide))

pub returns : goal.returns
returns c =
    let k = c.args.key in
    let g = holds-join c.number-first.ensures c.number-2.ensures c.join-flagged.ensures in
    let h = holds-join g c.number-3.ensures c.join-2.ensures in
    (holds-all (name_bits (name_of_key k)) (bits-paired k c.if-second-eq0.false) h, omega (arith, h.wide))
