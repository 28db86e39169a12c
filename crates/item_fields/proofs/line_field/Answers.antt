use native.Mathlib.Omega.{arith}
use Rattle.item_pen.specs.PenLaws.{holds-join, holds-all}
use Rattle.item_fields.specs.Fields.{line_bits}
use Rattle.item_fields.specs.FieldLaws.{line-bits}
use Rattle.item_fields.proofs.line_field.Goals as goal

pub returns : goal.returns
returns c =
    let a = c.args in
    let n = holds-join c.number.ensures c.name_field.ensures.0 c.join-name.ensures in
    let g = holds-join c.number-flags.ensures c.number-2.ensures c.join.ensures in
    let h = holds-join n g c.join-2.ensures in (
      holds-all (line_bits a.key a.head a.word) (line-bits a.key a.head a.word) h,
      omega (arith, h.wide, c.name_field.ensures.1, c.name_field.ensures.0.wide),
    )
