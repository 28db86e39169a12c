use native.Mathlib.Omega.{arith}
use Rattle.item_pen.specs.PenLaws.{holds-join, holds-all}
use Rattle.item_fields.specs.Fields.{head_bits}
use Rattle.item_fields.specs.FieldLaws.{head-bits}
use Rattle.item_fields.proofs.head_field.Goals as goal

pub returns : goal.returns
returns c =
    let a = c.args in
    let n = holds-join c.number.ensures c.name_field.ensures.0 c.join-name.ensures in
    let f = holds-join c.number-2.ensures c.number-3.ensures c.join-flag.ensures in
    let g = holds-join f c.number-4.ensures c.join.ensures in
    let h = holds-join n g c.join-2.ensures in (
      holds-all (head_bits a.key a.word a.is_virtual a.parents) (head-bits a.key a.word a.is_virtual a.parents) h,
      omega (arith, h.wide, c.name_field.ensures.1, c.name_field.ensures.0.wide),
    )
