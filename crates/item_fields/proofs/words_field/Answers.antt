use Prim.Native.Nat.{◌*◌}
use native.Mathlib.Omega.{arith}
use lib.ListN.{length}
use Rattle.catalogue.specs.Catalogue.{name_of_key}
use Rattle.item_pen.specs.PenLaws.{holds-join, holds_as}
use Rattle.item_fields.specs.Fields.{words_bits}
use Rattle.item_fields.specs.FieldLaws.{words-alone, long-alone, words-paired, long-paired}
use mathlib.Core.Path.{sym}
use Rattle.item_fields.proofs.words_field.Goals as goal

pub returns-then-second-eq0 : goal.returns-then-second-eq0
returns-then-second-eq0 c =
    let k = c.args.key in
    let e = c.if-second-eq0.true in
    (holds_as (8 * length (name_of_key k)) (words_bits (name_of_key k)) (sym (long-alone k e)) (words-alone k e) c.number-first.ensures, omega (arith, c.number-first.ensures.wide))

pub returns : goal.returns
returns c =
    let k = c.args.key in
    let e = c.if-second-eq0.false in
    let h = holds-join c.number-first.ensures c.number.ensures c.join.ensures in
    (holds_as (8 * length (name_of_key k)) (words_bits (name_of_key k)) (sym (long-paired k e)) (words-paired k e) h, omega (arith, h.wide))
