use mathlib.Core.Path.{sym, subst}
use native.Mathlib.Omega.{arith}
use Rattle.exports.specs.Parts.{Small}
use Rattle.exports.specs.ConversionLaws.{too-few-lent, small-conversion, told-conversion}
use Rattle.exports.proofs.gidzelma_read_schedule.Goals as goal

pub returns-then-parts-lt3 : goal.returns-then-parts-lt3
returns-then-parts-lt3 c = too-few-lent _ _ _ c.if-parts-lt3.true

pub tell-requires-clause-small : goal.tell-requires-clause-small
tell-requires-clause-small c = let r = c.read_schedule-answer in subst Small (sym c.parts_of_conversion.ensures) (small-conversion _ _ _ _ _ r.result _ r.ensures)

pub returns : goal.returns
returns c =
    let r = c.read_schedule-answer in
    let t = c.tell in
    told-conversion _ _ _ _ _ r.result _ r.ensures _ c.parts_of_conversion.ensures _ _ _ (omega arith) t.ensures.0 t.ensures.1
