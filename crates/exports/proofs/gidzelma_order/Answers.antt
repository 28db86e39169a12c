use mathlib.Core.Path.{sym, subst}
use native.Mathlib.Omega.{arith}
use Rattle.exports.specs.Parts.{Small}
use Rattle.exports.specs.ExportLaws.{too_few, small-answer, told-all}
use Rattle.exports.proofs.gidzelma_order.Goals as goal

pub returns-then-parts-lt3 : goal.returns-then-parts-lt3
returns-then-parts-lt3 c = too_few _ _ c.if-parts-lt3.true

pub tell-requires-clause-small : goal.tell-requires-clause-small
tell-requires-clause-small c = let r = c.order-answer in subst Small (sym c.from.ensures) (small-answer _ r.result _ _ r.ensures)

pub returns : goal.returns
returns c =
    let r = c.order-answer in
    let t = c.tell in
    told-all _ r.result _ _ r.ensures _ c.from.ensures _ _ _ (omega arith) t.ensures.0 t.ensures.1
