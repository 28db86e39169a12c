use mathlib.Core.Path.{sym, ap, subst, ◌∙◌}
use native.Mathlib.Omega.{arith}
use Rattle.definitions.specs.Answer.{Answer}
use Rattle.access.specs.Lines.{LinesListed}
use Rattle.exports.specs.Parts.{Small}
use Rattle.exports.specs.ExportLaws.{small-answer, told-all}
use Rattle.exports.proofs.gidzelma_schedule.Goals as goal

pub tell-requires-clause-small : goal.tell-requires-clause-small
tell-requires-clause-small c = let r = c.schedule-answer in subst Small (sym c.from.ensures) (small-answer _ r.result _ _ r.ensures.answered)

pub returns : goal.returns
returns c =
    let r = c.schedule-answer in
    let t = c.tell in
    let k = c.from.ensures in
    record {
      diagnosis_after = told-all _ r.result _ _ r.ensures.answered _ k _ _ _ (omega arith) t.ensures.0 t.ensures.1;
      lines_listed = subst (LinesListed _ _ _) (sym (t.ensures.0 ∙ ap (λ (x : Answer). x.number) k)) r.ensures.lines_listed;
    }
