use mathlib.Core.Path.{refl}
use Rattle.access.specs.ScheduleLaws.{drafts, standing, synthesizes, rows-due}
use Rattle.access.proofs.type_refused.Goals as goal

pub fill-requires : goal.fill-requires
fill-requires c = let x = c.requires.filled_for in drafts _ _ _ _ _ x.0 x.1

pub fill-requires-2-clause-readable : goal.fill-requires-2-clause-readable
fill-requires-2-clause-readable c = let x = c.requires.filled_for in standing _ _ _ _ _ x.0 x.1

pub apply_associate_annotations-report-requires-clause-synthesizes : goal.apply_associate_annotations-report-requires-clause-synthesizes
apply_associate_annotations-report-requires-clause-synthesizes c =
    let x = c.requires.filled_for in
    (x.0, synthesizes _ _ _ _ _ x.0 x.1 _ _ c.fill.ensures c.fill-2.ensures)

pub returns : goal.returns
returns c =
    let y = c.apply_associate_annotations-report in
    rows-due _ _ _ _ _ _ _ c.fill.ensures c.fill-2.ensures _ _ _ y.result.rows y.result.more _ y.ensures refl
