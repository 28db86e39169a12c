use Rattle.item_pen.specs.WideLaws.{put-wide-is}
use mathlib.Core.Path.{◌∙◌}
use Rattle.item_pen.proofs.put_wide.Goals as goal

pub returns : goal.returns
returns c =
    let a = c.args in
    let g = c.requires in
    c.put_eight.ensures
    ∙ put-wide-is a.buf.now a.at a.f.width a.f.value c.eight_at-old.result c.merged.result (λ j. (c.slice_known-1.given j).fits)
    g.1 g.0 a.f.few a.f.most c.eight_at-old.ensures c.merged.ensures
