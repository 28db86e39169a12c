use Rattle.std.proofs.Common.{rules, arith, ◌≡◌}
use Rattle.synth_visiting.specs.Ranks.{orderly}
use Rattle.synthesis.specs.SynthesisLaws.{synthesized-by}
use Rattle.synthesis.proofs.apply_associate_annotations.Goals as goal

pub trail_of-trail-requires : goal.trail_of-trail-requires
trail_of-trail-requires c = let z = c.requires.synthesizes.1 in orderly _ _ z.held.reads z.held.order

pub returns : goal.returns
returns c =
    let g = c.play.ensures in
    let same : c.play.new.out.buf.ghost_name ≡ c.new-out.result.buf.ghost_name = g.same.slice in
    let told = c.report.ensures in
    synthesized-by _ _ _ _ _ c.trail_of-trail.ensures _ _ _ _ (record { rows = _; more = _ }) _ c.requires.rows_in_bounds c.new-out.ensures g
    (record { rows = omega (arith, told.rows); more = grind (arith, told.more) }) (search rules)
