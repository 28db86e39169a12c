use native.Mathlib.Omega.{arith}
use Rattle.synth_visiting.specs.Going.{trying-none, trying-more, tried-all}
use Rattle.synth_visiting.proofs.trail_of.Goals as goal

pub loop-t-init : goal.loop-t-init
loop-t-init c = trying-none _ c.requires _ c.empty-trail.ensures

pub loop-t-preserved : goal.loop-t-preserved
loop-t-preserved c = trying-more _ c.requires _ _ _ c.loop-t-test.true c.loop-t.invariant c.reach.ensures

pub returns : goal.returns
returns c = tried-all c.args.l.now c.requires c.loop-t.t _ (omega arith) c.loop-t.invariant
