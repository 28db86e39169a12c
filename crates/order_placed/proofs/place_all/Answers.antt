use mathlib.Core.Path.{subst}
use Rattle.order_placed.specs.Placing.{Passed}
use Rattle.order_placed.specs.PlacingLaws.{sound_none, closed_is, fewer-are, placed-all}
use Rattle.order_placed.proofs.place_all.Goals as goal

pub loop-next-init : goal.loop-next-init
loop-next-init c = (sound_none _, c.place_more-next.ensures)

pub loop-next-smaller : goal.loop-next-smaller
loop-next-smaller c =
    let l = c.loop-next in
    fewer-are _ _ _ l.invariant.1 c.loop-next-test.true

pub loop-next-preserved : goal.loop-next-preserved
loop-next-preserved c =
    let l = c.loop-next in
    (l.invariant.1.sound l.invariant.0, c.place_more-next-in-loop-next.ensures)

pub returns : goal.returns
returns c =
    let l = c.loop-next in
    placed-all _ _ l.invariant.0 (closed_is _ _ (subst (Passed _ l.out) c.loop-next-test.false l.invariant.1))
