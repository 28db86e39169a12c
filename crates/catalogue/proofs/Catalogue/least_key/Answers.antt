use Rattle.catalogue.specs.DomLaws.{found_first, found_less, found_more, found_all}
use Rattle.catalogue.proofs.Catalogue.least_key.Goals as goal

pub loop-c-init : goal.loop-c-init
loop-c-init c = rw (c.into_iter-c-iterator.ensures.into_iter_gives, c.members-c-items.ensures) (found_first _ _ _ c.lowest-best.ensures)

pub loop-c-preserved-then-self-c : goal.loop-c-preserved-then-self-c
loop-c-preserved-then-self-c c =
    let w = c.in-Some.ensures.steps in
    found_less _ _ _ _ _ _ c.loop-c.invariant w.0 w.1 c.if-self-c.true

pub loop-c-preserved : goal.loop-c-preserved
loop-c-preserved c =
    let w = c.in-Some.ensures.steps in
    found_more _ _ _ _ _ _ c.loop-c.invariant w.0 w.1 c.if-self-c.false

pub returns : goal.returns
returns c = found_all _ _ _ _ c.loop-c.invariant c.in-None.ensures.steps.0
