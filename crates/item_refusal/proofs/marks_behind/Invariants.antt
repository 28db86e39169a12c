use Rattle.std.proofs.Common.{◌≡◌, length}
use Rattle.catalogue.specs.ByDom.{by_dom}
use Rattle.item_refusal.specs.Tests.{follow}
use Rattle.item_refusal.proofs.marks_behind.Given as goal

abbrev pub invariant-loop-places : goal.invariant-loop-places
invariant-loop-places l = follow l.t l.marks l.left (by_dom l.t l.classes) ≡ follow l.t l.marks l.rest (by_dom l.t l.places)

abbrev pub decreases-loop-places : goal.decreases-loop-places
decreases-loop-places l = length (by_dom l.t l.places)
