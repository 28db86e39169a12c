use Rattle.synth_dedup.specs.JoinLaws.{nothing-good, nothing-by}
use Rattle.synth_dedup.proofs.nothing.Goals as goal

pub invariant_of-result : goal.invariant_of-result
invariant_of-result c = record { good = nothing-good _ _ c.no_entries-list.ensures.1 c.no_doms-doms.ensures }

pub returns : goal.returns
returns c = nothing-by _ c.no_entries-list.ensures.1
