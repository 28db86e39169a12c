use Rattle.synth_store.specs.StoreLaws.{nothing-fit}
use Rattle.synth_store.proofs.Saved.nothing.Goals as goal

pub invariant_of-result : goal.invariant_of-result
invariant_of-result c = record { fit = nothing-fit _ _ c.new-words.ensures.0 c.no_doms-doms.ensures }
