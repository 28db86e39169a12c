use Rattle.synth_dedup.specs.Entries.{inter}
use Rattle.synth_dedup.proofs.intersection.Goals as goal

pub returns : goal.returns
unfolding inter
returns c = rw c.shared_words-words.ensures
