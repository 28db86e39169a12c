use Rattle.synth_dedup.specs.Entries.{diff}
use Rattle.synth_dedup.proofs.difference.Goals as goal

pub returns : goal.returns
unfolding diff
returns c = rw c.left_words-words.ensures
