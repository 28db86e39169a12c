use mathlib.Core.Path.{ap}
use lib.ListN.{replicate}
use Rattle.synth_dedup.specs.Reading.{no_doms}
use Rattle.synth_dedup.proofs.no_doms.Goals as goal

pub returns : goal.returns
unfolding no_doms
returns c = ap (λ r. replicate 200 r) c.empty_row-r.ensures
