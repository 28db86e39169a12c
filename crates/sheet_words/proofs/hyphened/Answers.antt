use mathlib.Core.Path.{refl}
use Rattle.sheet_words.specs.Bytes.{hyphens}
use Rattle.sheet_words.proofs.hyphened.Goals as goal

pub returns : goal.returns
unfolding hyphens
returns c = refl
