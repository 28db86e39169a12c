use mathlib.Core.Path.{refl, ◌∙◌}
use Rattle.sheet_words.specs.WordLaws.{self-test}
use Rattle.sheet_words.proofs.with_name.Goals as goal

pub returns : goal.returns
returns c = record {
  rising = refl;
  plain = c.still_plain.ensures;
  class = c.first_place.ensures ∙ rw c.is_resource.ensures refl;
  self = c.first_place-2.ensures ∙ rw (self-test c.args.w) refl;
}
