use Rattle.std.specs.Prelude.{refl}
use Rattle.lists.specs.Places.{zero-at}
use Rattle.item_entries.proofs.clear_sets.Goals as goal

pub returns : goal.returns
returns c = record { first = λ w h. zero-at 256 w; second = λ w h. zero-at 256 w; kept = refl }
