use mathlib.Core.Path.{refl}
use Rattle.lists.specs.Tabulating.{tabulate}
use Rattle.fields.specs.Fields.{of_names}
use Rattle.fields.proofs.Names.new.Goals as goal

pub returns : goal.returns
unfolding of_names tabulate
returns c = (refl, refl)
