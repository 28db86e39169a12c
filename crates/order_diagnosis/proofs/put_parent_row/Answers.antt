use Rattle.std.proofs.Common.{rules}
use Rattle.emitting.specs.Emitting as emitting
use Rattle.order_diagnosis.proofs.put_parent_row.Goals as goal

pub returns : goal.returns
unfolding emitting.emit
returns c = search rules
