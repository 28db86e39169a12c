-- What the order asks is no empty demand: the map of two types, of which one inherits the other.
use Rattle.std.specs.Prelude.{true, ◌≡◌, refl, ◌≤◌, length}
use Rattle.std.proofs.Common.{arith}
use Rattle.lists.specs.Lists.{all}
use Rattle.definitions.specs.Order.{is_self}
use Rattle.order_form.specs.Reading.{type_at, is_name}
use Rattle.order_form.specs.Compact.{Within}
use Rattle.order_parents.specs.Known.{known, all_known}
use Rattle.order_parents.specs.Instance.{pair, sets, pair-sets, below_two}
use Rattle.order_rounds.specs.Organized.{Asked}

pub pair-within : Within pair
pair-within = record {
  most = omega arith;
  word = omega arith;
  distinct = refl;
  parents = below_two (λ a. length (type_at pair a).parents ≤ 8) (omega arith) (omega arith);
  names = below_two (λ a. all is_name (type_at pair a).parents ≡ true) refl refl;
}

pub pair-asked : Asked sets 2 true
unfolding all_known known is_self
pair-asked = record { map = pair; holds = record { within = pair-within; count = refl; sets = pair-sets; known = refl } }
