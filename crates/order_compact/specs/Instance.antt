-- What the compact form asks is no empty demand.
use Rattle.std.specs.Prelude.{◌≡◌, refl, ◌<◌}
use Rattle.std.proofs.Common.{arith}
use Rattle.order_form.specs.Reading.{type_at}
use Rattle.sheet_keys.specs.Keys.{name_of_key}
use Rattle.sheet_draft.specs.Draft.{key_at}
use Rattle.order_parents.specs.Parents.{row_of}
use Rattle.order_parents.specs.Instance.{pair, draft, entries, names, pair-rows, pair-prepared, below_two}
use Rattle.order_rounds.specs.Instance.{pair-within}
use Rattle.order_compact.specs.Compact.{Drafts}
use Rattle.order_compact.specs.Reading.{Drawn}

pub pair-drafts : Drafts draft entries 2
pair-drafts = record {
  few = omega arith;
  name = below_two (λ a. key_at draft (row_of entries a) < 65536) (omega arith) (omega arith);
  parents = pair-prepared.keys;
}

pub pair-drawn : Drawn pair names draft entries 2 1
unfolding name_of_key
pair-drawn = record {
  rows = pair-rows;
  names = below_two (λ a. (type_at pair a).name ≡ name_of_key (key_at draft (row_of entries a))) refl refl;
  within = pair-within;
  word = refl;
}
