-- What is asked of the parents in the compact form.
use Rattle.std.specs.Prelude.{ℕ, ◌<◌}
use Rattle.lists.specs.Lists.{In}
use Rattle.order_form.specs.Reading.{listed}
use Rattle.order_form.specs.declared.Parent.{Parent}
use Rattle.order_form.specs.declared.Parents.{Parents}

-- the parents of type t are declared (FORMAT 3.2)
pub record ParentsBelow (p : Parents) (t : ℕ) : Type 0 where
  pub lower : (q : Parent) → In q (listed p t) → q.place < p.count
