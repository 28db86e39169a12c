-- The types of an order as a list that is lent, place by place.
use Rattle.std.specs.Prelude.{List, ◌≡◌, ℕ, ◌<◌, length, get_or}
use Rattle.std.proofs.Common.{ap, ◌∙◌, arith, get_or-take}
use Rattle.bounded.specs.Items.{items_of, length-items_of}
use Rattle.order_rounds.specs.declared.sequence.Order.{Order}

module _ (o : Order) (lent : List ℕ) (e : lent ≡ items_of o.types) where
  pub as_many : length lent ≡ o.types.count
  as_many = ap length e ∙ length-items_of o.types

  pub same-place : (i : ℕ) → i < length lent → get_or lent i 0 ≡ get_or o.types.items i 0
  same-place i h = ap (λ (l : List ℕ). get_or l i 0) e ∙ get_or-take o.types.count o.types.items i 0 (omega (arith, as_many, h))
