use Rattle.std.proofs.Common.{◌≡◌, ◌++◌}
use Rattle.bounded.specs.Items.{items_of}
use Rattle.bitsets.specs.Bitsets.{members}
use Rattle.item_spread.specs.SpreadLaws.{UnitedTo}
use Rattle.order_rounds.proofs.append.Given as goal

abbrev pub invariant-loop-a : goal.invariant-loop-a
invariant-loop-a l =
    (goal.iterator-loop-a).can_next l.a-iterator
    × (goal.iterator-loop-a).is_finite l.a-iterator
    × (items_of l.order.types ++ members l.a-iterator.left ≡ items_of l.initial.order.types ++ members l.types)
    × UnitedTo l.types l.children l.near l.a-iterator.left
