use mathlib.Core.Bool.{true}
use mathlib.Core.Path.{◌≡◌}
use Prim.Native.Nat.{ℕ, ◌<◌}
use Rattle.lists.specs.Lists.{each}
use Rattle.rows.specs.Rows.{has_bit}
use Rattle.bitsets.specs.Bitsets.{members}
use Rattle.item_pen.specs.SoFar.{Growing}
use Rattle.item_writer.specs.Items.{word_items, type_items}
use Rattle.item_writer.proofs.add_type.Given as goal

abbrev pub invariant-loop-k : goal.invariant-loop-k
invariant-loop-k l =
    ((k : ℕ) → has_bit l.k-iterator.left k ≡ true → k < l.t.word_count) × Growing l.initial.pen (type_items l.t l.a) l.pen (each (word_items l.t l.a) (members l.k-iterator.left))
