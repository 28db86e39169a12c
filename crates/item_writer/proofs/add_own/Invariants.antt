use Rattle.item_pen.specs.SoFar.{Growing}
use Rattle.item_writer.specs.Items.{own_items}
use Rattle.item_writer.proofs.add_own.Given as goal

abbrev pub invariant-loop-c : goal.invariant-loop-c
invariant-loop-c l =
    Growing l.initial.pen (own_items l.t l.site l.own) l.pen (own_items l.t l.site l.c-iterator.left)
