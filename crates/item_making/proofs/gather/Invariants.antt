use Rattle.std.proofs.Common.{◌≡◌, ◌+◌, ◌&&◌}
use Rattle.definitions.specs.Bits.{odd}
use Rattle.bitsets.specs.Bitsets.{members}
use Rattle.item_making.specs.Making.{marks_in, all_virtual}
use Rattle.item_making.proofs.gather.Given as goal

abbrev pub invariant-loop-c : goal.invariant-loop-c
invariant-loop-c l =
    (l.marks + marks_in l.t (members l.c-iterator.left) ≡ l.fn.g.marks + marks_in l.t (members l.set))
    × ((odd l.flag && all_virtual l.t (members l.c-iterator.left)) ≡ (odd l.fn.g.flag && all_virtual l.t (members l.set)))
