-- The schedule so far: what a pen has put, item by item.
use Rattle.std.specs.Prelude.{Bool, List, ◌++◌, ◌≡◌, ◌+◌, sum_by, length}
use Rattle.item_pen.specs.declared.ListingPen.{ListingPen}
use Rattle.item_pen.specs.Pen.{Adds, joined}

-- So far these items stand, each given by its bits, behind the bits that stand in front of all items. `start` is the pen before any of
-- this and P the pen now: its number is that of the bits in front and of each item up to here, and with the pen down those bits are
-- written (FORMAT 6.1, 6.4).
pub record SoFar (start : ListingPen) (front : List Bool) (items : List (List Bool)) (P : ListingPen) : Type 0 where
  pub number : P.pen.at ≡ start.pen.at + (length front + sum_by length items)
  pub adds : Adds start P (length items) (front ++ joined items)

-- From P to Q the items xs were added, one or more or none: whatever stood so far, it stands with them behind it.
pub record Grows (P Q : ListingPen) (xs : List (List Bool)) : Type 0 where
  pub so_far : (start : ListingPen) (front : List Bool) (items : List (List Bool)) → SoFar start front items P → SoFar start front (items ++ xs) Q

-- Of the items zs, which are added from P on, those in `rest` are left: whatever stood so far at P, it stands at Q with those that
-- are not left.
pub record Growing (P : ListingPen) (zs : List (List Bool)) (Q : ListingPen) (rest : List (List Bool)) : Type 0 where
  pub added : List (List Bool)
  pub whole : added ++ rest ≡ zs
  pub grows : Grows P Q added
