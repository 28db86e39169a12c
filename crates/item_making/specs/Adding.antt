-- What is added part by part: a field and what stands behind it; an item that is counted first; and what is made of each place of a
-- set, the lowest first.
use Rattle.std.specs.Prelude.{Bool, List, [], ◌++◌, ◌≡◌, refl, ℕ}
use Rattle.std.proofs.Common.{sym}
use Rattle.item_pen.specs.declared.field.Field.{Field}
use Rattle.item_pen.specs.declared.ListingPen.{ListingPen}
use Rattle.item_pen.specs.Pen.{field_bits, Holds, RoomFor, Adds}
use Rattle.item_pen.specs.PenLaws.{adds-as, adds_then, room_as, room-head, room-tail, Pending, pending-room, pending-less, pending-none}
use Rattle.bitsets.specs.Bitsets.{Lowest, Rest}
use Rattle.catalogue.specs.declared.Catalogue.{Catalogue}
use Rattle.catalogue.specs.ByDom.{but, FirstByDom}
use Rattle.item_making.specs.Making.{each_of, each_by}
use Rattle.item_making.specs.Walks.{each_next, each_none, each_by-next, each_by-none}

-- ---- a field, and the rest

pub room-field : {P : ListingPen} {f : Field} {n : ℕ} {xs : List Bool} (ys : List Bool) → Holds f n xs → RoomFor P 0 (xs ++ ys) → RoomFor P 0 (field_bits f)
room-field {P} {f} {n} {xs} ys h r = room_as (sym h.bits) (room-head 0 0 xs ys r)

pub room-behind : {P Q : ListingPen} {f : Field} {n : ℕ} {xs : List Bool} (ys : List Bool) → Holds f n xs → Adds P Q 0 (field_bits f) → RoomFor P 0 (xs ++ ys) → RoomFor Q 0 ys
room-behind {P} {Q} {f} {n} {xs} ys h w r = room-tail 0 0 xs ys (adds-as h.bits w) r

pub adds-behind : {P Q R : ListingPen} {f : Field} {n : ℕ} {xs ys : List Bool} → Holds f n xs → Adds P Q 0 (field_bits f) → Adds Q R 0 ys → Adds P R 0 (xs ++ ys)
adds-behind h w v = adds_then (adds-as h.bits w) v

-- ---- an item is counted, and then its bits are added

pub room-counted : {P Q : ListingPen} {xs : List Bool} → Adds P Q 1 [] → RoomFor P 1 xs → RoomFor Q 0 xs
room-counted {P} {Q} {xs} c r = room-tail 1 0 [] xs c r

pub adds-counted : {P Q R : ListingPen} {xs : List Bool} → Adds P Q 1 [] → Adds Q R 0 xs → Adds P R 1 xs
adds-counted c w = adds_then c w

-- ---- a walk over a set

module _ (g : ℕ → List Bool) {P Q : ListingPen} {n : ℕ} {bs : List Bool} {left : ℕ} where
  pub walk-room : {k r : ℕ} → Lowest left k → Rest left r → Pending P n bs Q 0 (each_of g left) → RoomFor P n bs → RoomFor Q 0 (g k)
  walk-room {k} {r} l d p w = pending-room 0 0 (g k) (each_of g r) (each_next g left k r l d) refl p w

  pub walk-less : {k r : ℕ} {R : ListingPen} → Lowest left k → Rest left r → Pending P n bs Q 0 (each_of g left) → Adds Q R 0 (g k) → Pending P n bs R 0 (each_of g r)
  walk-less {k} {r} l d p w = pending-less 0 0 (g k) (each_of g r) (each_next g left k r l d) refl p w

  pub walk-end : left ≡ 0 → Pending P n bs Q 0 (each_of g left) → Adds P Q n bs
  walk-end e p = pending-none refl (each_none g left e) p

-- ---- a walk over classes by dom

module _ (t : Catalogue) (g : ℕ → List Bool) {P Q : ListingPen} {n : ℕ} {bs : List Bool} {left : ℕ} where
  pub dom-room : {k : ℕ} → FirstByDom t left k → Pending P n bs Q 0 (each_by t g left) → RoomFor P n bs → RoomFor Q 0 (g k)
  dom-room {k} f p w = pending-room 0 0 (g k) (each_by t g (but left k)) (each_by-next t g left k f) refl p w

  pub dom-less : {k : ℕ} {R : ListingPen} → FirstByDom t left k → Pending P n bs Q 0 (each_by t g left) → Adds Q R 0 (g k) → Pending P n bs R 0 (each_by t g (but left k))
  dom-less {k} f p w = pending-less 0 0 (g k) (each_by t g (but left k)) (each_by-next t g left k f) refl p w

  pub dom-end : left ≡ 0 → Pending P n bs Q 0 (each_by t g left) → Adds P Q n bs
  dom-end e p = pending-none refl (each_by-none t g left e) p
