-- Laws of the schedule so far: how it begins, and how it grows.
use Rattle.std.specs.Prelude.{Bool, List, [], ◌∷◌, ◌++◌, ◌≡◌, ℕ, ◌+◌, length}
use Rattle.std.proofs.Common.{append_assoc, append-nil, sym, ap, ◌∙◌, subst, arith, length-append}
use Rattle.lists.specs.Appending.{each_append}
use Rattle.lists.specs.Sums.{each_long}
use Rattle.item_pen.specs.declared.ListingPen.{ListingPen}
use Rattle.item_pen.specs.Pen.{RoomFor, Adds, joined, RoomForAll}
use Rattle.item_pen.specs.PenLaws.{adds_none, adds_then, adds-as, room_as, room-head, room-tail}
use Rattle.item_pen.specs.SoFar.{SoFar, Grows, Growing}

joined-append : (xs ys : List (List Bool)) → joined (xs ++ ys) ≡ joined xs ++ joined ys
joined-append xs ys = each_append (λ (x : List Bool). x) xs ys

-- what was added is what stands so far
so-far-of : {start P : ListingPen} (front : List Bool) (items : List (List Bool)) → Adds start P (length items) (front ++ joined items) → SoFar start front items P
so-far-of front items w = record {
  number = omega (arith, w.penned.next, length-append front (joined items), each_long (λ (x : List Bool). x) items);
  adds = w;
}

-- with the bits in front alone no item stands
pub so-far-front : {start P : ListingPen} {front : List Bool} → Adds start P 0 front → SoFar start front [] P
so-far-front {start} {P} {front} w = so-far-of front [] (adds-as (sym (append-nil front)) w)

-- a pen stands where it is
so-far-here : (P : ListingPen) → SoFar P [] [] P
so-far-here P = so-far-front (adds_none P)

-- ---- what grows

-- items with these bits
pub grows-of : {P Q : ListingPen} (xs : List (List Bool)) → Adds P Q (length xs) (joined xs) → Grows P Q xs
grows-of {P} {Q} xs w = record {
  so_far = λ start front items s.
      let e : (front ++ joined items) ++ joined xs ≡ front ++ joined (items ++ xs) =
      append_assoc front (joined items) (joined xs) ∙ ap (λ (l : List Bool). front ++ l) (sym (joined-append items xs)) in
      so-far-of front (items ++ xs)
      (subst (λ (k : ℕ). Adds start Q k (front ++ joined (items ++ xs))) (sym (length-append items xs)) (adds-as e (adds_then s.adds w)));
}

-- and their bits are all that is added
pub grows-adds : {P Q : ListingPen} {xs : List (List Bool)} → Grows P Q xs → Adds P Q (length xs) (joined xs)
grows-adds {P} {Q} {xs} g = (g.so_far P [] [] (so-far-here P)).adds

-- one item
pub grows-one : {P Q : ListingPen} {x : List Bool} → Adds P Q 1 x → Grows P Q (x ∷ [])
grows-one {P} {Q} {x} w = grows-of (x ∷ []) (adds-as (sym (append-nil x)) w)

-- no item
pub grows-none : (P : ListingPen) → Grows P P []
grows-none P = grows-of [] (adds_none P)

-- some items and then others
pub grows-then : {P Q R : ListingPen} (xs ys : List (List Bool)) → Grows P Q xs → Grows Q R ys → Grows P R (xs ++ ys)
grows-then {P} {Q} {R} xs ys v w = record {
  so_far = λ start front items s.
      subst (λ (l : List (List Bool)). SoFar start front l R) (append_assoc items xs ys) (w.so_far start front (items ++ xs) (v.so_far start front items s));
}

-- the items by another name
pub grows-as : {P Q : ListingPen} (xs ys : List (List Bool)) → xs ≡ ys → Grows P Q xs → Grows P Q ys
grows-as {P} {Q} xs ys e w = subst (Grows P Q) e w

-- ---- room

pub room-one : {P : ListingPen} (x : List Bool) → RoomForAll P (x ∷ []) → RoomFor P 1 x
room-one x r = room_as (append-nil x) r

pub room-all-as : {P : ListingPen} (xs ys : List (List Bool)) → xs ≡ ys → RoomForAll P xs → RoomForAll P ys
room-all-as {P} xs ys e w = subst (RoomForAll P) e w

module _ {P : ListingPen} (xs ys : List (List Bool)) (r : RoomForAll P (xs ++ ys)) where
  parted : RoomFor P (length xs + length ys) (joined xs ++ joined ys)
  parted = subst (λ (k : ℕ). RoomFor P k (joined xs ++ joined ys)) (length-append xs ys) (room_as (joined-append xs ys) r)

  pub all_head : RoomForAll P xs
  all_head = room-head (length xs) (length ys) (joined xs) (joined ys) parted

  pub all_tail : {Q : ListingPen} → Grows P Q xs → RoomForAll Q ys
  all_tail w = room-tail (length xs) (length ys) (joined xs) (joined ys) (grows-adds w) parted

-- ---- in the midst of a list of items

-- all of them are left, by another name
pub growing-all : {P : ListingPen} (zs rest : List (List Bool)) → rest ≡ zs → Growing P zs P rest
growing-all {P} zs rest e = record { added = []; whole = e; grows = grows-none P }

module _ {rest : List (List Bool)} (zs xs ys : List (List Bool)) (e : rest ≡ xs ++ ys) where
  pub growing-room : {P Q : ListingPen} → Growing P zs Q rest → RoomForAll P zs → RoomForAll Q xs
  growing-room g r = all_head xs ys (room-all-as rest (xs ++ ys) e (all_tail g.added rest (room-all-as zs (g.added ++ rest) (sym g.whole) r) g.grows))

  pub growing-less : {P Q R : ListingPen} → Growing P zs Q rest → Grows Q R xs → Growing P zs R ys
  growing-less g w = record {
    added = g.added ++ xs;
    whole = append_assoc g.added xs ys ∙ ap (λ (l : List (List Bool)). g.added ++ l) (sym e) ∙ g.whole;
    grows = grows-then g.added xs g.grows w;
  }

-- none is left
pub growing-none : (zs : List (List Bool)) {rest : List (List Bool)} {P Q : ListingPen} → rest ≡ [] → Growing P zs Q rest → Grows P Q zs
growing-none zs e g =
    grows-as g.added zs (sym (append-nil g.added) ∙ ap (λ (l : List (List Bool)). g.added ++ l) (sym e) ∙ g.whole) g.grows
