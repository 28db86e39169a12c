-- What a pen does to the bytes that it is lent.
use Rattle.std.specs.Prelude.{Bool, true, cond, List, [], ◌++◌, ◌≡◌, ℕ, ◌+◌, ◌*◌, ◌-◌, ◌/◌, ◌%◌, ◌^◌, ◌≤◌, ◌<◌, ltb, length}
use Rattle.std.specs.Borrow.{MutBor}
use Rattle.lists.specs.Lists.{each}
use Rattle.definitions.specs.Bits.{to_bits}
use Rattle.bits.specs.Writing.{put}
use Rattle.item_pen.specs.declared.field.Field.{Field}
use Rattle.item_pen.specs.declared.ListingPen.{ListingPen}

-- ---- fields

-- The bits of a field (FORMAT 2.1).
abbrev pub field_bits : Field → List Bool
field_bits f = to_bits f.width f.value

-- A field is n bits wide and holds the bits bs.
pub record Holds (f : Field) (n : ℕ) (bs : List Bool) : Type 0 where
  pub wide : f.width ≡ n
  pub bits : field_bits f ≡ bs

-- ---- bits at a place

-- Eight bytes as one number: the first o bits of the old one, the n bits of v, zeros to the end of a byte, and behind that the old one's.
pub record Merged (old o n v r : ℕ) : Type 0 where
  pub is : r ≡ old / 2 ^ (64 - o) * 2 ^ (64 - o) + (v * 2 ^ (64 - o - n) + old % 2 ^ ((64 - o - n) / 8 * 8))

-- What writing n bits at bit p asks: room where the pen is down, and that the places are numbers of 64 bits.
pub record Room (down : Bool) (buf : List ℕ) (p n : ℕ) : Type 0 where
  pub fits : down ≡ true → p + n ≤ 8 * length buf
  pub small : p + n < 2 ^ 64

-- With the pen down the bits bs were written from bit p on, with it up nothing was; q is the bit behind them in both cases (FORMAT 6.4).
pub record Penned (down : Bool) (before after : List ℕ) (p q : ℕ) (bs : List Bool) : Type 0 where
  pub next : q ≡ p + length bs
  pub holds : after ≡ cond down (put before p bs) before

-- ---- a pen

-- A pen that writes to these bytes, is down or up, and has put nothing.
pub record Begins (lent : MutBor (List ℕ)) (down : Bool) (P : ListingPen) : Type 0 where
  pub slice : P.buf.ghost_name ≡ lent.ghost_name
  pub bytes : P.buf.now ≡ lent.now
  pub state : P.down ≡ down
  pub items : P.pen.items ≡ 0
  pub first : P.pen.at ≡ 0

-- What adding k items, or parts of an item for 0, with the bits bs asks.
pub record RoomFor (P : ListingPen) (k : ℕ) (bs : List Bool) : Type 0 where
  pub fits : P.down ≡ true → P.pen.at + length bs ≤ 8 * length P.buf.now
  pub small : P.pen.at + length bs < 2 ^ 64
  pub few : P.pen.items + k < 2 ^ 64

-- They were added: Q is P behind them, with the same bytes, down or up as P.
pub record Adds (P Q : ListingPen) (k : ℕ) (bs : List Bool) : Type 0 where
  pub slice : Q.buf.ghost_name ≡ P.buf.ghost_name
  pub state : Q.down ≡ P.down
  pub items : Q.pen.items ≡ P.pen.items + k
  pub penned : Penned P.down P.buf.now Q.buf.now P.pen.at Q.pen.at bs

-- So many bits are passed over, whichever they are.
pub record PassesOver (P : ListingPen) (n : ℕ) (Q : ListingPen) : Type 0 where
  pub adds : (bs : List Bool) → length bs ≡ n → Adds P Q 0 bs

-- ---- fields that are held back

-- What is written before a field is held beside the one that is: nothing where both have at most 56 bits.
unfoldable pub flushed : Field → Field → List Bool
flushed held f = cond (ltb 56 (held.width + f.width)) (field_bits held) []

-- What is held then.
pub record TakesIn (held f r : Field) : Type 0 where
  pub bits : flushed held f ++ field_bits r ≡ field_bits held ++ field_bits f

-- ---- items

-- The bits of the items, each given by its own.
abbrev pub joined : List (List Bool) → List Bool
joined xs = each (λ (x : List Bool). x) xs

-- What adding the items asks.
abbrev pub RoomForAll : ListingPen → List (List Bool) → Type 0
RoomForAll P xs = RoomFor P (length xs) (joined xs)
