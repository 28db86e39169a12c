-- The names one by one, and the parts of what is written.
use Rattle.std.specs.Prelude.{Bool, true, false, List, [], ◌∷◌, ◌++◌, ◌≡◌, refl, ℕ, zero, suc, ◌+◌, ◌*◌, ◌-◌, ◌/◌, ◌%◌, ◌≤◌, ◌<◌, eqb, ltb, length, get_or, drop, Ok, Err}
use Rattle.std.proofs.Common.{sym, ap, ap₂, ◌∙◌, add-one, arith, eqb-true, lt-ltb, le-ltb, length-append}
use Rattle.std.proofs.lemmas.Bool.{eqb-false}
use Rattle.lists.specs.Lists.{each}
use Rattle.lists.specs.Tabulating.{tabulate, length-tabulate, each_next}
use Rattle.lists.specs.Tests.{by}
use Rattle.definitions.specs.Answer.{overwrite}
use Rattle.definitions.specs.Bits.{to_bits, size, pack}
use Rattle.definitions.specs.Packing.{name_bits, order_bits}
use Rattle.bits.specs.NumberLaws.{length-to_bits, length-pack_to}
use Rattle.bits.specs.Writing.{put, Wrote}
use Rattle.bits.specs.WriteLaws.{length-put, put-pack}
use Rattle.catalogue.specs.Layout.{key_at}
use Rattle.catalogue.specs.Catalogue.{name_of_key}
use Rattle.catalogue.specs.declared.Catalogue.{Catalogue}
use Rattle.std.specs.Borrow.{MutBor}
use Rattle.item_pen.specs.declared.ListingPen.{ListingPen}
use Rattle.item_pen.specs.Pen.{Begins, RoomFor, Adds}
use Rattle.item_pen.specs.PenLaws.{adds_then, room-head, room-tail, room_begun, penned_begun}
use Rattle.item_fields.specs.FieldLaws.{name-alone, name-paired}
use Rattle.item_making.specs.Walks.{from_next, from_end}
use Rattle.answers.specs.Answers.{parts}
use Rattle.answers.specs.declared.Refusal.TheVariants.{ShortListing}
use Rattle.order_rounds.specs.declared.sequence.Order.{Order}
use Rattle.order_listing.specs.Listing.{Listing}
use Rattle.order_listing.specs.Order.{name_of, names_in, names_bits, order_in}

-- the bits from the i-th name on
abbrev pub names_from : Catalogue → List ℕ → ℕ → ℕ → List Bool
names_from t order n i = each name_bits (drop i (tabulate (name_of t order) n))

pub names-all : (t : Catalogue) (o : Order) → names_bits t o ≡ names_from t o.types.items o.types.count 0
unfolding names_bits names_in
names-all t o = refl

pub names-next : (t : Catalogue) (order : List ℕ) (n i : ℕ) → i < n → names_from t order n i ≡ name_bits (name_of t order i) ++ names_from t order n (i + 1)
names-next t order n i h = from_next name_bits (name_of t order) n i h

-- the same, where a is the place
pub names-at : (t : Catalogue) (order : List ℕ) (n i a : ℕ) → i < n → a ≡ get_or order i 0 → names_from t order n i ≡ name_bits (name_of_key (key_at t a)) ++ names_from t order n (i + 1)
names-at t order n i a h e = names-next t order n i h ∙ ap (λ (k : ℕ). name_bits (name_of_key (key_at t k)) ++ names_from t order n (i + 1)) (sym e)

pub names-end : (t : Catalogue) (order : List ℕ) (n i : ℕ) → n ≤ i → names_from t order n i ≡ []
names-end t order n i h = from_end name_bits (name_of t order) n i h

-- ---- how many bits

pub alone_long : (key : ℕ) → key % 256 ≡ 0 → 9 ≡ length (name_bits (name_of_key key))
unfolding name_bits
alone_long key e = sym (rw (name-alone key e, length-append (to_bits 8 (key / 256)) (false ∷ []), length-to_bits 8))

pub paired_long : (key : ℕ) → (key % 256 ≡ 0 → ⊥) → 17 ≡ length (name_bits (name_of_key key))
unfolding name_bits
paired_long key e =
    sym (rw (name-paired key e, length-append (to_bits 8 (key / 256)) (true ∷ to_bits 8 (key % 256 - 1)), length-to_bits 8 (key / 256), length-to_bits 8 (key % 256 - 1)))

-- the bits of the first i names
abbrev pub names_to : Catalogue → List ℕ → ℕ → List Bool
names_to t order i = each name_bits (tabulate (name_of t order) i)

pub record SizeTo (t : Catalogue) (order : List ℕ) (i bits : ℕ) : Type 0 where
  pub size : bits ≡ length (names_to t order i)
  pub most : bits ≤ 17 * i

pub size_none : (t : Catalogue) (order : List ℕ) → SizeTo t order 0 0
unfolding tabulate
size_none t order = record { size = refl; most = omega arith }

pub size_more : (t : Catalogue) (order : List ℕ) (i bits x : ℕ) → x ≡ length (name_bits (name_of t order i)) → x ≤ 17 → SizeTo t order i bits → SizeTo t order (i + 1) (bits + x)
size_more t order i bits x f h p = record {
  size =
      ap₂ (λ (a b : ℕ). a + b) p.size f
      ∙ sym (length-append (each name_bits (tabulate (name_of t order) i)) (name_bits (name_of t order i)))
      ∙ sym (ap length (each_next name_bits (name_of t order) i));
  most = omega (arith, p.most);
}

key-size : (key : ℕ) → (x : ℕ) × (x ≡ length (name_bits (name_of_key key))) × (x ≤ 17)
key-size key = by (eqb (key % 256) 0) (λ e. (9, alone_long key (eqb-true (key % 256) 0 e), omega arith)) (λ e. (17, paired_long key (eqb-false (key % 256) 0 e), omega arith))

-- a name more, at a place of the list of places
pub size_at : (t : Catalogue) (order : List ℕ) (i bits a x : ℕ) → a ≡ get_or order i 0 → x ≡ length (name_bits (name_of_key (key_at t a))) → x ≤ 17 → SizeTo t order i bits
    → SizeTo t order (i + 1) (bits + x)
size_at t order i bits a x e f h p = size_more t order i bits x (f ∙ ap (λ (k : ℕ). length (name_bits (name_of_key (key_at t k)))) e) h p

-- all of them
pub names_sized : (t : Catalogue) (o : Order) (i bits : ℕ) → i ≡ o.types.count → SizeTo t o.types.items i bits → (bits ≡ length (names_bits t o)) × (bits ≤ 17 * o.types.count)
unfolding names_bits names_in
names_sized t o i bits e p = (p.size ∙ ap (λ (k : ℕ). length (names_to t o.types.items k)) e, omega (arith, p.most, e))

pub names-most : (t : Catalogue) (order : List ℕ) (n : ℕ) → length (names_to t order n) ≤ 17 * n
names-most t order zero = let p = size_none t order in omega (arith, p.size, p.most)
names-most t order (suc n) =
    let k = key-size (key_at t (get_or order n 0)) in
    let p = size_more t order n (length (names_to t order n)) k.0 k.1 k.2 (record { size = refl; most = names-most t order n }) in
    let e : length (names_to t order (suc n)) ≡ length (names_to t order (n + 1)) = ap (λ (x : ℕ). length (names_to t order x)) (sym (add-one n)) in
    omega (arith, e, p.size, p.most)

-- ---- what is written from the start of a listing

-- a write leaves as many bytes
pub wrote-long : {a b : List ℕ} {p q : ℕ} {bs : List Bool} → Wrote a b p q bs → length b ≡ length a
wrote-long {a} {b} {p} {q} {bs} w = ap length w.holds ∙ length-put a p bs

pub wrote-overwrite : {a b : List ℕ} {q : ℕ} {bs : List Bool} → Wrote a b 0 q bs → size (length bs) ≤ length a → b ≡ overwrite (pack bs) a
unfolding pack
wrote-overwrite {a} {b} {q} {bs} w h = rw (length-pack_to (size (length bs)) bs) (w.holds ∙ put-pack a bs h)

-- ---- all of it

pub order-parts : (t : Catalogue) (o : Order) → order_in t o ≡ to_bits 7 o.types.count ++ names_bits t o
unfolding order_in order_bits names_bits names_in
order-parts t o =
    ap (λ (k : ℕ). to_bits 7 k ++ each name_bits (tabulate (name_of t o.types.items) o.types.count)) (length-tabulate (name_of t o.types.items) o.types.count)

pub order-long : (t : Catalogue) (o : Order) → length (order_in t o) ≡ 7 + length (names_bits t o)
order-long t o = ap length (order-parts t o) ∙ length-append (to_bits 7 o.types.count) (names_bits t o) ∙ ap (λ (k : ℕ). k + length (names_bits t o)) (length-to_bits 7 o.types.count)

bits-most : (t : Catalogue) (o : Order) → length (names_bits t o) ≤ 17 * o.types.count
unfolding names_bits names_in
bits-most t o = names-most t o.types.items o.types.count

module _ {lent : MutBor (List ℕ)} {P : ListingPen} (begun : Begins lent true P) (t : Catalogue) (o : Order) (h : length (order_in t o) ≤ 8 * length lent.now) where
  abbrev n : ℕ
  n = o.types.count

  room : RoomFor P 0 (to_bits 7 o.types.count ++ names_bits t o)
  room =
      let k : length (to_bits 7 n ++ names_bits t o) ≡ length (order_in t o) = ap length (sym (order-parts t o)) in
      room_begun begun 0 _ (λ d. omega (arith, k, h)) (omega (arith, k, order-long t o, bits-most t o, o.types.few)) (omega arith)

  pub room-types : RoomFor P 0 (to_bits 7 o.types.count)
  room-types = room-head 0 0 (to_bits 7 o.types.count) (names_bits t o) room

  module _ {Q : ListingPen} (w : Adds P Q 0 (to_bits 7 o.types.count)) where
    pub room-names : RoomFor Q 0 (names_bits t o)
    room-names = room-tail 0 0 (to_bits 7 o.types.count) (names_bits t o) w room

    module _ {R : ListingPen} (v : Adds Q R 0 (names_bits t o)) where
      pub wrote : {after : List ℕ} → after ≡ R.buf.now → Wrote lent.now after 0 R.pen.at (order_in t o)
      wrote e =
          let a = penned_begun begun (adds_then w v) in
          let k : to_bits 7 n ++ names_bits t o ≡ order_in t o = sym (order-parts t o) in
          record { holds = e ∙ a.holds ∙ ap (put lent.now 0) k; next = a.next ∙ ap (λ (y : List Bool). 0 + length y) k }

-- ---- 10 and acceptance

module _ (entry exit : List ℕ) (bs : List Bool) (n : ℕ) (e : n ≡ size (length bs)) where
  pub listing-short : length entry < n → exit ≡ entry → Listing entry exit bs (Err (ShortListing n))
  listing-short h w =
      let k : ltb (length entry) (size (length bs)) ≡ true = lt-ltb (length entry) (size (length bs)) (omega (arith, e, h)) in
      record { answer = rw k (ap (λ (x : ℕ). parts 10 x 0 false) e); listing = rw k w }

  pub listing-written : n ≤ length entry → exit ≡ overwrite (pack bs) entry → Listing entry exit bs (Ok n)
  listing-written h w =
      let k : ltb (length entry) (size (length bs)) ≡ false = le-ltb (length entry) (size (length bs)) (omega (arith, e, h)) in
      record { answer = rw k (ap (λ (x : ℕ). parts 0 x 0 false) e); listing = rw k w }
