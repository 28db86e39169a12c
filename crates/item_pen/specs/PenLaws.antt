-- Laws of fields and of the pen.
use Rattle.std.specs.Borrow.{MutBor}
use Rattle.std.specs.Prelude.{Bool, true, false, List, [], ◌++◌, ◌≡◌, refl, ℕ, ◌+◌, ◌*◌, ◌-◌, ◌/◌, ◌%◌, ◌^◌, ◌≤◌, ◌<◌, length}
use Rattle.std.proofs.Common.{append_assoc, append-nil, sym, ap, ap₂, ◌∙◌, subst, mod-lt, one-mul, arith, lt-ltb, le-ltb, length-append}
use Rattle.std.proofs.Math.Arith.{digits_lt}
use Rattle.std.proofs.Math.Pow
use Rattle.definitions.specs.Bits.{to_bits}
use Rattle.bits.specs.Writing.{put, Wrote, Left}
use Rattle.bits.specs.NumberLaws.{length-to_bits, to_bits-split, to_bits-low}
use Rattle.bits.specs.WriteLaws.{put-append, length-put, left_less, left-none}
use Rattle.item_pen.specs.declared.field.Field.{Field}
use Rattle.item_pen.specs.declared.ListingPen.{ListingPen}
use Rattle.item_pen.specs.Pen.{field_bits, Holds, Room, Penned, Begins, RoomFor, Adds, flushed}

-- ---- fields

pub shifted_one : (n : ℕ) → n ≤ 56 → 1 * 2 ^ n % 2 ^ 64 ≡ 2 ^ n
shifted_one n h = Pow.shl_exact {a = 1} 1 n 64 (omega arith) (omega arith) ∙ one-mul (2 ^ n)

-- the last n bits of a number
pub last-bits : (n v : ℕ) → to_bits n (v % 2 ^ n) ≡ to_bits n v
last-bits n v = sym (to_bits-low n (v / 2 ^ n) (v % 2 ^ n) (mod-lt v (Pow.pow_pos n))) ∙ ap (to_bits n) (Pow.split v n)

-- two numbers side by side
module _ (a x b y : ℕ) (h : x < 2 ^ a) (k : y < 2 ^ b) where
  pub joined-fits : x * 2 ^ b + y < 2 ^ (a + b)
  joined-fits = rw (Pow.pow-add 2 a b) (digits_lt h k)

  pub joined-bits : to_bits (a + b) (x * 2 ^ b + y) ≡ to_bits a x ++ to_bits b y
  joined-bits = rw (to_bits-split a b (x * 2 ^ b + y), Pow.high x b k, to_bits-low b x y k)

  pub joined-shift : a + b ≤ 56 → x * 2 ^ b % 2 ^ 64 ≡ x * 2 ^ b
  joined-shift few = Pow.shl_exact {a = x} a b 64 h (omega arith)

  pub joined_small : a + b ≤ 56 → x * 2 ^ b % 2 ^ 64 + y < 2 ^ 64
  joined_small few = rw (joined-shift few) (omega (arith, joined-fits, Pow.pow_mono {i = a + b} {j = 56} few))

  pub joined-sum : a + b ≤ 56 → x * 2 ^ b % 2 ^ 64 + y ≡ x * 2 ^ b + y
  joined-sum few = ap (λ (z : ℕ). z + y) (joined-shift few)

-- what fields hold, joined
pub holds-join : {f g r : Field} {m n : ℕ} {xs ys : List Bool} → Holds f m xs → Holds g n ys → Holds r (f.width + g.width) (field_bits f ++ field_bits g) → Holds r (m + n) (xs ++ ys)
holds-join p q t = record {
  wide = t.wide ∙ ap₂ (λ (a b : ℕ). a + b) p.wide q.wide;
  bits = t.bits ∙ ap₂ (λ a b. a ++ b) p.bits q.bits;
}

-- the bits by another name
pub holds_as : {f : Field} {n : ℕ} {xs : List Bool} (m : ℕ) (ys : List Bool) → m ≡ n → xs ≡ ys → Holds f n xs → Holds f m ys
holds_as m ys e h w = record { wide = w.wide ∙ sym e; bits = w.bits ∙ h }

-- as many as they are
pub holds-all : {f : Field} {n : ℕ} {xs : List Bool} (ys : List Bool) → xs ≡ ys → Holds f n xs → Holds f (length ys) ys
holds-all {f} {n} {xs} ys h w = record { wide = sym (length-to_bits f.width f.value) ∙ ap length (w.bits ∙ h); bits = w.bits ∙ h }

-- ---- one put after another

pub penned-none : (down : Bool) (buf : List ℕ) (p : ℕ) → Penned down buf buf p p []
unfolding put
penned-none true buf p = record { next = omega arith; holds = refl }
penned-none false buf p = record { next = omega arith; holds = refl }

pub penned-then : (down : Bool) {a b c : List ℕ} {p q r : ℕ} {xs ys : List Bool} → Penned down a b p q xs → Penned down b c q r ys → Penned down a c p r (xs ++ ys)
penned-then true {a} {b} {c} {p} {q} {r} {xs} {ys} v w = record {
  next = rw length-append (omega (arith, v.next, w.next));
  holds = w.holds ∙ rw (v.holds, v.next) (sym (put-append a p xs ys));
}
penned-then false {a} {b} {c} {p} {q} {r} {xs} {ys} v w = record {
  next = rw length-append (omega (arith, v.next, w.next));
  holds = w.holds ∙ v.holds;
}

pub penned-long : (down : Bool) {a b : List ℕ} {p q : ℕ} {xs : List Bool} → Penned down a b p q xs → length b ≡ length a
penned-long true {a} {b} {p} {q} {xs} v = ap length v.holds ∙ length-put a p xs
penned-long false v = ap length v.holds

-- ---- a pen

pub adds-long : {P Q : ListingPen} {k : ℕ} {xs : List Bool} → Adds P Q k xs → length Q.buf.now ≡ length P.buf.now
adds-long {P} {Q} {k} {xs} w = penned-long P.down w.penned

pub adds_none : (P : ListingPen) → Adds P P 0 []
adds_none P = record { slice = refl; state = refl; items = omega arith; penned = penned-none P.down P.buf.now P.pen.at }

pub adds_then : {P Q R : ListingPen} {k m : ℕ} {xs ys : List Bool} → Adds P Q k xs → Adds Q R m ys → Adds P R (k + m) (xs ++ ys)
adds_then {P} {Q} {R} {k} {m} {xs} {ys} v w =
    record {
      slice = w.slice ∙ v.slice;
      state = w.state ∙ v.state;
      items = omega (arith, v.items, w.items);
      penned = penned-then P.down v.penned (subst (λ d. Penned d Q.buf.now R.buf.now Q.pen.at R.pen.at ys) v.state w.penned);
    }

-- the bits by another name
pub adds-as : {P Q : ListingPen} {k : ℕ} {xs ys : List Bool} → xs ≡ ys → Adds P Q k xs → Adds P Q k ys
adds-as {P} {Q} {k} e w = subst (Adds P Q k) e w

pub room_as : {P : ListingPen} {k : ℕ} {xs ys : List Bool} → xs ≡ ys → RoomFor P k xs → RoomFor P k ys
room_as {P} {k} e w = subst (RoomFor P k) e w

-- room for the first part, and behind it for the rest
pub room-head : {P : ListingPen} (k m : ℕ) (xs ys : List Bool) → RoomFor P (k + m) (xs ++ ys) → RoomFor P k xs
room-head {P} k m xs ys r =
    let l = length-append xs ys in
    record { fits = λ d. omega (arith, r.fits d); small = omega (arith, r.small); few = omega (arith, r.few) }

pub room-tail : {P Q : ListingPen} (k m : ℕ) (xs ys : List Bool) → Adds P Q k xs → RoomFor P (k + m) (xs ++ ys) → RoomFor Q m ys
room-tail {P} {Q} k m xs ys w r =
    let l = length-append xs ys in
    let n = adds-long w in
    let o = w.penned.next in
    record { fits = λ d. omega (arith, r.fits (sym w.state ∙ d)); small = omega (arith, r.small); few = omega (arith, r.few, w.items) }

-- ---- what is left to add of n items with the bits bs

pub record Pending (P : ListingPen) (n : ℕ) (bs : List Bool) (Q : ListingPen) (m : ℕ) (rest : List Bool) : Type 0 where
  pub count : ℕ
  pub done : List Bool
  pub sum : count + m ≡ n
  pub whole : done ++ rest ≡ bs
  pub adds : Adds P Q count done

pub pending-all : (P : ListingPen) (n : ℕ) (bs : List Bool) → Pending P n bs P n bs
pending-all P n bs = record { count = 0; done = []; sum = omega arith; whole = refl; adds = adds_none P }

-- the next k items, with the bits xs
module _ {P Q : ListingPen} {n m : ℕ} {bs rest : List Bool} (k : ℕ) (more : ℕ) (xs ys : List Bool) (e : rest ≡ xs ++ ys) (h : m ≡ k + more) where
  pub pending-room : Pending P n bs Q m rest → RoomFor P n bs → RoomFor Q k xs
  pending-room p r =
      let l : length (p.done ++ rest) ≡ length bs = ap length p.whole in
      let f = length-append p.done rest in
      let g = ap length e ∙ length-append xs ys in
      let o = p.adds.penned.next in
      let u = adds-long p.adds in
      record {
        fits = λ d. omega (arith, r.fits (sym p.adds.state ∙ d));
        small = omega (arith, r.small);
        few = omega (arith, r.few, p.adds.items, p.sum);
      }

  pub pending-less : {R : ListingPen} → Pending P n bs Q m rest → Adds Q R k xs → Pending P n bs R more ys
  pending-less {R} p w = record {
    count = p.count + k;
    done = p.done ++ xs;
    sum = omega (arith, p.sum);
    whole = append_assoc p.done xs ys ∙ ap (λ (l : List Bool). p.done ++ l) (sym e) ∙ p.whole;
    adds = adds_then p.adds w;
  }

pub pending-none : {P Q : ListingPen} {n m : ℕ} {bs rest : List Bool} → m ≡ 0 → rest ≡ [] → Pending P n bs Q m rest → Adds P Q n bs
pending-none {P} {Q} {n} {m} {bs} {rest} z e p =
    let s : p.count ≡ n = omega (arith, p.sum) in
    let w : p.done ≡ bs = sym (append-nil p.done) ∙ ap (λ (l : List Bool). p.done ++ l) (sym e) ∙ p.whole in
    subst (λ (k : ℕ). Adds P Q k bs) s (adds-as w p.adds)

-- ---- a pen that has put nothing

module _ {lent : MutBor (List ℕ)} {down : Bool} {P : ListingPen} (b : Begins lent down P) where
  pub room_begun : (k : ℕ) (bs : List Bool) → (down ≡ true → length bs ≤ 8 * length lent.now) → length bs < 2 ^ 64 → k < 2 ^ 64 → RoomFor P k bs
  room_begun k bs fits small few =
      let l = ap length b.bytes in
      record { fits = λ d. omega (arith, fits (sym b.state ∙ d), l, b.first); small = omega (arith, small, b.first); few = omega (arith, few, b.items) }

  pub penned_begun : {Q : ListingPen} {k : ℕ} {bs : List Bool} → Adds P Q k bs → Penned down lent.now Q.buf.now 0 Q.pen.at bs
  penned_begun {Q} {k} {bs} w =
      let d : Penned down P.buf.now Q.buf.now P.pen.at Q.pen.at bs = subst (λ (x : Bool). Penned x P.buf.now Q.buf.now P.pen.at Q.pen.at bs) b.state w.penned in
      let s : Penned down lent.now Q.buf.now P.pen.at Q.pen.at bs = subst (λ (x : List ℕ). Penned down x Q.buf.now P.pen.at Q.pen.at bs) b.bytes d in
      subst (λ (x : ℕ). Penned down lent.now Q.buf.now x Q.pen.at bs) b.first s

-- ---- what is added

-- room for a field
pub field_room : (P : ListingPen) (f : Field) → RoomFor P 0 (field_bits f) → Room P.down P.buf.now P.pen.at f.width
field_room P f room =
    let l = length-to_bits f.width f.value in
    record { fits = λ d. omega (arith, room.fits d); small = omega (arith, room.small) }

-- a field that was put with the pen down, or passed over with it up
pub penned_put : (down : Bool) (buf after : List ℕ) (at : ℕ) (f : Field) → down ≡ true → after ≡ put buf at (field_bits f) → Penned down buf after at (at + f.width) (field_bits f)
penned_put down buf after at f d e = record { next = omega (arith, length-to_bits f.width f.value); holds = rw d e }

pub penned_not : (down : Bool) (buf : List ℕ) (at : ℕ) (f : Field) → down ≡ false → Penned down buf buf at (at + f.width) (field_bits f)
penned_not down buf at f d = record { next = omega (arith, length-to_bits f.width f.value); holds = rw d refl }

-- ---- fields that are held back

module _ (held f : Field) where
  pub flushed-none : held.width + f.width ≤ 56 → flushed held f ≡ []
  unfolding flushed
  flushed-none h = rw (le-ltb 56 (held.width + f.width) h)

  pub flushed-all : 56 < held.width + f.width → flushed held f ≡ field_bits held
  unfolding flushed
  flushed-all h = rw (lt-ltb 56 (held.width + f.width) h)

-- ---- 16 bits at a time

pub next-part : (left v : ℕ) → 16 ≤ left → to_bits left v ≡ to_bits 16 (v / 2 ^ (left - 16)) ++ to_bits (left - 16) v
next-part left v h = let e : left ≡ 16 + (left - 16) = omega arith in ap (λ (n : ℕ). to_bits n v) e ∙ to_bits-split 16 (left - 16) v

pub part-less : (n left v : ℕ) {a b c : List ℕ} {p q r : ℕ} → 16 ≤ left → Left a p (to_bits n v) b q (to_bits left v) → Wrote b c q r (to_bits 16 (v / 2 ^ (left - 16)))
    → Left a p (to_bits n v) c r (to_bits (left - 16) v)
part-less n left v {a} {b} {c} {p} {q} {r} h l w =
    left_less (to_bits 16 (v / 2 ^ (left - 16))) (to_bits (left - 16) v) (subst (Left a p (to_bits n v) b q) (next-part left v h) l) w

pub part-last : (n left v : ℕ) {a b c : List ℕ} {p q r : ℕ} → Left a p (to_bits n v) b q (to_bits left v) → Wrote b c q r (to_bits left v) → Wrote a c p r (to_bits n v)
part-last n left v {a} {b} {c} {p} {q} {r} l w = left-none (left_less (to_bits left v) [] (subst (Left a p (to_bits n v) b q) (sym (append-nil (to_bits left v))) l) w)
