-- Laws of the fields of any grammar: what is read is what is written, in every form.
use Rattle.std.proofs.Math.Bool.{Bool, true, false}
use mathlib.Core.List.{List, [], ◌∷◌, ◌++◌, append_assoc}
use Rattle.std.specs.Prelude.{◌⊎◌, ◌≡◌, ltb, drop}
use Rattle.std.proofs.Math.Logic.{inl, inr, ⊎_elim}
use Rattle.std.proofs.Math.Path.{refl, ap}
use Rattle.std.proofs.Common.{sym, ◌∙◌, length-append, length-drop, take-append-drop}
use Prim.Native.Nat.{ℕ, zero, suc, ◌+◌, ◌*◌, ◌-◌, ◌^◌, ◌≤◌, ◌<◌, zero-le}
use native.Mathlib.Omega.{arith}
use borrow.Author.Tests.{le-ltb, ltb-true, ltb-false}
use Rattle.std.proofs.Math.ListN.{length, take}
use Rattle.std.proofs.Math.Pow
use Rattle.std.proofs.Math.Seq
use Rattle.lists.specs.Lists.{each}
use Rattle.lists.specs.Tests.{by}
use Rattle.definitions.specs.Bits.{to_bits}
use Rattle.definitions.specs.Parse.{past, Parsed, done, refused, Parser, next, ◌>>=◌, pure, refuse, choose, field_onto, allowed, between}
use Rattle.definitions.specs.Legal.{Every}
use Rattle.definitions.specs.ScheduleFields.{Fields, end, field, Form, packed, recorded, unwritten, read_fields, write_fields}
use Rattle.bits.specs.NumberLaws.{length-to_bits}
use Rattle.law_reading.specs.Parsers.{Reads, Only, Exact, Codes, reads-pure, only-pure, between-codes, reads-next, reads-last, only_next, only-last, done-only, cut_short}

-- values that the fields allow, one for each
unfoldable pub Allowed : Fields → List ℕ → Type 0
Allowed end [] = Unit {0}
Allowed end (v ∷ vs) = ⊥
Allowed (field n least most follow) [] = ⊥
Allowed (field n least most follow) (v ∷ vs) = (least ≤ v) × (v ≤ most) × Allowed (follow v) vs

-- every field has a bit, and at most as many as a record; its values have no more bits than it
unfoldable pub Sound : Fields → Type 0
Sound end = Unit {0}
Sound (field n least most follow) = (1 ≤ n) × (n ≤ 16) × (most < 2 ^ n) × ((v : ℕ) → v ≤ most → Sound (follow v))

-- a form whose fields hold every value
abbrev pub Wide : Form → Type 0
Wide form = (n m : ℕ) → n ≤ 16 → m < 2 ^ n → m < 2 ^ form n

-- values that are allowed and whose bits in a form fit into the room
abbrev pub Fitting : Form → Fields → ℕ → List ℕ → Type 0
Fitting to F room vs = Allowed F vs × (length (write_fields to F vs) ≤ room)

-- the bits of a field and of those behind it
length-cons : (form : Form) (n v : ℕ) (bs : List Bool) → length (to_bits (form n) v ++ bs) ≡ form n + length bs
length-cons form n v bs = length-append (to_bits (form n) v) bs ∙ ap (λ k. k + length bs) (length-to_bits (form n) v)

-- what reads fields reads what is written of them, where the values are allowed and the other form has room, and nothing else
abbrev FieldsCode : Form → Form → Fields → ℕ → Type 0
FieldsCode from to F room = Codes (read_fields from to F room) (write_fields from F) (Fitting to F room)

module _ (from to : Form) (wide : Wide from) where
  end-codes : (room : ℕ) → FieldsCode from to end room
  unfolding Allowed read_fields write_fields
  end-codes room = record { back = back; only = only-pure (Exact (λ vs. []) (Fitting to end room)) [] (refl, (tt, zero-le)) }
    where
      back : (vs : List ℕ) → Fitting to end room vs → Reads (pure []) vs []
      back [] h = reads-pure []
      back (v ∷ vs) h = absurd h.0

  -- one field, given those behind it
  module _ (n least most : ℕ) (follow : ℕ → Fields) (room : ℕ) (most-fits : most < 2 ^ from n)
      (behind : (v : ℕ) → v ≤ most → FieldsCode from to (follow v) (room - to n)) where
    abbrev F : Fields
    F = field n least most follow

    abbrev k : ℕ → Parser (List ℕ)
    k v = do
      vs ← read_fields from to (follow v) (room - to n)
      pure (v ∷ vs)

    value : Codes (between (from n) least most) (to_bits (from n)) (λ v. (least ≤ v) × (v ≤ most))
    value = between-codes (from n) least most most-fits

    field_back : (vs : List ℕ) → Fitting to F room vs → Reads (read_fields from to F room) vs (write_fields from F vs)
    unfolding Allowed read_fields write_fields
    field_back [] h = absurd h.0
    field_back (v ∷ vs) h =
        let l = length-cons to n v (write_fields to (follow v) vs) in
        rw (le-ltb room (to n) (omega (arith, h.1)))
        (reads-next value k v (v ∷ vs) (write_fields from (follow v) vs) (h.0.0, h.0.1)
        (reads-last (behind v h.0.1) (λ vs. v ∷ vs) vs (h.0.2, omega (arith, h.1))))

    field-only : (t : Bool) → ltb room (to n) ≡ t → Only (choose t (refuse past) (pure (tt {0})) >>= λ u. between (from n) least most >>= k) (Exact (write_fields from F) (Fitting to F room))
    unfolding Allowed write_fields
    field-only true e = λ bs. tt
    field-only false e =
        let S : List ℕ → List Bool → Type 0 = Exact (write_fields from F) (Fitting to F room) in
        only_next value k S
        (λ v h.
        only-last (behind v h.1) (λ vs. v ∷ vs) (λ vs bs. S vs (to_bits (from n) v ++ bs))
        (λ vs q. (refl, ((h.0, h.1, q.0), omega (arith, q.1, ltb-false room (to n) e, length-cons to n v (write_fields to (follow v) vs))))))

    field_codes : FieldsCode from to F room
    unfolding read_fields
    field_codes = record { back = field_back; only = λ bs. field-only (ltb room (to n)) refl bs }

  pub fields-codes : (F : Fields) (room : ℕ) → Sound F → FieldsCode from to F room
  unfolding Sound
  fields-codes end room s = end-codes room
  fields-codes (field n least most follow) room s =
      field_codes n least most follow room (wide n most s.1 s.2) (λ v h. fields-codes (follow v) (room - to n) (s.3 v h))

-- ---- what ends too soon

module _ (from to : Form) (wide : Wide from) where
  -- a field passes the end of what is read, or its other form the end of the room
  abbrev Short : Fields → List ℕ → ℕ → ℕ → Type 0
  Short F vs k room = (k < length (write_fields from F vs)) ⊎ (room < length (write_fields to F vs))

  -- one field, given those behind it
  module _ (n least most : ℕ) (follow : ℕ → Fields) (room : ℕ) (most-fits : most < 2 ^ from n) (v : ℕ) (vs : List ℕ) (enough : least ≤ v) (few : v ≤ most) (rest : List Bool)
      (ih : (j : ℕ) → Short (follow v) vs j (room - to n) → read_fields from to (follow v) (room - to n) (take j (write_fields from (follow v) vs ++ rest)) ≡ refused past) where
    abbrev bits : List Bool
    bits = to_bits (from n) v

    abbrev behind : List Bool
    behind = write_fields from (follow v) vs

    abbrev onward : ℕ → Parser (List ℕ)
    onward v = read_fields from to (follow v) (room - to n) >>= λ vs. pure (v ∷ vs)

    code : Codes (between (from n) least most) (to_bits (from n)) (λ v. (least ≤ v) × (v ≤ most))
    code = between-codes (from n) least most most-fits

    -- the end stands in this field
    cut-here : (k : ℕ) → k < from n → next (between (from n) least most (take k ((bits ++ behind) ++ rest))) onward ≡ refused past
    cut-here k l =
        let t = length-to_bits (from n) v in
        let a = length-append bits behind in
        let e : take k ((bits ++ behind) ++ rest) ≡ take k bits =
        Seq.take-append-le k (bits ++ behind) rest (omega arith) ∙ Seq.take-append-le k bits behind (omega arith) in
        ap (λ r. next r onward)
        (ap (between (from n) least most) e
        ∙ cut_short code v (enough, few) (take k bits) (drop k bits) (sym (take-append-drop k bits)) (omega (arith, length-drop k bits)))

    -- it stands behind
    cut-behind : (k : ℕ) → from n ≤ k → to n ≤ room → Short (field n least most follow) (v ∷ vs) k room
        → next (between (from n) least most (take k ((bits ++ behind) ++ rest))) onward ≡ refused past
    unfolding write_fields
    cut-behind k l m h =
        let t = length-to_bits (from n) v in
        let q : k ≡ length bits + (k - from n) = omega arith in
        let e : take k ((bits ++ behind) ++ rest) ≡ bits ++ take (k - from n) (behind ++ rest) =
        ap (take k) (append_assoc bits behind rest)
        ∙ ap (λ j. take j (bits ++ (behind ++ rest))) q
        ∙ Seq.take-append-add bits (behind ++ rest) (k - from n) in
        let s : Short (follow v) vs (k - from n) (room - to n) =
        ⊎_elim
        (λ (g : k < length (bits ++ behind)). inl (omega (arith, length-cons from n v behind)))
        (λ (g : room < length (to_bits (to n) v ++ write_fields to (follow v) vs)). inr (omega (arith, length-cons to n v (write_fields to (follow v) vs))))
        h in
        ap (λ r. next r onward) (ap (between (from n) least most) e ∙ code.back v (enough, few) (take (k - from n) (behind ++ rest)))
        ∙ ap (λ r. next r (λ vs. pure (v ∷ vs))) (ih (k - from n) s)

    field-short : (k : ℕ) → Short (field n least most follow) (v ∷ vs) k room
        → read_fields from to (field n least most follow) room (take k (write_fields from (field n least most follow) (v ∷ vs) ++ rest)) ≡ refused past
    unfolding read_fields write_fields
    field-short k h =
        by (ltb room (to n))
        (λ e. rw e refl)
        (λ e.
        rw e
        (by (ltb k (from n))
        (λ l. cut-here k (ltb-true k (from n) l))
        (λ l. cut-behind k (ltb-false k (from n) l) (ltb-false room (to n) e) h)))

  -- of allowed values, bits that end before the last field does, or too little room, give a field that passes the end
  pub too_short : (F : Fields) (room : ℕ) (vs : List ℕ) (rest : List Bool) (k : ℕ) → Sound F → Allowed F vs → Short F vs k room
      → read_fields from to F room (take k (write_fields from F vs ++ rest)) ≡ refused past
  unfolding Allowed Sound write_fields
  too_short end room vs rest k s a h = ⊎_elim (λ (g : k < 0). absurd (omega arith)) (λ (g : room < 0). absurd (omega arith)) h
  too_short (field n least most follow) room [] rest k s a h = absurd a
  too_short (field n least most follow) room (v ∷ vs) rest k s a h =
      field-short n least most follow room (wide n most s.1 s.2) v vs a.0 a.1 rest
      (λ j g. too_short (follow v) (room - to n) vs rest j (s.3 v a.1) a.2 g) k h

-- ---- the forms

pub packed-wide : Wide packed
packed-wide n m h l = l

pub recorded-wide : Wide recorded
recorded-wide n m h l = omega (arith, Pow.pow_mono {j = 16} h)

-- in records each value has 16 bits, whatever its field is
pub recorded-bits : (F : Fields) (vs : List ℕ) → Allowed F vs → write_fields recorded F vs ≡ each (to_bits 16) vs
unfolding Allowed write_fields
recorded-bits end [] h = refl
recorded-bits end (v ∷ vs) h = absurd h
recorded-bits (field n least most follow) [] h = absurd h
recorded-bits (field n least most follow) (v ∷ vs) h = ap (λ bs. to_bits 16 v ++ bs) (recorded-bits (follow v) vs h.2)

-- what is only gone through has no bits
pub unwritten-bits : (F : Fields) (vs : List ℕ) → write_fields unwritten F vs ≡ []
unfolding write_fields to_bits
unwritten-bits end vs = refl
unwritten-bits (field n least most follow) [] = refl
unwritten-bits (field n least most follow) (v ∷ vs) = unwritten-bits (follow v) vs

-- a value that is allowed has at most 16 bits
pub allowed-below : (F : Fields) (vs : List ℕ) → Sound F → Allowed F vs → Every (λ v. v < 65536) vs
unfolding Allowed Sound
allowed-below end [] s h = tt
allowed-below end (v ∷ vs) s h = absurd h
allowed-below (field n least most follow) [] s h = absurd h
allowed-below (field n least most follow) (v ∷ vs) s h =
    (omega (arith, Pow.pow_mono {j = 16} s.1, s.2, h.1), allowed-below (follow v) vs (s.3 v h.1) h.2)

-- there are no more values than bits
pub values-few : (F : Fields) (vs : List ℕ) → Sound F → Allowed F vs → length vs ≤ length (write_fields packed F vs)
unfolding Allowed Sound write_fields
values-few end [] s h = zero-le
values-few end (v ∷ vs) s h = absurd h
values-few (field n least most follow) [] s h = absurd h
values-few (field n least most follow) (v ∷ vs) s h =
    omega (arith, s.0, values-few (follow v) vs (s.3 v h.1) h.2, length-cons packed n v (write_fields packed (follow v) vs))

-- ---- the room

-- a field of a bit or more is not read where nothing is left
nothing_left : (n least most : ℕ) → 1 ≤ n → between n least most [] ≡ refused past
unfolding allowed field_onto
nothing_left zero least most h = absurd (omega arith)
nothing_left (suc n) least most h = refl

-- one field, given those behind it
module _ (n least most : ℕ) (follow : ℕ → Fields) (room : ℕ) (some : 1 ≤ n) (most-fits : most < 2 ^ n) (ih : (v : ℕ) (cs : List Bool) → v ≤ most
    → 16 * length cs ≤ room - 16 → read_fields packed recorded (follow v) (room - 16) cs ≡ read_fields packed unwritten (follow v) 0 cs) where
  abbrev on : Form → ℕ → Parser (List ℕ)
  on to left = do
    v ← between n least most
    vs ← read_fields packed to (follow v) left
    pure (v ∷ vs)

  -- where there is no room for a record, no bit is left either
  at-end : (bs : List Bool) → 16 * length bs ≤ room → room < 16 → refused past ≡ on unwritten 0 bs
  at-end [] h l = ap (λ r. next r (λ v. read_fields packed unwritten (follow v) 0 >>= λ vs. pure (v ∷ vs))) (sym (nothing_left n least most some))
  at-end (b ∷ bs) h l = absurd (omega arith)

  go_on : (bs : List Bool) → 16 * length bs ≤ room → 16 ≤ room → on recorded (room - 16) bs ≡ on unwritten 0 bs
  go_on bs h l = go (between n least most bs) refl
    where
      go : (r : Parsed ℕ) → between n least most bs ≡ r
          → next r (λ v. read_fields packed recorded (follow v) (room - 16) >>= λ vs. pure (v ∷ vs))
          ≡ next r (λ v. read_fields packed unwritten (follow v) 0 >>= λ vs. pure (v ∷ vs))
      go (refused f) e = refl
      go (done v rest) e =
          let t = done-only (between-codes n least most most-fits) bs v rest e in
          let c : length bs ≡ n + length rest = ap length t.0 ∙ length-cons packed n v rest in
          ap (λ r. next r (λ vs. pure (v ∷ vs))) (ih v rest t.1.1 (omega arith))

  one_field : (bs : List Bool) → 16 * length bs ≤ room
      → read_fields packed recorded (field n least most follow) room bs ≡ read_fields packed unwritten (field n least most follow) 0 bs
  unfolding read_fields
  one_field bs h =
      by (ltb room 16)
      (λ e. rw e (at-end bs h (ltb-true room 16 e)))
      (λ e. rw e (go_on bs h (ltb-false room 16 e)))

-- where every bit that is left has room for a record, the room decides nothing
pub room-enough : (F : Fields) (room : ℕ) (bs : List Bool) → Sound F → 16 * length bs ≤ room → read_fields packed recorded F room bs ≡ read_fields packed unwritten F 0 bs
unfolding Sound read_fields
room-enough end room bs s h = refl
room-enough (field n least most follow) room bs s h =
    one_field n least most follow room s.0 s.2 (λ v cs l q. room-enough (follow v) (room - 16) cs (s.3 v l) q) bs h
