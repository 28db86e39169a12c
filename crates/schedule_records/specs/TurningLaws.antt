-- Laws of turning one form of a schedule into the other.
use Rattle.std.specs.Prelude.{Bool, true, false, not, cond, List, [], ◌∷◌, ◌++◌, ◌≡◌, refl, ℕ, ◌+◌, ◌*◌, ◌-◌, ◌/◌, ◌^◌, ◌≤◌, ◌<◌, ltb, length, drop, Ok, Err}
use Rattle.std.proofs.Common.{append_assoc, append-nil, sym, ap, ap₂, ◌∙◌, zero-add, arith, le-ltb, lt-ltb, ltb-true, ltb-false, length-append}
use Rattle.std.proofs.Math.Nat.{sub-zero}
use Rattle.std.proofs.Math.Pow
use Rattle.lists.specs.Tests.{by}
use Rattle.definitions.specs.Bits.{to_bits, bits_of}
use Rattle.definitions.specs.Parse.{past, not_allowed, Parsed, done, refused, next, pure, refuse, choose, between}
use Rattle.definitions.specs.ScheduleFields.{Fields, end, field, Form, read_fields, write_fields, schedule_fields}
use Rattle.definitions.specs.Checks.{bad_fill}
use Rattle.definitions.specs.LegalSchedule.{LegalWidth}
use Rattle.bits.specs.NumberLaws.{length-to_bits}
use Rattle.bits.specs.Writing.{put}
use Rattle.bits.specs.WriteLaws.{put-append, length-put}
use Rattle.item_pen.specs.Pen.{Penned}
use Rattle.schedule_fields.specs.declared.Rule.{Rule}
use Rattle.schedule_fields.specs.declared.Place.{Place}
use Rattle.schedule_fields.specs.Places.{width_of, least_of, most_of, follow_of, fields_at, fields_left, RuleOf, Follows}
use Rattle.schedule_fields.specs.PlaceLaws.{Sound, sound}
use Rattle.fields.specs.declared.Fault.{Fault}
use Rattle.schedule_values.specs.Meeting.{head, Met, Missed, most_bits}
use Rattle.schedule_records.specs.Turning.{form_of, Aligned, mapped, left, whole, filled, Going, Passes}

-- ---- the fields that are left

-- the end
pub left_end : (from to : Form) (xs : List Bool) (room : ℕ) (bs : List Bool) → left from to end xs room bs ≡ done xs bs
unfolding left read_fields write_fields
left_end from to xs room bs = ap (λ (l : List Bool). done l bs) (append-nil xs)

-- a field, and those that follow its value
pub left-field : (from to : Form) (f : Fields) (xs : List Bool) (room : ℕ) (bs : List Bool) → 0 < width_of f
    → left from to f xs room bs
    ≡ next (head (ltb room (to (width_of f))) (from (width_of f)) (least_of f) (most_of f) bs)
    (λ v. left from to (follow_of f v) (xs ++ to_bits (to (width_of f)) v) (room - to (width_of f)))
unfolding left read_fields write_fields
left-field from to end xs room bs h = absurd (omega arith)
left-field from to (field n least most follow) xs room bs h = go (ltb room (to n))
  where
    behind : (v : ℕ) (x : Parsed (List ℕ))
        → mapped (λ vs. xs ++ write_fields to (field n least most follow) vs) (next x (λ vs. λ r. done (v ∷ vs) r))
        ≡ mapped (λ vs. (xs ++ to_bits (to n) v) ++ write_fields to (follow v) vs) x
    behind v (done vs rest) = ap (λ (l : List Bool). done l rest) (sym (append_assoc xs (to_bits (to n) v) (write_fields to (follow v) vs)))
    behind v (refused f) = refl

    met : (x : Parsed ℕ)
        → mapped (λ vs. xs ++ write_fields to (field n least most follow) vs)
        (next x (λ v. λ r. next (read_fields from to (follow v) (room - to n) r) (λ vs. λ q. done (v ∷ vs) q)))
        ≡ next x (λ v. left from to (follow v) (xs ++ to_bits (to n) v) (room - to n))
    met (done v rest) = behind v (read_fields from to (follow v) (room - to n) rest)
    met (refused f) = refl

    go : (short : Bool)
        → mapped (λ vs. xs ++ write_fields to (field n least most follow) vs)
        (next (choose short (refuse past) (pure (tt {0})) bs) (λ u. λ r. next (between (from n) least most r)
        (λ v. λ t. next (read_fields from to (follow v) (room - to n) t) (λ vs. λ q. done (v ∷ vs) q))))
        ≡ next (head short (from n) least most bs) (λ v. left from to (follow v) (xs ++ to_bits (to n) v) (room - to n))
    go true = refl
    go false = met (between (from n) least most bs)

-- ---- one field

-- a field that is not written
pub laid-up : (down : Bool) (buf : List ℕ) (p n v : ℕ) → down ≡ false → Penned down buf buf p (p + n) (to_bits n v)
laid-up down buf p n v d = record { next = ap (λ (i : ℕ). p + i) (sym (length-to_bits n v)); holds = rw d refl }

-- a field that is, where the pen is down
pub laid-packed : (down : Bool) (buf after : List ℕ) (p n v : ℕ) → down ≡ true → after ≡ put buf p (to_bits n v) → Penned down buf after p (p + n) (to_bits n v)
laid-packed down buf after p n v d w = record { next = ap (λ (i : ℕ). p + i) (sym (length-to_bits n v)); holds = rw d w }

-- a record that is
pub laid-down : (down packed : Bool) (buf : List ℕ) (p n v : ℕ) → Aligned packed n p → packed ≡ false → (after : List ℕ) → down ≡ true
    → after ≡ put buf (8 * (p / 8)) (to_bits 16 v) → Penned down buf after p (p + n) (to_bits n v)
laid-down down packed buf p n v a e after d w = record {
  next = ap (λ (i : ℕ). p + i) (sym (length-to_bits n v));
  holds = rw d (w ∙ ap₂ (λ (i k : ℕ). put buf i (to_bits k v)) (omega (arith, a.even e)) (sym (a.wide e)));
}

-- ---- from field to field

-- a field by its rule, and those that follow its value
opened : (from to : Form) (f : Fields) (xs : List Bool) (room : ℕ) (bs : List Bool) (rule : Rule) (n k : ℕ) → RuleOf rule f → 0 < rule.width
    → n ≡ from rule.width → k ≡ to rule.width
    → left from to f xs room bs
    ≡ next (head (ltb room k) n rule.least rule.most bs) (λ v. left from to (follow_of f v) (xs ++ to_bits k v) (room - k))
opened from to f xs room bs rule n k r h en ek =
    left-field from to f xs room bs (omega (arith, r.width)) ∙ sym (rw (en, ek, r.width, r.least, r.most) refl)

-- what is left of the room is too little where all of it is
room-left : (room q k : ℕ) → 0 < k → ltb (room - q) k ≡ ltb room (q + k)
room-left room q k h = by (ltb room (q + k))
    (λ e. lt-ltb (room - q) k (omega (arith, ltb-true room (q + k) e)) ∙ sym e)
    (λ e. le-ltb (room - q) k (omega (arith, ltb-false room (q + k) e)) ∙ sym e)

-- a field is no wider packed than as a record
pub in-form : (packed : Bool) (n : ℕ) → n ≤ 16 → (n ≤ form_of packed n) × (form_of packed n ≤ 16)
in-form true n h = (omega arith, h)
in-form false n h = (h, omega arith)

-- what the pen has written has the length of what was lent
pub as_long : (down : Bool) (lent : List ℕ) (xs : List Bool) → length (cond down (put lent 0 xs) lent) ≡ length lent
as_long true lent xs = length-put lent 0 xs
as_long false lent xs = refl

-- nothing was written yet
none-put : (down : Bool) (lent : List ℕ) → lent ≡ cond down (put lent 0 []) lent
unfolding put
none-put true lent = refl
none-put false lent = refl

-- what was written, and a field behind it
more-put : (down : Bool) (lent : List ℕ) (xs ys : List Bool)
    → cond down (put (cond down (put lent 0 xs) lent) (length xs) ys) (cond down (put lent 0 xs) lent) ≡ cond down (put lent 0 (xs ++ ys)) lent
more-put true lent xs ys = sym (put-append lent 0 xs ys ∙ ap (λ (i : ℕ). put (put lent 0 xs) i ys) (zero-add (length xs)))
more-put false lent xs ys = refl

module _ (W : ℕ) (reading down : Bool) (source lent : List ℕ) where
  -- before the first field
  pub going_start : Going W reading down source lent lent Place.Names 0 0
  going_start = record {
    bits = [];
    same = ap (λ (i : ℕ). left (form_of reading) (form_of (not reading)) (schedule_fields W) [] i (bits_of source)) (sym (sub-zero (8 * length lent)));
    long = refl;
    wrote = none-put down lent;
    even = λ _. refl;
    fits = omega arith;
    few_read = omega arith;
    few_written = omega arith;
  }

  module _ (now : List ℕ) (place : Place) (p q : ℕ) (g : Going W reading down source lent now place p q) (rule : Rule)
      (e : RuleOf rule (fields_at W place)) (w : LegalWidth W) where
    pub sounds : Sound (fields_at W place) (fields_left place)
    sounds = sound W (omega (arith, w.few)) (omega (arith, w.enough)) place

    -- the lent slice keeps its length
    pub kept-long : length now ≡ length lent
    kept-long = ap length g.wrote ∙ as_long down lent g.bits

    -- the numbers at a field
    pub ready : 0 < rule.width → (rule.width ≤ 16) × (p + 16 ≤ most_bits) × (q + 16 ≤ most_bits) × (rule.most < 2 ^ rule.width) × (length now ≡ length lent)
    ready h =
        let s = sounds in
        let l : 0 < fields_left place = s.some (omega (arith, e.width)) in (
          omega (arith, s.few, e.width),
          omega (arith, g.few_read),
          omega (arith, g.few_written),
          rw (e.most, e.width) s.most,
          kept-long,
        )

    -- the pen was not down
    pub not-touched : down ≡ false → now ≡ lent
    not-touched d = g.wrote ∙ ap (λ (b : Bool). cond b (put lent 0 g.bits) lent) d

    module _ (h : 0 < rule.width) (n k : ℕ) (en : n ≡ form_of reading rule.width) (ek : k ≡ form_of (not reading) rule.width) where
      positive : 0 < k
      positive = omega (arith, in-form (not reading) rule.width (ready h).0, ek)

      goes : whole W reading source (length lent)
          ≡ next (head (ltb (8 * length lent) (q + k)) n rule.least rule.most (drop p (bits_of source)))
          (λ v. left (form_of reading) (form_of (not reading)) (follow_of (fields_at W place) v) (g.bits ++ to_bits k v) (8 * length lent - q - k))
      goes =
          g.same
          ∙ opened (form_of reading) (form_of (not reading)) (fields_at W place) g.bits (8 * length lent - q) (drop p (bits_of source)) rule n k e h en ek
          ∙ ap (λ (b : Bool). next (head b n rule.least rule.most (drop p (bits_of source)))
          (λ v. left (form_of reading) (form_of (not reading)) (follow_of (fields_at W place) v) (g.bits ++ to_bits k v) (8 * length lent - q - k)))
          (room-left (8 * length lent) q k positive)

      -- a record
      pub record-wide : reading ≡ true → k ≡ 16
      record-wide y = ek ∙ ap (λ (b : Bool). form_of (not b) rule.width) y

      -- a field that is refused
      pub passes-refused : (f : Fault) → Missed (ltb (8 * length lent) (q + k)) n rule source p f → Passes W reading down source lent now (Err f)
      passes-refused f m = record {
        untouched = not-touched;
        came = record {
          same = ap filled (goes ∙ ap (λ (x : Parsed ℕ). next x (λ v. left (form_of reading) (form_of (not reading)) (follow_of (fields_at W place) v) (g.bits ++ to_bits k v) (8 * length lent - q - k))) m.same);
        };
      }

      -- a field that is not
      module _ (v : ℕ) (m : Met (ltb (8 * length lent) (q + k)) n rule source p v) where
        pub fits_in : q + k ≤ 8 * length lent
        fits_in = ltb-false (8 * length lent) (q + k) m.long

        pub value-lt : v < 2 ^ k
        value-lt =
            let r = ready h in
            let i : 2 ^ rule.width ≤ 2 ^ k = Pow.pow_mono {j = k} (omega (arith, in-form (not reading) rule.width r.0, ek)) in
            omega (arith, m.few, r.3, i)

        pub going_on : (now' : List ℕ) (q' : ℕ) (place' : Place) → Penned down now now' q q' (to_bits k v) → Follows place v place'
            → Going W reading down source lent now' place' (p + n) q'
        going_on now' q' place' d f =
            let r = ready h in
            let l : fields_left place' < fields_left place = f.less W (omega (arith, e.width)) (omega (arith, m.few, e.most)) in
            let t : q' ≡ q + k = d.next ∙ ap (λ (i : ℕ). q + i) (length-to_bits k v) in
            let a = in-form reading rule.width r.0 in
            let b = in-form (not reading) rule.width r.0 in
            record {
              bits = g.bits ++ to_bits k v;
              same =
                  goes
                  ∙ ap (λ (x : Parsed ℕ). next x (λ v. left (form_of reading) (form_of (not reading)) (follow_of (fields_at W place) v) (g.bits ++ to_bits k v) (8 * length lent - q - k))) m.same
                  ∙ ap₂ (λ (x : Fields) (i : ℕ). left (form_of reading) (form_of (not reading)) x (g.bits ++ to_bits k v) i (drop (p + n) (bits_of source)))
                  (sym (f.same W)) (omega (arith, t));
              long = t ∙ rw (length-append, length-to_bits, ← g.long) refl;
              wrote =
                  d.holds
                  ∙ ap₂ (λ (x : List ℕ) (i : ℕ). cond down (put x i (to_bits k v)) x) g.wrote g.long
                  ∙ more-put down lent g.bits (to_bits k v);
              even = λ y. omega (arith, g.even y, t, record-wide y);
              fits = omega (arith, t, fits_in);
              few_read = omega (arith, g.few_read, l, a.1, en);
              few_written = omega (arith, g.few_written, l, b.1, ek, t);
            }

    -- behind the last field
    module _ (z : rule.width ≤ 0) where
      ended : whole W reading source (length lent) ≡ done g.bits (drop p (bits_of source))
      ended =
          g.same
          ∙ ap (λ (f : Fields). left (form_of reading) (form_of (not reading)) f g.bits (8 * length lent - q) (drop p (bits_of source))) (sounds.ended (omega (arith, e.width)))
          ∙ left_end (form_of reading) (form_of (not reading)) g.bits (8 * length lent - q) (drop p (bits_of source))

      concluded : (t : Bool) → bad_fill (drop p (bits_of source)) ≡ t
          → filled (whole W reading source (length lent)) ≡ cond t (Parsed.refused not_allowed) (done g.bits (drop p (bits_of source)))
      concluded t b =
          ap filled ended ∙ ap (λ (x : Bool). cond x (Parsed.refused not_allowed) (done g.bits (drop p (bits_of source)))) b

      pub passes-filled : bad_fill (drop p (bits_of source)) ≡ true → Passes W reading down source lent now (Err Fault.NotAllowed)
      passes-filled b = record { untouched = not-touched; came = record { same = concluded true b } }

      pub passes-all : bad_fill (drop p (bits_of source)) ≡ false → Passes W reading down source lent now (Ok q)
      passes-all b = record {
        untouched = not-touched;
        came = record {
          bits = g.bits;
          rest = drop p (bits_of source);
          same = concluded false b;
          long = g.long;
          wrote = g.wrote;
          fits = g.fits;
          few = omega (arith, g.few_written);
        };
      }
