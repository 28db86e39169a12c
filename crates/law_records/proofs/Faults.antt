-- Reading ends with the first fault, and the number of an answer goes by it.
use Rattle.std.specs.Prelude.{Bool, true, false, ◌&&◌, List, [], ◌∷◌, ◌++◌, ◌⊎◌, ◌≡◌, ℕ, ◌*◌, ◌-◌, ◌^◌, ◌≤◌, ◌<◌, ltb, leb, length, drop, replicate}
use Rattle.std.proofs.Common.{inl, inr, ⊎_elim, sym, ◌∙◌, arith, lt-ltb, le-ltb, le-leb, ltb-true, ltb-false, leb-true, leb-false, take-append-drop}
use Rattle.std.proofs.Math.Path.{refl, ap, subst}
use Rattle.std.proofs.lemmas.List.{length-replicate}
use Rattle.lists.specs.Lists.{In, any}
use Rattle.lists.specs.Tests.{by, never, not_so, and_left, and_right, and_both, or_elim, or_left, or_right, any-in, any_of}
use Rattle.definitions.specs.Bits.{to_bits, bits_of, num}
use Rattle.definitions.specs.Parse.{Fault, past, not_allowed, Parsed, done, refused, Parser, next, ◌>>=◌, pure, refuse, choose, field_onto, allowed, between}
use Rattle.definitions.specs.Checks.{bad_fill}
use Rattle.definitions.specs.LegalSchedule.{LegalWidth}
use Rattle.definitions.specs.ScheduleFields.{Fields, end, field, Form, packed, recorded, unwritten, schedule_fields, read_fields, write_fields}
use Rattle.definitions.specs.Conversion.{schedule_fault, bad_width, concluded, convert}
use Rattle.definitions.specs.Values.{schedule_values}
use Rattle.bits.specs.NumberLaws.{num-lt, to_bits-num, pad-take, pad-fill}
use Rattle.bits.specs.ReadLaws.{is_done}
use Rattle.law_reading.specs.Parsers.{field_codes, done-only, cut_short}
use Rattle.law_records.specs.Statements.{FirstFault, room_ends, bits_end, bad_value, later, FaultIn, BadBehind, Numbers, ReadsNumbers, WritesNumbers, WalksNumbers}
use Rattle.law_records.specs.Walks.{Wide, fields-codes, packed-wide, recorded-wide}
use Rattle.law_records.specs.Grammar.{schedule-sound, legal-allowed, allowed-legal}
use Rattle.law_records.proofs.Exactly.{number_of, width-good, good-width, bad-width-away, good-width-read, bad-fill-away, good-fill-gives}
use Rattle.law_records.proofs.Refused.{width-first}

-- ---- one field

field_past : (n : ℕ) (bs : List Bool) → length bs < n → field_onto 0 n bs ≡ refused past
field_past n bs h =
    cut_short (field_codes n) (num n bs) (num-lt n bs) bs (replicate (n - length bs) false) (to_bits-num n bs ∙ pad-fill n bs (omega arith))
    (omega (arith, length-replicate (n - length bs) false))

-- the first bits are those of their number
field-split : (n : ℕ) (bs : List Bool) → n ≤ length bs → bs ≡ to_bits n (num n bs) ++ drop n bs
field-split n bs h = sym (take-append-drop n bs) ∙ ap (λ l. l ++ drop n bs) (sym (to_bits-num n bs ∙ pad-take n bs h))

module _ (n least most : ℕ) where
  abbrev within : ℕ → Bool
  within v = leb least v && leb v most

  between-past : (bs : List Bool) → length bs < n → between n least most bs ≡ refused past
  unfolding allowed
  between-past bs h = ap (λ r. next r (λ v. choose (within v) (pure v) (refuse not_allowed))) (field_past n bs h)

  between-on : (v : ℕ) (rest : List Bool) → v < 2 ^ n → between n least most (to_bits n v ++ rest) ≡ choose (within v) (pure v) (refuse not_allowed) rest
  unfolding allowed
  between-on v rest h = ap (λ r. next r (λ v. choose (within v) (pure v) (refuse not_allowed))) ((field_codes n).back v h rest)

  between-bad : (v : ℕ) (rest : List Bool) → v < 2 ^ n → within v ≡ false → between n least most (to_bits n v ++ rest) ≡ refused not_allowed
  between-bad v rest h e = between-on v rest h ∙ ap (λ b. choose b (pure v) (refuse not_allowed) rest) e

  between-good : (v : ℕ) (rest : List Bool) → v < 2 ^ n → within v ≡ true → between n least most (to_bits n v ++ rest) ≡ done v rest
  between-good v rest h e = between-on v rest h ∙ ap (λ b. choose b (pure v) (refuse not_allowed) rest) e

  outside : (v : ℕ) → within v ≡ false → (v < least) ⊎ (most < v)
  outside v e =
      by (leb least v)
      (λ a. by (leb v most) (λ b. never (and_both a b) e) (λ b. inr (leb-false v most b)))
      (λ a. inl (leb-false least v a))

  not_within : (v : ℕ) → (v < least) ⊎ (most < v) → within v ≡ false
  not_within v h =
      not_so
      (λ e.
      ⊎_elim
      (λ (l : v < least). omega (arith, leb-true least v (and_left (leb least v) (leb v most) e)))
      (λ (l : most < v). omega (arith, leb-true v most (and_right (leb least v) (leb v most) e)))
      h)

-- ---- reading

abbrev fault_of : {A : Type 0} → Parsed A → Fault
fault_of (done a rest) = past
fault_of (refused f) = f

-- what follows a value adds no fault
in_order : (v : ℕ) (f : Fault) (r : Parsed (List ℕ)) → next r (λ vs. pure (v ∷ vs)) ≡ refused f → r ≡ refused f
in_order v f (done vs rest) e = never refl (ap is_done e)
in_order v f (refused g) e = ap (λ p. refused (fault_of p)) e

module _ (from to : Form) where
  abbrev onward : (ℕ → Fields) → ℕ → ℕ → Parser (List ℕ)
  onward follow left v = read_fields from to (follow v) left >>= λ vs. pure (v ∷ vs)

  pub faults-refuse : {F : Fields} {room : ℕ} {bs : List Bool} {f : Fault} → FirstFault from to F room bs f → read_fields from to F room bs ≡ refused f
  unfolding read_fields
  faults-refuse (room_ends {n = n} {room = room} h) = rw (lt-ltb room (to n) h) refl
  faults-refuse (bits_end {n = n} {least = least} {most = most} {room = room} {follow = follow} {bits = bits} h) =
      by (ltb room (to n))
      (λ e. rw e refl)
      (λ e. rw e (ap (λ r. next r (onward follow (room - to n))) (between-past (from n) least most bits h)))
  faults-refuse (bad_value {n = n} {least = least} {most = most} {room = room} {follow = follow} v rest l e b h) =
      ap (read_fields from to (field n least most follow) room) e
      ∙ rw (le-ltb room (to n) l)
      (ap (λ r. next r (onward follow (room - to n))) (between-bad (from n) least most v rest b (not_within (from n) least most v h)))
  faults-refuse (later {n = n} {least = least} {most = most} {room = room} {follow = follow} v rest l e b p q g) =
      ap (read_fields from to (field n least most follow) room) e
      ∙ rw (le-ltb room (to n) l)
      (ap (λ r. next r (onward follow (room - to n))) (between-good (from n) least most v rest b (and_both (le-leb least v p) (le-leb v most q)))
      ∙ ap (λ r. next r (λ vs. pure (v ∷ vs))) (faults-refuse g))

  -- one field, given those behind it
  module _ (n least most room : ℕ) (follow : ℕ → Fields)
      (ih : (v : ℕ) (cs : List Bool) (f : Fault) → read_fields from to (follow v) (room - to n) cs ≡ refused f → FirstFault from to (follow v) (room - to n) cs f) where
    abbrev Here : List Bool → Fault → Type 0
    Here bs f = FirstFault from to (field n least most follow) room bs f

    abbrev k : ℕ → Parser (List ℕ)
    k = onward follow (room - to n)

    with_value : (v : ℕ) (rest bs : List Bool) (f : Fault) → to n ≤ room → v < 2 ^ from n → bs ≡ to_bits (from n) v ++ rest →
        next (between (from n) least most bs) k ≡ refused f → Here bs f
    with_value v rest bs f l b s e =
        by (within (from n) least most v)
        (λ t.
        let g = in_order v f (read_fields from to (follow v) (room - to n) rest)
        (sym (ap (λ r. next r k) (ap (between (from n) least most) s ∙ between-good (from n) least most v rest b t)) ∙ e) in
        later v rest l s b (leb-true least v (and_left (leb least v) (leb v most) t)) (leb-true v most (and_right (leb least v) (leb v most) t)) (ih v rest f g))
        (λ t.
        let p : refused not_allowed ≡ refused f = sym (ap (λ r. next r k) (ap (between (from n) least most) s ∙ between-bad (from n) least most v rest b t)) ∙ e in
        subst (Here bs) (ap fault_of p) (bad_value v rest l s b (outside (from n) least most v t)))

    with-room : (bs : List Bool) (f : Fault) → to n ≤ room → next (between (from n) least most bs) k ≡ refused f → Here bs f
    with-room bs f l e =
        by (ltb (length bs) (from n))
        (λ t.
        let h = ltb-true (length bs) (from n) t in
        let p : refused past ≡ refused f = sym (ap (λ r. next r k) (between-past (from n) least most bs h)) ∙ e in
        subst (Here bs) (ap fault_of p) (bits_end h))
        (λ t.
        with_value (num (from n) bs) (drop (from n) bs) bs f l (num-lt (from n) bs) (field-split (from n) bs (ltb-false (length bs) (from n) t)) e)

    one-fault : (bs : List Bool) (f : Fault) → read_fields from to (field n least most follow) room bs ≡ refused f → Here bs f
    unfolding read_fields
    one-fault bs f e =
        by (ltb room (to n))
        (λ t. let p : refused past ≡ refused f = rw t at e in subst (Here bs) (ap fault_of p) (room_ends (ltb-true room (to n) t)))
        (λ t. let q : next (between (from n) least most bs) k ≡ refused f = rw t at e in with-room bs f (ltb-false room (to n) t) q)

  pub refused-is-fault : (F : Fields) (room : ℕ) (bs : List Bool) (f : Fault) → read_fields from to F room bs ≡ refused f → FirstFault from to F room bs f
  unfolding read_fields
  refused-is-fault end room bs f e = never refl (ap is_done e)
  refused-is-fault (field n least most follow) room bs f e =
      one-fault n least most room follow (λ v cs g q. refused-is-fault (follow v) (room - to n) cs g q) bs f e

-- ---- what is behind the last field

bad-behind : (rest : List Bool) → bad_fill rest ≡ true → (8 ≤ length rest) ⊎ In true rest
unfolding bad_fill
bad-behind rest e =
    or_elim (leb 8 (length rest)) (any (λ b. b) rest) e
    (λ h. inl (leb-true 8 (length rest) h))
    (λ h. let x = any_of (λ (b : Bool). b) rest h in inr (subst (λ b. In b rest) x.2 x.1))

behind-bad : (rest : List Bool) → (8 ≤ length rest) ⊎ In true rest → bad_fill rest ≡ true
unfolding bad_fill
behind-bad rest h =
    ⊎_elim
    (λ (l : 8 ≤ length rest). or_left (any (λ b. b) rest) (le-leb 8 (length rest) l))
    (λ (i : In true rest). or_right (leb 8 (length rest)) (any-in (λ (b : Bool). b) i refl))
    h

-- ---- the numbers

module _ (from to : Form) (wide : Wide from) (W : ℕ) (bytes lent : List ℕ) where
  abbrev F : Fields
  F = schedule_fields W

  abbrev Twelve : Type 0
  Twelve = (LegalWidth W → ⊥) ⊎ ((LegalWidth W × FaultIn from to W bytes lent not_allowed) ⊎ BadBehind from to W bytes lent)

  -- what the reading came to, and the number that goes by it
  abbrev read : Parsed (List ℕ)
  read = read_fields from to F (8 * length lent) (bits_of bytes)

  number-of : (r : Parsed (List ℕ)) → LegalWidth W → read ≡ r → (convert from to W bytes lent).answer.number ≡ (concluded (write_fields to F) r lent).answer.number
  number-of r w e = ap number_of (good-width-read from to W bytes lent (width-good w) ∙ ap (λ r. concluded (write_fields to F) r lent) e)

  fault-number : (f : Fault) → LegalWidth W → FaultIn from to W bytes lent f → (convert from to W bytes lent).answer.number ≡ schedule_fault f
  fault-number f w g = number-of (refused f) w (faults-refuse from to g)

  -- a legal schedule was read, and what is behind it is no fill
  behind-number : BadBehind from to W bytes lent → (convert from to W bytes lent).answer.number ≡ 12
  behind-number h =
      let w = h.legal.width in
      let vs = schedule_values h.s in
      number-of (done vs h.rest) w
      (ap (read_fields from to F (8 * length lent)) h.begins
      ∙ (fields-codes from to wide F (8 * length lent) (schedule-sound W w)).back vs (legal-allowed W w h.s h.legal, h.room) h.rest)
      ∙ ap number_of (bad-fill-away (write_fields to F) vs h.rest lent (behind-bad h.rest h.bad))

  read_behind : (vs : List ℕ) (rest : List Bool) → LegalWidth W → read ≡ done vs rest → bad_fill rest ≡ true → BadBehind from to W bytes lent
  read_behind vs rest w e f =
      let t = done-only (fields-codes from to wide F (8 * length lent) (schedule-sound W w)) (bits_of bytes) vs rest e in
      let s = allowed-legal W w vs t.1.0 in
      record {
        s = s.0;
        rest = rest;
        legal = s.2;
        begins = t.0 ∙ ap (λ l. write_fields from F l ++ rest) s.1;
        room = subst (λ l. length (write_fields to F l) ≤ 8 * length lent) s.1 t.1.1;
        bad = bad-behind rest f;
      }

  -- what a number other than 0 comes from
  pub record From (n : ℕ) (C : Type 0) : Type 0 where
    pub width : n ≡ 12 → (LegalWidth W → ⊥) → C
    pub fault : (f : Fault) → n ≡ schedule_fault f → LegalWidth W → FaultIn from to W bytes lent f → C
    pub behind : n ≡ 12 → BadBehind from to W bytes lent → C

  told : (n : ℕ) (C : Type 0) → 0 < n → (convert from to W bytes lent).answer.number ≡ n → From n C → C
  told n C l e c =
      by (bad_width W)
      (λ q. c.width (sym e ∙ ap number_of (bad-width-away from to W bytes lent q)) (λ w. never q (width-good w)))
      (λ q. go (good-width W q) read refl)
    where
      go : LegalWidth W → (r : Parsed (List ℕ)) → read ≡ r → C
      go w (refused f) p = c.fault f (sym e ∙ number-of (refused f) w p) w (refused-is-fault from to F (8 * length lent) (bits_of bytes) f p)
      go w (done vs rest) p =
          by (bad_fill rest)
          (λ f. c.behind (sym e ∙ number-of (done vs rest) w p ∙ ap number_of (bad-fill-away (write_fields to F) vs rest lent f)) (read_behind vs rest w p f))
          (λ f.
          let z : n ≡ 0 = sym e ∙ number-of (done vs rest) w p ∙ ap number_of (good-fill-gives (write_fields to F) vs rest lent f) in
          absurd (omega arith))

  is-past : (f : Fault) → 11 ≡ schedule_fault f → f ≡ past
  is-past past e = refl
  is-past not_allowed e = absurd (omega (arith, e))

  is-not_allowed : (f : Fault) → 12 ≡ schedule_fault f → f ≡ not_allowed
  is-not_allowed past e = absurd (omega (arith, e))
  is-not_allowed not_allowed e = refl

  numbers : Numbers from to W bytes lent
  numbers = record {
    eleven = (
      λ e.
          told 11 (LegalWidth W × FaultIn from to W bytes lent past) (omega arith) e (record {
            width = λ n w. absurd (omega (arith, n));
            fault = λ f n w g. (w, subst (FaultIn from to W bytes lent) (is-past f n) g);
            behind = λ n h. absurd (omega (arith, n));
          }),
      λ h. fault-number past h.0 h.1,
    );
    twelve = (
      λ e.
          told 12 Twelve (omega arith) e (record {
            width = λ n w. inl w;
            fault = λ f n w g. inr (inl (w, subst (FaultIn from to W bytes lent) (is-not_allowed f n) g));
            behind = λ n h. inr (inr h);
          }),
      λ h.
          ⊎_elim
          (width-first from to W bytes lent)
          (λ t. ⊎_elim (λ g. fault-number not_allowed g.0 g.1) behind-number t)
          h,
    );
  }

pub reads-numbers : ReadsNumbers
reads-numbers W bytes lent = numbers packed recorded packed-wide W bytes lent

pub writes-numbers : WritesNumbers
writes-numbers W bytes lent = numbers recorded packed recorded-wide W bytes lent

pub walks-numbers : WalksNumbers
walks-numbers W bytes = numbers packed unwritten packed-wide W bytes []
