-- Each call accepts a legal schedule in the one form, where the other has room, and nothing else.
use Rattle.std.specs.Prelude.{Bool, true, false, ◌≡◌, refl, ℕ, ◌+◌, ◌*◌, ◌/◌, ◌%◌, ◌≤◌, ◌<◌, ltb, get_or, drop, replicate}
use mathlib.Core.List.{List, [], ◌∷◌, ◌++◌, append_assoc, append-nil, cons≢nil}
use Rattle.std.proofs.Common.{sym, ap₂, ◌∙◌, subst, mod-lt, arith, le-ltb, ltb-false}
use Rattle.std.proofs.Math.Path.{ap}
use Rattle.std.proofs.Math.ListN.{length}
use Rattle.lists.specs.Lists.{each}
use Rattle.lists.specs.Tests.{by, neither, or-false-both}
use Rattle.definitions.specs.Bits.{to_bits, bits_of, pack}
use Rattle.definitions.specs.Records.{Schedule}
use Rattle.definitions.specs.Parse.{past, not_allowed, Parsed, done, refused}
use Rattle.definitions.specs.Checks.{bad_fill}
use Rattle.definitions.specs.Legal.{Every}
use Rattle.definitions.specs.LegalSchedule.{least_words, most_words, LegalWidth, LegalSchedule}
use Rattle.definitions.specs.ScheduleFields.{Form, packed, recorded, schedule_fields, read_fields, write_fields}
use Rattle.definitions.specs.Conversion.{Converted, turned_away, bad_width, concluded, convert}
use Rattle.definitions.specs.Values.{record_bytes, records_of, schedule_values}
use Rattle.bits.specs.NumberLaws.{to_bits-split, to_bits-low, bits_of-pack}
use Rattle.law_reading.specs.Statements.{Bytes}
use Rattle.law_reading.specs.Parsers.{done-only}
use Rattle.law_reading.specs.Packed.{length-pack, pack-bytes, fill, packed-only}
use Rattle.law_reading.specs.Rules.{none-set, fill-exactly}
use Rattle.law_reading.proofs.RoundTrip.{fill-good}
use Rattle.law_schedule.proofs.OneToOne.{schedule-fields, bytes-determine}
use Rattle.law_records.specs.Statements.{schedule_bytes, gives, bits_in, CanRead, CanWrite, ReadsExactly, ReadsRecords, ReadsOne, WritesExactly, WritesSchedule, WritesOne}
use Rattle.law_records.specs.Walks.{Wide, fields-codes, packed-wide, recorded-wide, recorded-bits, allowed-below}
use Rattle.law_records.specs.Grammar.{schedule-sound, legal-allowed, allowed-legal, legal-packs}

abbrev pub number_of : Converted → ℕ
number_of c = c.answer.number

-- ---- W

pub width-good : {W : ℕ} → LegalWidth W → bad_width W ≡ false
width-good {W} h = or-false-both (le-ltb W least_words h.enough) (le-ltb most_words W h.few)

pub good-width : (W : ℕ) → bad_width W ≡ false → LegalWidth W
good-width W e = let t = neither (ltb W least_words) (ltb most_words W) e in record { enough = ltb-false W least_words t.0; few = ltb-false most_words W t.1 }

-- ---- the bytes of records

-- the bits of two bytes, the high one first, are the 16 bits of the value
record-bits : (v : ℕ) → to_bits 8 (v / 256) ++ to_bits 8 (v % 256) ≡ to_bits 16 v
record-bits v =
    let e : v / 256 * 256 + v % 256 ≡ v = omega arith in
    ap (λ bs. to_bits 8 (v / 256) ++ bs) (sym (to_bits-low 8 (v / 256) (v % 256) (mod-lt v (omega arith))) ∙ ap (to_bits 8) e) ∙ sym (to_bits-split 8 8 v)

records-bits : (vs : List ℕ) → bits_of (each record_bytes vs) ≡ each (to_bits 16) vs
unfolding bits_of
records-bits [] = refl
records-bits (v ∷ vs) =
    sym (append_assoc (to_bits 8 (v / 256)) (to_bits 8 (v % 256)) (bits_of (each record_bytes vs)))
    ∙ ap₂ (λ a b. a ++ b) (record-bits v) (records-bits vs)

records-bytes : (vs : List ℕ) → Every (λ v. v < 65536) vs → Bytes (each record_bytes vs)
records-bytes [] h = tt
records-bytes (v ∷ vs) h = (omega (arith, h.0), (omega arith, records-bytes vs h.1))

records-packed : (vs : List ℕ) → Every (λ v. v < 65536) vs → pack (each (to_bits 16) vs) ≡ each record_bytes vs
records-packed vs h =
    sym
    (packed-only (each record_bytes vs) (each (to_bits 16) vs) [] (records-bytes vs h)
    (records-bits vs ∙ sym (append-nil (each (to_bits 16) vs))) (omega arith) refl)

pub length-records : (vs : List ℕ) → length (each record_bytes vs) ≡ 2 * length vs
length-records [] = refl
length-records (v ∷ vs) = omega (arith, length-records vs)

-- ---- in any form

-- the bytes of a schedule in a form
abbrev pub bytes_in : Form → ℕ → Schedule → List ℕ
bytes_in form W s = pack (bits_in form W s)

pub packed-bytes : (W : ℕ) (s : Schedule) → LegalSchedule W s → bytes_in packed W s ≡ schedule_bytes s
packed-bytes W s h = ap pack (legal-packs W h.width s h)

pub recorded-bytes : (W : ℕ) (s : Schedule) → LegalSchedule W s → bytes_in recorded W s ≡ records_of s
unfolding records_of
recorded-bytes W s h =
    let a = legal-allowed W h.width s h in
    ap pack (recorded-bits (schedule_fields W) (schedule_values s) a)
    ∙ records-packed (schedule_values s) (allowed-below (schedule_fields W) (schedule_values s) (schedule-sound W h.width) a)

pub recorded-are-bytes : (W : ℕ) (s : Schedule) → LegalSchedule W s → Bytes (records_of s)
recorded-are-bytes W s h = subst Bytes (recorded-bytes W s h) (pack-bytes (write_fields recorded (schedule_fields W) (schedule_values s)))

-- the bytes are those of a legal schedule in the one form, and what is lent has room for those in the other
pub record Converts (from to : Form) (W : ℕ) (source lent : List ℕ) (s : Schedule) : Type 0 where
  pub legal : LegalSchedule W s
  pub given : source ≡ bytes_in from W s
  pub room : length (bytes_in to W s) ≤ length lent

-- ---- the tests of a conversion, one after the other

pub bad-width-away : (from to : Form) (W : ℕ) (source lent : List ℕ) → bad_width W ≡ true → convert from to W source lent ≡ turned_away not_allowed lent
unfolding convert
bad-width-away from to W source lent e = rw (e, convert) refl

pub good-width-read : (from to : Form) (W : ℕ) (source lent : List ℕ) → bad_width W ≡ false →
    convert from to W source lent ≡ concluded (write_fields to (schedule_fields W)) (read_fields from to (schedule_fields W) (8 * length lent) (bits_of source)) lent
unfolding convert
good-width-read from to W source lent e = rw (e, convert) refl

pub bad-fill-away : (bits : List ℕ → List Bool) (vs : List ℕ) (rest : List Bool) (lent : List ℕ) → bad_fill rest ≡ true →
    concluded bits (done vs rest) lent ≡ turned_away not_allowed lent
bad-fill-away bits vs rest lent e = rw (e, concluded) refl

pub good-fill-gives : (bits : List ℕ → List Bool) (vs : List ℕ) (rest : List Bool) (lent : List ℕ) → bad_fill rest ≡ false →
    concluded bits (done vs rest) lent ≡ gives (pack (bits vs)) lent
good-fill-gives bits vs rest lent e = rw (e, concluded) refl

module _ (from to : Form) (wide : Wide from) where
  pub convert_gives : (W : ℕ) (source lent : List ℕ) (s : Schedule) → Converts from to W source lent s → convert from to W source lent ≡ gives (bytes_in to W s) lent
  unfolding convert
  convert_gives W source lent s h =
      let F = schedule_fields W in
      let vs = schedule_values s in
      let w = h.legal.width in
      let bs = write_fields from F vs in
      let n = length-pack (write_fields to F vs) in
      let r : read_fields from to F (8 * length lent) (bits_of source) ≡ done vs (replicate (fill bs) false) =
      ap (read_fields from to F (8 * length lent)) (ap bits_of h.given ∙ bits_of-pack bs)
      ∙ (fields-codes from to wide F (8 * length lent) (schedule-sound W w)).back vs (legal-allowed W w s h.legal, omega (arith, h.room)) (replicate (fill bs) false) in
      good-width-read from to W source lent (width-good w)
      ∙ ap (λ p. concluded (write_fields to F) p lent) r
      ∙ good-fill-gives (write_fields to F) vs (replicate (fill bs) false) lent (fill-good bs)

  -- what was read with a good fill is a legal schedule
  convert-done : (W : ℕ) (source lent : List ℕ) (vs : List ℕ) (rest : List Bool) → Bytes source → LegalWidth W →
      read_fields from to (schedule_fields W) (8 * length lent) (bits_of source) ≡ done vs rest → bad_fill rest ≡ false → (s : Schedule) × Converts from to W source lent s
  convert-done W source lent vs rest b w e f =
      let F = schedule_fields W in
      let t = done-only (fields-codes from to wide F (8 * length lent) (schedule-sound W w)) (bits_of source) vs rest e in
      let z = (fill-exactly rest).0 f in
      let s = allowed-legal W w vs t.1.0 in
      let n = length-pack (write_fields to F vs) in (
        s.0,
        record {
          legal = s.2;
          given = packed-only source (write_fields from F vs) rest b t.0 z.0 (none-set rest z.1) ∙ ap (λ l. pack (write_fields from F l)) s.1;
          room = subst (λ l. length (pack (write_fields to F l)) ≤ length lent) s.1 (omega (arith, t.1.1));
        },
      )

  pub convert-only : (W : ℕ) (source lent : List ℕ) → Bytes source → (convert from to W source lent).answer.number ≡ 0 → (s : Schedule) × Converts from to W source lent s
  convert-only W source lent b e =
      by (bad_width W)
      (λ q. absurd (omega (arith, sym e ∙ ap number_of (bad-width-away from to W source lent q))))
      (λ q.
      go q (read_fields from to (schedule_fields W) (8 * length lent) (bits_of source)) refl
      (ap number_of (sym (good-width-read from to W source lent q)) ∙ e))
    where
      go : bad_width W ≡ false → (r : Parsed (List ℕ)) → read_fields from to (schedule_fields W) (8 * length lent) (bits_of source) ≡ r
          → (concluded (write_fields to (schedule_fields W)) r lent).answer.number ≡ 0 → (s : Schedule) × Converts from to W source lent s
      go q (refused past) p n = absurd (omega (arith, n))
      go q (refused not_allowed) p n = absurd (omega (arith, n))
      go q (done vs rest) p n =
          by (bad_fill rest)
          (λ f. absurd (omega (arith, sym n ∙ ap number_of (bad-fill-away (write_fields to (schedule_fields W)) vs rest lent f))))
          (λ f. convert-done W source lent vs rest b (good-width W q) p f)

-- ---- the two calls

pub can-read : {W : ℕ} {bytes lent : List ℕ} {s : Schedule} → CanRead W bytes lent s → Converts packed recorded W bytes lent s
can-read {W} {bytes} {lent} {s} h = record {
  legal = h.legal;
  given = h.packed ∙ sym (packed-bytes W s h.legal);
  room = subst (λ l. length l ≤ length lent) (sym (recorded-bytes W s h.legal)) h.room;
}

pub can_write : {W : ℕ} {bytes lent : List ℕ} {s : Schedule} → CanWrite W bytes lent s → Converts recorded packed W bytes lent s
can_write {W} {bytes} {lent} {s} h = record {
  legal = h.legal;
  given = h.recorded ∙ sym (recorded-bytes W s h.legal);
  room = subst (λ l. length l ≤ length lent) (sym (packed-bytes W s h.legal)) h.room;
}

pub reads-records : ReadsRecords
reads-records W bytes lent s h =
    convert_gives packed recorded packed-wide W bytes lent s (can-read h) ∙ ap (λ l. gives l lent) (recorded-bytes W s h.legal)

pub writes-schedule : WritesSchedule
writes-schedule W bytes lent s h =
    convert_gives recorded packed recorded-wide W bytes lent s (can_write h) ∙ ap (λ l. gives l lent) (packed-bytes W s h.legal)

pub reads-exactly : ReadsExactly
reads-exactly W bytes lent b = (
  λ e.
      let t = convert-only packed recorded packed-wide W bytes lent b e in
      let c = t.1 in
      let s = t.0 in (
        s,
        record {
          legal = c.legal;
          packed = c.given ∙ packed-bytes W s c.legal;
          room = subst (λ l. length l ≤ length lent) (recorded-bytes W s c.legal) c.room;
        },
      ),
  λ h. ap number_of (reads-records W bytes lent h.0 h.1),
)

pub writes-exactly : WritesExactly
writes-exactly W bytes lent b = (
  λ e.
      let t = convert-only recorded packed recorded-wide W bytes lent b e in
      let c = t.1 in
      let s = t.0 in (
        s,
        record {
          legal = c.legal;
          recorded = c.given ∙ recorded-bytes W s c.legal;
          room = subst (λ l. length l ≤ length lent) (packed-bytes W s c.legal) c.room;
        },
      ),
  λ h. ap number_of (writes-schedule W bytes lent h.0 h.1),
)

-- ---- one schedule only

-- two bytes each determine the values
records-determine : (us vs : List ℕ) → each record_bytes us ≡ each record_bytes vs → us ≡ vs
records-determine [] [] e = refl
records-determine [] (v ∷ vs) e = absurd (cons≢nil (sym e))
records-determine (u ∷ us) [] e = absurd (cons≢nil e)
records-determine (u ∷ us) (v ∷ vs) e =
    let h : u / 256 ≡ v / 256 = ap (λ l. get_or l 0 0) e in
    let l : u % 256 ≡ v % 256 = ap (λ l. get_or l 1 0) e in
    let q : u ≡ v = omega arith in
    ap₂ (λ (x : ℕ) l. x ∷ l) q (records-determine us vs (ap (λ l. drop 2 l) e))

pub reads-one : ReadsOne
reads-one W W' bytes lent s t h k = bytes-determine W W' s t h.legal k.legal (sym h.packed ∙ k.packed)

-- what is legal for W words is legal for as many as any sheet has
legal-for-all : {W : ℕ} {s : Schedule} → LegalSchedule W s → LegalSchedule most_words s
legal-for-all h = let f = schedule-fields h in record { width = record { enough = omega arith; few = omega arith }; names = f.names; items = f.items }

pub writes_one : WritesOne
unfolding records_of
writes_one W W' bytes lent s t h k =
    let e = records-determine (schedule_values s) (schedule_values t) (sym h.recorded ∙ k.recorded) in
    let p = legal-for-all h.legal in
    let q = legal-for-all k.legal in
    bytes-determine most_words most_words s t p q
    (sym (packed-bytes most_words s p) ∙ ap (λ vs. pack (write_fields packed (schedule_fields most_words) vs)) e ∙ packed-bytes most_words t q)
