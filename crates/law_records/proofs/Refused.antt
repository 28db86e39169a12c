-- What is refused, with which number, and that a refusal leaves what was lent.
use Rattle.std.specs.Prelude.{Bool, ◌⊎◌, ◌≡◌, refl, ℕ, zero, suc, ◌+◌, ◌*◌, ◌^◌, ◌≤◌, ◌<◌, take, drop}
use Rattle.std.proofs.Math.Bool.{false}
use mathlib.Core.List.Memᴰ
use mathlib.Core.List.{List, [], ◌∷◌, ◌++◌, append_assoc, append-nil}
use Rattle.std.proofs.Common.{inl, inr, ⊎_elim, sym, ◌∙◌, subst, zero-le, arith, le-leb, take-append-drop}
use Rattle.std.proofs.Math.Path.{ap}
use Rattle.std.proofs.Math.Nat.{zero-div}
use Rattle.std.proofs.Math.ListN.{length, replicate, length-append}
use Rattle.std.proofs.Math.Seq
use Rattle.lists.specs.Lists.{In, any}
use Rattle.lists.specs.Tests.{by, or_left}
use Rattle.definitions.specs.Bits.{odd, to_bits, bits_of, size, pack}
use Rattle.definitions.specs.Records.{Name, Schedule}
use Rattle.definitions.specs.Parse.{Fault, past, not_allowed, Parsed, done, refused}
use Rattle.definitions.specs.Packing.{order_bits, item_count_bits, schedule_bits}
use Rattle.definitions.specs.Checks.{bad_fill}
use Rattle.definitions.specs.LegalSchedule.{LegalOrder, LegalSchedule}
use Rattle.definitions.specs.ScheduleFields.{Form, packed, recorded, unwritten, schedule_fields, read_fields, write_fields}
use Rattle.definitions.specs.Conversion.{Converted, turned_away, bad_width, concluded, convert, read_schedule, write_schedule}
use Rattle.definitions.specs.Values.{schedule_values, records_of}
use Rattle.bits.specs.NumberLaws.{length-to_bits, length-bits_of, bits_of-append, bits_of-pack}
use Rattle.law_reading.specs.Packed.{length-pack, fill}
use Rattle.law_records.specs.Statements.{schedule_bytes, gives, bits_in, ThreeNumbers, RefusalsTouchNothing, WidthFirst, NoRoomForRecords, NoRoomForSchedule, CutScheduleIs11, CutRecordsAre11, MoreBytesAre12, MoreRecordsAre12, OrderOnlyIs11, SixteenTimes, RoomAlwaysSuffices}
use Rattle.law_records.specs.Walks.{Wide, fields-codes, too_short, packed-wide, recorded-wide, values-few, room-enough}
use Rattle.law_records.specs.Grammar.{schedule-sound, legal-allowed, legal-packs}
use Rattle.law_records.proofs.Exactly.{number_of, width-good, good-width, bad-width-away, good-width-read, bad-fill-away, good-fill-gives, length-records, bytes_in, packed-bytes, recorded-bytes, can-read, can_write}

-- ---- every outcome

-- an outcome is an acceptance or a refusal
abbrev Ends : Converted → List ℕ → Type 0
Ends c lent = ((bytes : List ℕ) × (c ≡ gives bytes lent)) ⊎ ((f : Fault) × (c ≡ turned_away f lent))

concluded-ends : (bits : List ℕ → List Bool) (r : Parsed (List ℕ)) (lent : List ℕ) → Ends (concluded bits r lent) lent
concluded-ends bits (refused f) lent = inr (f, refl)
concluded-ends bits (done vs rest) lent =
    by (bad_fill rest)
    (λ e. inr (not_allowed, bad-fill-away bits vs rest lent e))
    (λ e. inl (pack (bits vs), good-fill-gives bits vs rest lent e))

convert-ends : (from to : Form) (W : ℕ) (bytes lent : List ℕ) → Ends (convert from to W bytes lent) lent
convert-ends from to W bytes lent =
    by (bad_width W)
    (λ e. inr (not_allowed, bad-width-away from to W bytes lent e))
    (λ e.
    subst (λ c. Ends c lent) (sym (good-width-read from to W bytes lent e))
    (concluded-ends (write_fields to (schedule_fields W)) (read_fields from to (schedule_fields W) (8 * length lent) (bits_of bytes)) lent))

pub three-numbers : ThreeNumbers
three-numbers from to W bytes lent =
    ⊎_elim
    (λ h. Memᴰ.head (ap number_of h.1))
    (λ h. go h.0 h.1)
    (convert-ends from to W bytes lent)
  where
    go : (f : Fault) → convert from to W bytes lent ≡ turned_away f lent → In (convert from to W bytes lent).answer.number (0 ∷ 11 ∷ 12 ∷ [])
    go past e = Memᴰ.tail (Memᴰ.head (ap number_of e))
    go not_allowed e = Memᴰ.tail (Memᴰ.tail (Memᴰ.head (ap number_of e)))

pub refusals-touch-nothing : RefusalsTouchNothing
refusals-touch-nothing from to W bytes lent n =
    ⊎_elim
    (λ h. absurd (n (ap number_of h.1)))
    (λ h.
    let e = h.1 in
    record {
      size = ap (λ (c : Converted). c.answer.size) e;
      rows = ap (λ (c : Converted). c.answer.rows) e;
      more = ap (λ (c : Converted). c.answer.more) e;
      output = ap (λ (c : Converted). c.output) e;
    })
    (convert-ends from to W bytes lent)

pub width-first : WidthFirst
width-first from to W bytes lent h =
    by (bad_width W)
    (λ e. ap number_of (bad-width-away from to W bytes lent e))
    (λ e. absurd (h (good-width W e)))

-- ---- too short, too little room, more bytes

bits_of-take : (k : ℕ) (bytes : List ℕ) → k ≤ length bytes → bits_of (take k bytes) ≡ take (8 * k) (bits_of bytes)
bits_of-take k bytes h =
    let n : length (bits_of (take k bytes)) ≡ 8 * k = length-bits_of (take k bytes) ∙ ap (λ j. 8 * j) (Seq.length-take-le k bytes h) in
    sym (Seq.take_at (bits_of (take k bytes)) (bits_of (drop k bytes)) (8 * k) n)
    ∙ ap (take (8 * k)) (sym (bits_of-append (take k bytes) (drop k bytes)) ∙ ap bits_of (take-append-drop k bytes))

module _ (from to : Form) (wide : Wide from) (W : ℕ) (lent : List ℕ) (s : Schedule) (legal : LegalSchedule W s) where
  abbrev source : List Bool
  source = write_fields from (schedule_fields W) (schedule_values s)

  convert-short : (k : ℕ) → k ≤ length (bytes_in from W s) → (k < length (bytes_in from W s)) ⊎ (length lent < length (bytes_in to W s)) →
      (convert from to W (take k (bytes_in from W s)) lent).answer.number ≡ 11
  convert-short k l h =
      let F = schedule_fields W in
      let target = write_fields to F (schedule_values s) in
      let n = length-pack source in
      let m = length-pack target in
      let e : read_fields from to F (8 * length lent) (bits_of (take k (bytes_in from W s))) ≡ refused past =
      ap (read_fields from to F (8 * length lent)) (bits_of-take k (bytes_in from W s) l ∙ ap (take (8 * k)) (bits_of-pack source))
      ∙ too_short from to wide F (8 * length lent) (schedule_values s) (replicate (fill source) false) (8 * k) (schedule-sound W legal.width) (legal-allowed W legal.width s legal)
      (⊎_elim (λ (g : k < length (bytes_in from W s)). inl (omega arith)) (λ (g : length lent < length (bytes_in to W s)). inr (omega arith)) h) in
      ap number_of (good-width-read from to W (take k (bytes_in from W s)) lent (width-good legal.width) ∙ ap (λ r. concluded (write_fields to F) r lent) e)

  no_room : length lent < length (bytes_in to W s) → (convert from to W (bytes_in from W s) lent).answer.number ≡ 11
  no_room h =
      let bytes = bytes_in from W s in
      ap (λ l. (convert from to W l lent).answer.number) (sym (Seq.take-length bytes)) ∙ convert-short (length bytes) (omega arith) (inr h)

  cut : (k : ℕ) → k < length (bytes_in from W s) → (convert from to W (take k (bytes_in from W s)) lent).answer.number ≡ 11
  cut k h = convert-short k (omega arith) (inl h)

  bytes-behind : (b : ℕ) (more : List ℕ) → length (bytes_in to W s) ≤ length lent → (convert from to W (bytes_in from W s ++ b ∷ more) lent).answer.number ≡ 12
  unfolding bad_fill
  bytes-behind b more h =
      let F = schedule_fields W in
      let vs = schedule_values s in
      let target = write_fields to F vs in
      let rest = replicate (fill source) false ++ bits_of (b ∷ more) in
      let n = length-pack target in
      let g : 8 ≤ length rest = omega (arith, length-append (replicate (fill source) false) (bits_of (b ∷ more)), length-bits_of (b ∷ more)) in
      let e : read_fields from to F (8 * length lent) (bits_of (bytes_in from W s ++ b ∷ more)) ≡ done vs rest =
      ap (read_fields from to F (8 * length lent))
      (bits_of-append (bytes_in from W s) (b ∷ more)
      ∙ ap (λ l. l ++ bits_of (b ∷ more)) (bits_of-pack source)
      ∙ append_assoc source (replicate (fill source) false) (bits_of (b ∷ more)))
      ∙ (fields-codes from to wide F (8 * length lent) (schedule-sound W legal.width)).back vs (legal-allowed W legal.width s legal, omega arith) rest in
      ap number_of
      (good-width-read from to W (bytes_in from W s ++ b ∷ more) lent (width-good legal.width)
      ∙ ap (λ r. concluded (write_fields to F) r lent) e
      ∙ bad-fill-away (write_fields to F) vs rest lent (or_left (any (λ b. b) rest) (le-leb 8 (length rest) g)))

pub no-room-for-records : NoRoomForRecords
no-room-for-records W lent s h l =
    subst (λ b. (read_schedule W b lent).answer.number ≡ 11) (packed-bytes W s h)
    (no_room packed recorded packed-wide W lent s h (subst (λ b. length lent < length b) (sym (recorded-bytes W s h)) l))

pub no-room-for-schedule : NoRoomForSchedule
no-room-for-schedule W lent s h l =
    subst (λ b. (write_schedule W b lent).answer.number ≡ 11) (recorded-bytes W s h)
    (no_room recorded packed recorded-wide W lent s h (subst (λ b. length lent < length b) (sym (packed-bytes W s h)) l))

pub cut-schedule-is-11 : CutScheduleIs11
cut-schedule-is-11 W lent s k h l =
    subst (λ b. (read_schedule W (take k b) lent).answer.number ≡ 11) (packed-bytes W s h)
    (cut packed recorded packed-wide W lent s h k (subst (λ b. k < length b) (sym (packed-bytes W s h)) l))

pub cut-records-are-11 : CutRecordsAre11
cut-records-are-11 W lent s k h l =
    subst (λ b. (write_schedule W (take k b) lent).answer.number ≡ 11) (recorded-bytes W s h)
    (cut recorded packed recorded-wide W lent s h k (subst (λ b. k < length b) (sym (recorded-bytes W s h)) l))

pub more-bytes-are-12 : MoreBytesAre12
more-bytes-are-12 W lent s b more h =
    subst (λ l. (read_schedule W (l ++ b ∷ more) lent).answer.number ≡ 12) (packed-bytes W s h.legal)
    (bytes-behind packed recorded packed-wide W lent s h.legal b more (can-read h).room)

pub more-records-are-12 : MoreRecordsAre12
more-records-are-12 W lent s b more h =
    subst (λ l. (write_schedule W (l ++ b ∷ more) lent).answer.number ≡ 12) (recorded-bytes W s h.legal)
    (bytes-behind recorded packed recorded-wide W lent s h.legal b more (can_write h).room)

-- ---- an order-only listing

-- the bits of 0 are zeros, and so are the first of them
zero_bits : (n : ℕ) → to_bits n 0 ≡ replicate n false
unfolding odd to_bits
zero_bits zero = refl
zero_bits (suc n) = rw (zero-div (2 ^ n), zero_bits n) refl

take-zeros : (m n : ℕ) → m ≤ n → take m (replicate n false) ≡ replicate m false
take-zeros zero n h = refl
take-zeros (suc m) zero h = absurd (omega arith)
take-zeros (suc m) (suc n) h = ap (λ (l : List Bool). false ∷ l) (take-zeros m n (omega arith))

-- its bytes are those of the names without items, cut within the item count
module _ (W : ℕ) (ns : List Name) (h : LegalOrder W ns) where
  abbrev named : Schedule
  named = record { order = ns; items = [] }

  named-legal : LegalSchedule W named
  named-legal = record { width = h.width; names = h.names; items = record { enough = zero-le; few = zero-le; every = tt } }

  named-bits : bits_in packed W named ≡ order_bits ns ++ to_bits item_count_bits 0
  unfolding schedule_bits
  named-bits = legal-packs W h.width named named-legal ∙ ap (λ l. order_bits ns ++ l) (append-nil (to_bits item_count_bits 0))

  order-bits : bits_of (pack (order_bits ns)) ≡ take (length (order_bits ns) + fill (order_bits ns)) (bits_in packed W named ++ [])
  order-bits =
      let bs = order_bits ns in
      bits_of-pack bs
      ∙ ap (λ l. bs ++ l) (sym (take-zeros (fill bs) item_count_bits (omega arith)) ∙ ap (take (fill bs)) (sym (zero_bits item_count_bits)))
      ∙ sym (Seq.take-append-add bs (to_bits item_count_bits 0) (fill bs))
      ∙ ap (take (length bs + fill bs)) (sym named-bits ∙ sym (append-nil (bits_in packed W named)))

pub order-only-is-11 : OrderOnlyIs11
order-only-is-11 W lent ns h =
    let F = schedule_fields W in
    let bs = order_bits ns in
    let n : length (bits_in packed W (named W ns h)) ≡ length bs + item_count_bits =
    ap length (named-bits W ns h) ∙ length-append bs (to_bits item_count_bits 0) ∙ ap (λ k. length bs + k) (length-to_bits item_count_bits 0) in
    let e : read_fields packed recorded F (8 * length lent) (bits_of (pack bs)) ≡ refused past =
    ap (read_fields packed recorded F (8 * length lent)) (order-bits W ns h)
    ∙ too_short packed recorded packed-wide F (8 * length lent) (schedule_values (named W ns h)) [] (length bs + fill bs) (schedule-sound W h.width)
    (legal-allowed W h.width (named W ns h) (named-legal W ns h)) (inl (omega arith)) in
    ap number_of (good-width-read packed recorded W (pack bs) lent (width-good h.width) ∙ ap (λ r. concluded (write_fields recorded F) r lent) e)

-- ---- a walk without records

pub sixteen-times : SixteenTimes
unfolding records_of
sixteen-times W s h =
    let F = schedule_fields W in
    let vs = schedule_values s in
    let n = length-records vs in
    let m = values-few F vs (schedule-sound W h.width) (legal-allowed W h.width s h) in
    let e : length (schedule_bytes s) ≡ size (length (write_fields packed F vs)) = ap length (sym (packed-bytes W s h)) ∙ length-pack (write_fields packed F vs) in
    omega arith

-- the number does not go by what is written, nor by where
same_number : (f g : List ℕ → List Bool) (r : Parsed (List ℕ)) (lent other : List ℕ) → (concluded f r lent).answer.number ≡ (concluded g r other).answer.number
same_number f g (refused e) lent other = refl
same_number f g (done vs rest) lent other =
    by (bad_fill rest)
    (λ e. ap number_of (bad-fill-away f vs rest lent e) ∙ sym (ap number_of (bad-fill-away g vs rest other e)))
    (λ e. ap number_of (good-fill-gives f vs rest lent e) ∙ sym (ap number_of (good-fill-gives g vs rest other e)))

pub room-always-suffices : RoomAlwaysSuffices
room-always-suffices W bytes lent h =
    let F = schedule_fields W in
    by (bad_width W)
    (λ e. ap number_of (bad-width-away packed recorded W bytes lent e) ∙ sym (ap number_of (bad-width-away packed unwritten W bytes [] e)))
    (λ e.
    ap number_of (good-width-read packed recorded W bytes lent e)
    ∙ same_number (write_fields recorded F) (write_fields unwritten F) (read_fields packed recorded F (8 * length lent) (bits_of bytes)) lent []
    ∙ ap (λ r. (concluded (write_fields unwritten F) r []).answer.number)
    (room-enough F (8 * length lent) (bits_of bytes) (schedule-sound W (good-width W e)) (omega (arith, length-bits_of bytes)))
    ∙ sym (ap number_of (good-width-read packed unwritten W bytes [] e)))
