-- A tariff that is not refused charges the bytes of legal schedules, and nothing else.
use Rattle.std.specs.Prelude.{false, List, [], ◌≡◌, refl, ℕ, zero, suc, ◌≤◌, ℤ, length, replicate}
use Rattle.std.proofs.Common.{sym, ap, ◌∙◌, subst, arith}
use Rattle.lists.specs.Tests.{by}
use Rattle.definitions.specs.Bits.{bits_of}
use Rattle.definitions.specs.Records.{Schedule}
use Rattle.definitions.specs.Parse.{Parsed, done, refused}
use Rattle.definitions.specs.Checks.{bad_fill}
use Rattle.definitions.specs.LegalSchedule.{LegalSchedule}
use Rattle.definitions.specs.ScheduleFields.{packed, unwritten, schedule_fields, read_fields, write_fields}
use Rattle.definitions.specs.Conversion.{bad_width, concluded, convert}
use Rattle.definitions.specs.Values.{schedule_values}
use Rattle.bits.specs.NumberLaws.{bits_of-pack}
use Rattle.law_reading.specs.Packed.{fill}
use Rattle.law_reading.proofs.RoundTrip.{fill-good}
use Rattle.law_records.specs.Statements.{schedule_bytes}
use Rattle.law_records.specs.Walks.{fields-codes, packed-wide, unwritten-bits}
use Rattle.law_records.specs.Grammar.{schedule-sound, legal-allowed}
use Rattle.law_records.proofs.Exactly.{width-good, packed-bytes, convert-only}
use Rattle.tariff_definitions.specs.Tariff.{TariffRow, rows_of, tariff_number, Charged, turned_away, filled, values_in, charged_for, charged}
use Rattle.law_tariff.specs.Statements.{accepts, IsCharged, LegalSum, OnlyLegal, NumbersOfSchedule}
use Rattle.tariff_definitions.proofs.DecodedLaws.{legal-back}

-- ---- the tariff first

pub good-tariff : (t : List ℤ) (W : ℕ) (bytes : List ℕ) → tariff_number t ≡ 0 → charged t W bytes ≡ charged_for (rows_of t) (values_in W bytes)
unfolding charged
good-tariff t W bytes e = rw (e, charged) refl

pub bad-tariff : (t : List ℤ) (W : ℕ) (bytes : List ℕ) (n : ℕ) → tariff_number t ≡ suc n → charged t W bytes ≡ turned_away (suc n)
unfolding charged
bad-tariff t W bytes n e = rw (e, charged) refl

-- ---- the schedule

-- Its number is that of a walk without records.
schedule-number : (rows : List TariffRow) (W : ℕ) (bytes : List ℕ) → (charged_for rows (values_in W bytes)).number ≡ (convert packed unwritten W bytes []).answer.number
unfolding values_in convert
schedule-number rows W bytes =
    by (bad_width W) (λ e. rw (e, convert) refl) (λ e. rw (e, convert) (go (read_fields packed unwritten (schedule_fields W) 0 (bits_of bytes))))
  where
    go : (r : Parsed (List ℕ)) → (charged_for rows (filled r)).number ≡ (concluded (write_fields unwritten (schedule_fields W)) r []).answer.number
    go (refused f) = refl
    go (done vs rest) = by (bad_fill rest) (λ e. rw (e, concluded) refl) (λ e. rw (e, concluded) refl)

pub numbers-of-schedule : NumbersOfSchedule
numbers-of-schedule t W bytes e = ap (λ (c : Charged). c.number) (good-tariff t W bytes e) ∙ schedule-number (rows_of t) W bytes

-- The bytes of a legal schedule have its values.
legal-values : (W : ℕ) (s : Schedule) → LegalSchedule W s → (rest : _) × (values_in W (schedule_bytes s) ≡ done (schedule_values s) rest)
unfolding values_in
legal-values W s h =
    let F = schedule_fields W in
    let vs = schedule_values s in
    let bs = write_fields packed F vs in
    let rest = replicate (fill bs) false in
    let r : read_fields packed unwritten F 0 (bits_of (schedule_bytes s)) ≡ done vs rest =
    ap (read_fields packed unwritten F 0) (ap bits_of (sym (packed-bytes W s h)) ∙ bits_of-pack bs)
    ∙ (fields-codes packed unwritten packed-wide F 0 (schedule-sound W h.width)).back vs
    (legal-allowed W h.width s h, subst (λ l. length l ≤ 0) (sym (unwritten-bits F vs)) (omega arith)) rest in
    (rest, rw (width-good h.width, r, fill-good bs) refl)

pub legal-sum : LegalSum
legal-sum t W s e h =
    let r = legal-values W s h in
    good-tariff t W (schedule_bytes s) e ∙ ap (charged_for (rows_of t)) r.1 ∙ ap (λ (c : Schedule). accepts t c.items) (legal-back W s h)

pub only-legal : OnlyLegal
only-legal t W bytes b e = go (tariff_number t) refl
  where
    go : (n : ℕ) → tariff_number t ≡ n → IsCharged t W bytes
    go (suc n) q = absurd (omega (arith, sym e ∙ ap (λ (c : Charged). c.number) (bad-tariff t W bytes n q)))
    go zero q =
        let r = convert-only packed unwritten packed-wide W bytes [] b (sym (numbers-of-schedule t W bytes q) ∙ e) in
        let s = r.0 in
        let p = r.1.given ∙ packed-bytes W s r.1.legal in
        record { tariff = q; s = s; legal = r.1.legal; packed = p; sum = ap (charged t W) p ∙ legal-sum t W s q r.1.legal }
