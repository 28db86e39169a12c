-- Tariffs and schedules on which the statements speak of something: every limit, every number, and the worked example.
use Rattle.std.specs.Prelude.{true, List, [], ◌∷◌, ◌++◌, ◌≡◌, refl, ℕ, zero, suc, ◌*◌, ℤ, pos, neg_ℤ, ◌+ℤ◌, length, replicate}
use Rattle.std.proofs.Common.{sym, ap, ap₂, ◌∙◌, zero-mul, suc-mul, add_comm}
use Rattle.definitions.specs.Bits.{odd, to_bits, bits_of}
use Rattle.definitions.specs.Records.{derive_mark, Item, synthesized}
use Rattle.definitions.specs.Parse.{allowed, field_onto}
use Rattle.definitions.specs.Checks.{bad_fill}
use Rattle.definitions.specs.Map.{type_map_of}
use Rattle.definitions.specs.Answer.{schedule, Input, standard, schedule_of, outcome}
use Rattle.definitions.specs.Cases.{hex, lent, run}
use Rattle.definitions.specs.ScheduleFields.{times, name_fields, parent_fields, mark_fields, marks_fields, made_fields, line_fields, item_fields, schedule_fields, read_fields}
use Rattle.law_reading.specs.Examples.{worked_bytes}
use Rattle.law_synthesis.specs.Statements.{MakesLines}
use Rattle.law_schedule.specs.Statements.{Listed}
use Rattle.law_schedule.proofs.Listed.{listed-exactly}
use Rattle.law_relisting.proofs.Examples.{asked, listed}
use Rattle.tariff_definitions.specs.Decoded.{many, name, mark, made, line, item, schedule as taken_schedule}
use Rattle.tariff_definitions.specs.Tariff.{TariffRow, rows_of, allowed_row, tariff_number, sum, charge, total_of, turned_away, values_in, charged}

-- ---- a tariff at every limit

-- So many rows of a sort, for so many parents and more.
abbrev rows_up : ℤ → ℤ → ℕ → ℕ → List ℤ
rows_up sort rate parents zero = []
rows_up sort rate parents (suc n) = sort ∷ pos parents ∷ rate ∷ rows_up sort rate (suc parents) n

-- 33 rows, which is every key, at one rate.
abbrev pub full : ℤ → List ℤ
full rate = rows_up (pos 0) rate 2 16 ++ rows_up (pos 1) rate 2 16 ++ (pos 2 ∷ pos 0 ∷ rate ∷ [])

pub full-accepted : (tariff_number (full (pos 99999)) ≡ 0) × (tariff_number (full (neg_ℤ (pos 99999))) ≡ 0) × (length (full (pos 0)) ≡ 99)
unfolding rows_of allowed_row tariff_number
full-accepted = (refl, refl, refl)

-- The empty tariff charges nothing.
pub empty-accepted : tariff_number [] ≡ 0
unfolding rows_of tariff_number
empty-accepted = refl

-- ---- the largest sum

-- Equal items are charged equally.
pub equal-items : (rows : List TariffRow) (x : Item) (k n : ℕ) → charge rows x ≡ pos k → total_of rows (replicate n x) ≡ pos (n * k)
unfolding total_of sum
equal-items rows x k zero e = ap pos (sym (zero-mul k))
equal-items rows x k (suc n) e = ap₂ (λ y z. y +ℤ z) e (equal-items rows x k n e) ∙ ap pos (add_comm k (n * k) ∙ sym (suc-mul n k))

-- An item of the largest schedule: 16 rows reach its 17 parents.
abbrev pub largest_item : Item
largest_item = synthesized (199 ∷ 199 ∷ []) 199 true (replicate 17 (199 ∷ 199 ∷ 199 ∷ [])) (replicate 448 (derive_mark 255))

pub sixteen-rows : charge (rows_of (full (pos 99999))) largest_item ≡ pos (16 * 99999)
unfolding rows_of sum charge
sixteen-rows = refl

-- ---- every refusal

-- A rate that is too great, a parent too few, and a number behind the last row.
not-allowed : (charged (pos 2 ∷ pos 0 ∷ pos 100000 ∷ []) 0 [] ≡ turned_away 15)
    × (charged (pos 0 ∷ pos 1 ∷ pos 0 ∷ []) 0 [] ≡ turned_away 15) × (charged (pos 2 ∷ pos 0 ∷ pos 0 ∷ pos 0 ∷ []) 0 [] ≡ turned_away 15)
unfolding rows_of allowed_row tariff_number charged
not-allowed = (refl, refl, refl)

-- Two rows for extension lines.
two-lines : charged (pos 2 ∷ pos 0 ∷ pos 1 ∷ pos 2 ∷ pos 0 ∷ pos 3 ∷ []) 0 [] ≡ turned_away 16
unfolding rows_of allowed_row tariff_number charged
two-lines = refl

-- Behind a tariff that is allowed: no bytes, and no words.
no-schedule : (charged [] 2 [] ≡ turned_away 11) × (charged [] 0 [] ≡ turned_away 12)
unfolding rows_of tariff_number charged values_in schedule_fields read_fields allowed field_onto bits_of
no-schedule = (refl, refl)

-- ---- the worked example

-- 1.00 for a resource, 0.50 more from three parents on, 0.25 back for an extension line.
abbrev pub tariff : List ℤ
tariff = pos 0 ∷ pos 2 ∷ pos 100 ∷ pos 0 ∷ pos 3 ∷ pos 50 ∷ pos 2 ∷ pos 0 ∷ neg_ℤ (pos 25) ∷ []

pub tariff-allowed : tariff_number tariff ≡ 0
unfolding rows_of allowed_row tariff_number
tariff-allowed = refl

abbrev pub worked : Input
worked = record { settings = standard; call = schedule; sheet = worked_bytes; listing = lent 18; diagnosis = lent 1536 }

pub worked-accepted : (outcome worked).answer.number ≡ 0
unfolding run
worked-accepted = refl

pub worked-listed : Listed worked
worked-listed = listed-exactly worked refl worked-accepted

-- Its lines are charged 0.75.
pub worked-charged : charged tariff 4 (hex 16 0x06000200800080001090140802800010) ≡ record { number = 0; total = pos 75 }
unfolding rows_of allowed_row tariff_number charged values_in times name_fields parent_fields mark_fields marks_fields made_fields line_fields item_fields schedule_fields
    read_fields allowed field_onto odd to_bits bits_of bad_fill many name mark made line item taken_schedule sum charge total_of
worked-charged = refl

-- So they are by the lines of the sheet, in their order or in another.
pub worked-lines : MakesLines worked-listed.s (schedule_of schedule (type_map_of worked-listed.s)).items
worked-lines = record { lines = worked-listed.items.in_order.ordered.lines; once = worked-listed.items.once }

-- ---- relisted sheets

pub relisted-accepted : (outcome (asked schedule listed 40 1536)).answer.number ≡ 0
unfolding run
relisted-accepted = refl
