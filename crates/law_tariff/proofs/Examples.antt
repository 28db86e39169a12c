-- The theorems on the tariffs of specs/Examples.antt, and on the largest sum.
use Rattle.std.specs.Prelude.{List, [], ◌∷◌, ◌≡◌, refl, ◌*◌, ◌≤◌, ℤ, pos, nat_abs, length, replicate}
use mathlib.Core.List.Permᴰ
use Rattle.std.proofs.Common.{ap, ◌∙◌, arith}
use Rattle.std.proofs.lemmas.List.{length-replicate}
use Rattle.definitions.specs.Map.{type_map_of}
use Rattle.definitions.specs.Answer.{schedule, schedule_of}
use Rattle.definitions.specs.Cases.{hex}
use Rattle.law_schedule.specs.Statements.{bytes_written}
use Rattle.law_schedule.specs.Examples.{everything, everything-legal, sized, at-limits-legal}
use Rattle.law_relisting.proofs.Examples.{asked, listed, relisted, both}
use Rattle.law_records.specs.Statements.{schedule_bytes}
use Rattle.tariff_definitions.specs.Tariff.{TariffRow, rows_of, total_of, Charged, charged}
use Rattle.law_tariff.specs.Statements.{numbers_of, LegalTariff, accepts, IsCharged}
use Rattle.law_tariff.proofs.Charged.{legal-sum, only-legal}
use Rattle.law_tariff.proofs.Tariffs.{tariff-numbers, tariff-accepted}
use Rattle.law_tariff.proofs.Promises.{any-row-order, from-the-sheet, relisted-totals}
use Rattle.law_tariff.proofs.Bounds.{fits}
use Rattle.law_tariff.specs.Examples.{full, full-accepted, empty-accepted, equal-items, largest_item, sixteen-rows, tariff, tariff-allowed, worked, worked-accepted, worked-listed, worked-charged, worked-lines, relisted-accepted}

-- ---- a tariff at every limit

full-legal : LegalTariff (full (pos 99999))
full-legal = (tariff-accepted (full (pos 99999))).0 full-accepted.0

empty-charged : charged [] 5 (schedule_bytes everything) ≡ accepts [] everything.items
empty-charged = legal-sum [] 5 everything empty-accepted everything-legal

-- ---- the largest sum

-- The largest schedule is charged as much as any sum can be.
largest-charged : charged (full (pos 99999)) 200 (schedule_bytes (sized 64 65535 17 448)) ≡ record { number = 0; total = pos (65535 * 16 * 99999) }
unfolding sized
largest-charged =
    legal-sum (full (pos 99999)) 200 (sized 64 65535 17 448) full-accepted.0 at-limits-legal
    ∙ ap (λ z. record { number = 0; total = z }) (equal-items (rows_of (full (pos 99999))) largest_item (16 * 99999) 65535 sixteen-rows)

largest-fits : nat_abs (total_of (rows_of (full (pos 99999))) (replicate 65535 largest_item)) ≤ 65535 * 16 * 99999
largest-fits =
    fits (full (pos 99999)) (replicate 65535 largest_item) full-accepted.0 (omega (arith, length-replicate 65535 largest_item))

-- ---- every refusal

-- A number too many, whatever else is wrong with the tariff and the schedule.
too_long : (charged (replicate 100 (pos 0)) 0 []).number ≡ 14
too_long = (tariff-numbers (replicate 100 (pos 0)) 0 []).fourteen.1 (omega (arith, length-replicate 100 (pos 0)))

-- ---- the worked example

worked-from-sheet : charged tariff (length worked-listed.s.words) (bytes_written worked)
    ≡ accepts tariff (schedule_of schedule (type_map_of worked-listed.s)).items
worked-from-sheet =
    from-the-sheet tariff worked worked-listed.s (schedule_of schedule (type_map_of worked-listed.s)).items
    tariff-allowed refl worked-accepted worked-listed.holds worked-lines

-- What is charged is the bytes of a legal schedule.
worked-legal : IsCharged tariff 4 (hex 16 0x06000200800080001090140802800010)
worked-legal = only-legal tariff 4 (hex 16 0x06000200800080001090140802800010) (omega arith) (ap (λ (c : Charged). c.number) worked-charged)

-- Two rows and a broken one, in either order.
either_order : charged (pos 2 ∷ pos 0 ∷ pos 1 ∷ pos 0 ∷ pos 2 ∷ pos 3 ∷ pos 0 ∷ []) 0 [] ≡ charged (pos 0 ∷ pos 2 ∷ pos 3 ∷ pos 2 ∷ pos 0 ∷ pos 1 ∷ pos 0 ∷ []) 0 []
unfolding numbers_of
either_order =
    let lines : TariffRow = record { sort = pos 2; number = pos 0; rate = pos 1 } in
    let made : TariffRow = record { sort = pos 0; number = pos 2; rate = pos 3 } in
    any-row-order (lines ∷ made ∷ []) (made ∷ lines ∷ []) (pos 0 ∷ []) 0 [] (Permᴰ.swap refl refl) (omega arith)

-- ---- relisted sheets

relisted-alike : (t : List ℤ) → charged t (length (both schedule 40 1536).s.words) (bytes_written (asked schedule listed 40 1536))
    ≡ charged t (length (both schedule 40 1536).t.words) (bytes_written (asked schedule relisted 40 1536))
relisted-alike t = relisted-totals t (asked schedule listed 40 1536) (asked schedule relisted 40 1536) (both schedule 40 1536) relisted-accepted
