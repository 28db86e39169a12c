-- For each number a concrete sheet, through both calls: the number is computed, and the statement gives its condition; or the
-- condition is shown, and the statement gives the number.
use Rattle.std.specs.Prelude.{true, false, List, [], ◌∷◌, ◌≡◌, refl, ℕ, ◌≤◌, ◌<◌, length, replicate}
use Rattle.std.proofs.Common.{sym, subst, lit≤, lit<}
use Rattle.std.proofs.lemmas.List.{length-replicate}
use Rattle.definitions.specs.Records.{Name, associate, Annotation, Variant, domain, resource, TypeInfo, Sheet}
use Rattle.definitions.specs.Bits.{bits_of}
use Rattle.definitions.specs.Reading.{sheet}
use Rattle.definitions.specs.Checks.{resource_bytes, self_bytes}
use Rattle.definitions.specs.Ancestry.{HasOrder}
use Rattle.definitions.specs.Answer.{Call, schedule, order, Input, standard, rest_of, outcome}
use Rattle.definitions.specs.Relisted.{Holds}
use Rattle.definitions.specs.Cases.{hex, lent, run}
use Rattle.law_reading.specs.Statements.{test1, test17, test2, test3, test4, test5, test6, test7, PastSheetTests, limited}
use Rattle.law_refusals.specs.Statements.{SomeRefused, NoneRefused, schedule_size, order_size, ScheduleExactlyIf, OrderExactlyIf, rows_written, FirstOf}
use Rattle.law_refusals.proofs.Exactly.{schedule-of-sheet, order-of-sheet, schedule-exactly, order-exactly}
use Rattle.law_refusals.proofs.Fewer.{fewer-rows}

abbrev asked : Call → List ℕ → ℕ → ℕ → Input
asked c bytes l d = record { settings = standard; call = c; sheet = bytes; listing = lent l; diagnosis = lent d }

abbrev number : Input → ℕ
number i = (outcome i).answer.number

by-schedule : (bytes : List ℕ) (l d : ℕ) → ScheduleExactlyIf (asked schedule bytes l d)
by-schedule bytes l d = schedule-exactly (asked schedule bytes l d) refl

by_order : (bytes : List ℕ) (l d : ℕ) → OrderExactlyIf (asked order bytes l d)
by_order bytes l d = order-exactly (asked order bytes l d) refl

-- ---- 1 to 7

-- 40,961 bytes
abbrev long : List ℕ
long = replicate 40961 0

one : (test1 (asked schedule long 4 1536) ≡ true) × (test1 (asked order long 4 1536) ≡ true)
unfolding run
one = ((by-schedule long 4 1536).sheet-tests.one.0 refl, (by_order long 4 1536).sheet-tests.one.0 refl)

-- domain a
--   associate f
-- resource f
abbrev good : List ℕ
good = hex 28 0x1040b085990e4cae6deeae4c6ca473656c6604000012202002400000

-- a diagnosis slice of 1,535 bytes
two : (test2 (asked schedule good 16 1535) ≡ true) × (test2 (asked order good 16 1535) ≡ true)
unfolding run
two = (((by-schedule good 16 1535).sheet-tests.two.0 refl).1, ((by_order good 16 1535).sheet-tests.two.0 refl).1)

-- limits of 0 and 257 rows
seventeen : (test17 (limited 0 (asked schedule good 16 1536)) ≡ true) × (test17 (limited 257 (asked order good 16 1542)) ≡ true)
unfolding run
seventeen = (
  ((schedule-exactly (limited 0 (asked schedule good 16 1536)) refl).sheet-tests.seventeen.0 refl).1,
  ((order-exactly (limited 257 (asked order good 16 1542)) refl).sheet-tests.seventeen.0 refl).1,
)

-- a limit of 64 rows and 383 bytes
two-limited : test2 (limited 64 (asked schedule good 16 383)) ≡ true
unfolding run
two-limited = ((schedule-exactly (limited 64 (asked schedule good 16 383)) refl).sheet-tests.two.0 refl).1

-- an empty sheet
three : (test3 (asked schedule [] 2 1536) ≡ true) × (test3 (asked order [] 2 1536) ≡ true)
unfolding run
three = (((by-schedule [] 2 1536).sheet-tests.three.0 refl).1, ((by_order [] 2 1536).sheet-tests.three.0 refl).1)

-- version 2
abbrev version2 : List ℕ
version2 = hex 17 0x20243932b9b7bab931b291cd95b1980000

four : (test4 (asked schedule version2 2 1536) ≡ true) × (test4 (asked order version2 2 1536) ≡ true)
unfolding run
four = (((by-schedule version2 2 1536).sheet-tests.four.0 refl).1, ((by_order version2 2 1536).sheet-tests.four.0 refl).1)

-- words! self resource
abbrev unordered : List ℕ
unordered = hex 17 0x102239b2b63321c995cdbdd5c98d940000

five : (test5 (asked schedule unordered 2 1536) ≡ true) × (test5 (asked order unordered 2 1536) ≡ true)
unfolding run
five = (((by-schedule unordered 2 1536).sheet-tests.five.0 refl).1, ((by_order unordered 2 1536).sheet-tests.five.0 refl).1)

-- domain a
-- domain a
abbrev twice : List ℕ
twice = hex 24 0x1030b0a1c995cdbdd5c98d948e6cad8cc080000000000000

six : (test6 (asked schedule twice 2 1536) ≡ true) × (test6 (asked order twice 2 1536) ≡ true)
unfolding run
six = (((by-schedule twice 2 1536).sheet-tests.six.0 refl).1, ((by_order twice 2 1536).sheet-tests.six.0 refl).1)

-- the good sheet and 00
abbrev longer : List ℕ
longer = hex 29 0x1040b085990e4cae6deeae4c6ca473656c660400001220200240000000

seven : (test7 (asked schedule longer 2 1536) ≡ true) × (test7 (asked order longer 2 1536) ≡ true)
unfolding run
seven = (((by-schedule longer 2 1536).sheet-tests.seven.0 refl).1, ((by_order longer 2 1536).sheet-tests.seven.0 refl).1)

-- ---- sheets that pass them

abbrev type : ℕ → Variant → List Name → List Annotation → TypeInfo
type w v ps xs = record { name = w ∷ []; variant = v; virtual = false; trait = false; parents = ps; annotations = xs; marks = [] }

-- the word 1 associated
abbrev associates : List Annotation
associates = associate (record { word = 1; dom = [] } ∷ []) ∷ []

-- the words `a` and another letter, `resource`, `self`
abbrev sheet_with : ℕ → List TypeInfo → Sheet
sheet_with letter ts = record { words = (97 ∷ []) ∷ (letter ∷ []) ∷ resource_bytes ∷ self_bytes ∷ []; types = ts; extensions = [] }

past : (c : Call) (l : ℕ) {bytes : List ℕ} {s : Sheet} → Holds bytes s → PastSheetTests (asked c bytes l 1536) s
past c l h = record { held = h; fit = record { some = lit< tt; few = lit≤ tt; room = lit≤ tt } }

-- ---- 8

-- domain a : a
--   associate b
-- 8 goes before 9, which the undeclared class would give
abbrev cyclic_bytes : List ℕ
cyclic_bytes = hex 26 0x1040b085890e4cae6deeae4c6ca473656c660200010009101000

abbrev cyclic : Sheet
cyclic = sheet_with 98 (type 0 domain ((0 ∷ []) ∷ []) associates ∷ [])

cyclic-holds : Holds cyclic_bytes cyclic
unfolding run
cyclic-holds = record { rest = rest_of (sheet (bits_of cyclic_bytes)); short = lit≤ tt; read = refl; fill = refl; words = refl; once = refl }

eight : HasOrder cyclic → ⊥
unfolding run
eight = (schedule-of-sheet (asked schedule cyclic_bytes 2 1536) cyclic refl (past schedule 2 cyclic-holds)).eight.0 refl

-- whatever the length of the listing
eight-answered : (l : ℕ) → (number (asked schedule cyclic_bytes l 1536) ≡ 8) × (number (asked order cyclic_bytes l 1536) ≡ 8)
eight-answered l =
    ((by-schedule cyclic_bytes l 1536).eight.1 (cyclic, past schedule l cyclic-holds, eight), (by_order cyclic_bytes l 1536).eight.1 (cyclic, past order l cyclic-holds, eight))

-- ---- fewer rows

-- domain a : b
-- domain b : a
abbrev each-other : List ℕ
each-other = hex 28 0x1040b085890e4cae6deeae4c6ca473656c6604000101000100800000

-- two rows under a limit of 256, the first of them under one of 1
fewer : FirstOf 1 (outcome (limited 1 (asked order each-other 2 1536))) (outcome (limited 256 (asked order each-other 2 1536)))
fewer =
    fewer-rows (asked order each-other 2 1536) 1 256 (lit< tt) (lit≤ tt)
    (record { some = lit< tt; few = lit≤ tt; room = lit≤ tt })

fewer-written : (rows_written (outcome (limited 256 (asked order each-other 2 1536))) ≡ hex 12 0x0201ff00ffff0200ff01ffff)
    × (rows_written (outcome (limited 1 (asked order each-other 2 1536))) ≡ hex 6 0x0201ff00ffff)
unfolding run
fewer-written = (refl, refl)

fewer-flags : ((outcome (limited 256 (asked order each-other 2 1536))).answer.more ≡ false) × ((outcome (limited 1 (asked order each-other 2 1536))).answer.more ≡ true)
unfolding run
fewer-flags = (refl, refl)

-- ---- 9

-- domain a
--   associate b
abbrev lost_bytes : List ℕ
lost_bytes = hex 25 0x1040b085890e4cae6deeae4c6ca473656c6602000012202000

abbrev lost : Sheet
lost = sheet_with 98 (type 0 domain [] associates ∷ [])

lost-holds : Holds lost_bytes lost
unfolding run
lost-holds = record { rest = rest_of (sheet (bits_of lost_bytes)); short = lit≤ tt; read = refl; fill = refl; words = refl; once = refl }

nine : HasOrder lost × SomeRefused lost
unfolding run
nine = (schedule-of-sheet (asked schedule lost_bytes 2 1536) lost refl (past schedule 2 lost-holds)).nine.0 refl

-- whatever the length of the listing; the order-only call never
nine-answered : (l : ℕ) → (number (asked schedule lost_bytes l 1536) ≡ 9) × (number (asked order lost_bytes l 1536) ≡ 9 → ⊥)
nine-answered l = ((by-schedule lost_bytes l 1536).nine.1 (lost, past schedule l lost-holds, nine.0, nine.1), (by_order lost_bytes l 1536).nine)

-- ---- 10 and acceptance

abbrev good_sheet : Sheet
good_sheet = sheet_with 102 (type 0 domain [] associates ∷ type 1 resource [] [] ∷ [])

good-holds : Holds good good_sheet
unfolding run
good-holds = record { rest = rest_of (sheet (bits_of good)); short = lit≤ tt; read = refl; fill = refl; words = refl; once = refl }

accepted : HasOrder good_sheet × NoneRefused good_sheet × (schedule_size good_sheet ≤ length (lent 16))
unfolding run
accepted = (schedule-of-sheet (asked schedule good 16 1536) good_sheet refl (past schedule 16 good-holds)).accepted.0 refl

sizes : (schedule_size good_sheet ≡ 15) × (order_size good_sheet ≡ 4)
unfolding run
sizes = (refl, refl)

-- the schedule call writes 15 bytes: 10 up to a listing of 14, and 0 from 15 on
schedule-ten : (l : ℕ) → l < 15 → number (asked schedule good l 1536) ≡ 10
schedule-ten l h =
    (schedule-of-sheet (asked schedule good l 1536) good_sheet refl (past schedule l good-holds)).ten.1
    (accepted.0, accepted.1, subst (λ n. n < schedule_size good_sheet) (sym (length-replicate l 170)) (subst (λ n. l < n) (sym sizes.0) h))

schedule-accepts : (l : ℕ) → 15 ≤ l → number (asked schedule good l 1536) ≡ 0
schedule-accepts l h =
    (schedule-of-sheet (asked schedule good l 1536) good_sheet refl (past schedule l good-holds)).accepted.1
    (accepted.0, accepted.1, subst (λ n. schedule_size good_sheet ≤ n) (sym (length-replicate l 170)) (subst (λ n. n ≤ l) (sym sizes.0) h))

-- the order-only call writes 4
order-ten : (l : ℕ) → l < 4 → number (asked order good l 1536) ≡ 10
order-ten l h =
    (order-of-sheet (asked order good l 1536) good_sheet refl (past order l good-holds)).ten.1
    (accepted.0, subst (λ n. n < order_size good_sheet) (sym (length-replicate l 170)) (subst (λ n. l < n) (sym sizes.1) h))

order-accepts : (l : ℕ) → 4 ≤ l → number (asked order good l 1536) ≡ 0
order-accepts l h =
    (order-of-sheet (asked order good l 1536) good_sheet refl (past order l good-holds)).accepted.1
    (accepted.0, subst (λ n. order_size good_sheet ≤ n) (sym (length-replicate l 170)) (subst (λ n. n ≤ l) (sym sizes.1) h))
