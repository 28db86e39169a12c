-- Tariffs and schedules on which the definitions are computed (FORMAT 13). Each case is a lemma of its own.
use Rattle.std.specs.Prelude.{List, [], ◌∷◌, ◌++◌, ◌≡◌, refl, ℕ, ℤ, pos, negsuc, replicate}
use Rattle.definitions.specs.Bits.{odd, to_bits, bits_of}
use Rattle.definitions.specs.Parse.{field_onto, allowed}
use Rattle.definitions.specs.Checks.{bad_fill}
use Rattle.definitions.specs.ScheduleFields.{times, name_fields, parent_fields, mark_fields, marks_fields, made_fields, line_fields}
use Rattle.definitions.specs.ScheduleFields.{item_fields, schedule_fields, read_fields}
use Rattle.definitions.specs.Cases.{hex}
use Rattle.tariff_definitions.specs.Decoded.{many, name, mark, made, line, item, schedule}
use Rattle.tariff_definitions.specs.Tariff.{rows_of, allowed_row, tariff_number, sum, charge, total_of, Charged, values_in, charged}

-- The answer, computed: who unfolds this unfolds every definition.
unfoldable answer : List ℤ → ℕ → List ℕ → Charged
unfolding odd to_bits bits_of field_onto allowed bad_fill times name_fields parent_fields mark_fields marks_fields made_fields line_fields item_fields
    schedule_fields read_fields many name mark made line item schedule rows_of allowed_row tariff_number sum charge total_of values_in charged
answer t W bytes = charged t W bytes

-- A row as three numbers.
abbrev row : ℕ → ℕ → ℤ → List ℤ
row sort number rate = pos sort ∷ pos number ∷ rate ∷ []

-- The sum of a tariff over a schedule.
abbrev Sums : List ℤ → ℕ → List ℕ → ℤ → Type 0
Sums t W bytes total = answer t W bytes ≡ record { number = 0; total = total }

-- A refusal, whose sum is 0.
abbrev Refuses : List ℤ → ℕ → List ℕ → ℕ → Type 0
Refuses t W bytes number = answer t W bytes ≡ record { number = number; total = pos 0 }

-- The schedule of base: a resource of two parents that is not virtual, and an extension line (FORMAT 9).
abbrev base : List ℕ
base = hex 16 0x06000200800080001090140802800010

-- An extension line, then a virtual resource of two parents, one of them of three words.
abbrev everything : List ℕ
everything = hex 22 0x04000080800140202820020209160002088180ffeff8

-- ---- what is charged

both-sorts : Sums (row 0 2 (pos 1250) ++ row 2 0 (pos 100)) 4 base (pos 1350)
unfolding answer
both-sorts = refl

-- a virtual resource is another sort
virtual-apart : Sums (row 0 2 (pos 1) ++ row 1 2 (pos 10) ++ row 2 0 (pos 100)) 5 everything (pos 110)
unfolding answer
virtual-apart = refl

-- an extension line is one whatever its flags
virtual-line : Sums (row 1 2 (pos 10) ++ row 2 0 (pos 100)) 2 (hex 6 0x000003006000) (pos 100)
unfolding answer
virtual-line = refl

-- a row reaches the items with at least as many parents
not-reached : Sums (row 0 2 (pos 1) ++ row 0 3 (pos 10)) 4 base (pos 1)
unfolding answer
not-reached = refl

-- every row that is reached charges, not the highest alone: a resource of three parents
all-reached : Sums (row 0 2 (pos 1) ++ row 0 3 (pos 10) ++ row 0 4 (pos 100)) 2 (hex 11 0x0000020000068020080000) (pos 11)
unfolding answer
all-reached = refl

-- parents are counted as they stand: both are one name
same-parents : Sums (row 0 2 (pos 1)) 2 (hex 10 0x00000200000480200000) (pos 1)
unfolding answer
same-parents = refl

-- two items alike
alike : Sums (row 0 2 (pos 1)) 2 (hex 17 0x0000040000048020200000002401010000) (pos 2)
unfolding answer
alike = refl

-- a credit
below-zero : Sums (row 0 2 (negsuc 4)) 4 base (negsuc 4)
unfolding answer
below-zero = refl

-- both signs
to-nothing : Sums (row 0 2 (pos 99999) ++ row 2 0 (negsuc 99998)) 4 base (pos 0)
unfolding answer
to-nothing = refl

-- rows in another order
other-order : Sums (row 2 0 (pos 100) ++ row 0 2 (pos 1250)) 4 base (pos 1350)
unfolding answer
other-order = refl

-- ---- the tests, in their order

-- too long, also where a row is broken
hundred : Refuses (replicate 100 (pos 0)) 4 base 14
unfolding answer
hundred = refl

-- a last row of two numbers, or of one
ninety-eight : Refuses (replicate 98 (pos 0)) 4 base 15
unfolding answer
ninety-eight = refl

broken : Refuses (row 0 2 (pos 1) ++ pos 0 ∷ []) 4 base 15
unfolding answer
broken = refl

broken-by-one : Refuses (row 0 2 (pos 1) ++ pos 0 ∷ pos 3 ∷ []) 4 base 15
unfolding answer
broken-by-one = refl

-- sorts that are none
sort-3 : Refuses (row 3 2 (pos 1)) 4 base 15
unfolding answer
sort-3 = refl

sort-below : Refuses (negsuc 0 ∷ pos 2 ∷ pos 1 ∷ []) 4 base 15
unfolding answer
sort-below = refl

-- the numbers of parents and one past each
parents-1 : Refuses (row 0 1 (pos 1)) 4 base 15
unfolding answer
parents-1 = refl

parents-17 : Sums (row 1 17 (pos 1)) 4 base (pos 0)
unfolding answer
parents-17 = refl

parents-18 : Refuses (row 1 18 (pos 1)) 4 base 15
unfolding answer
parents-18 = refl

line-parents : Refuses (row 2 2 (pos 1)) 4 base 15
unfolding answer
line-parents = refl

line-1 : Refuses (row 2 1 (pos 1)) 4 base 15
unfolding answer
line-1 = refl

-- rates past the limits
rate-above : Refuses (row 0 2 (pos 100000)) 4 base 15
unfolding answer
rate-above = refl

rate-below : Refuses (row 0 2 (negsuc 99999)) 4 base 15
unfolding answer
rate-below = refl

-- 15 before 16
fifteen-first : Refuses (row 0 2 (pos 1) ++ row 0 2 (pos 1) ++ row 2 0 (pos 100000)) 4 base 15
unfolding answer
fifteen-first = refl

-- two rows with one key, whatever their rates
twice : Refuses (row 0 2 (pos 1) ++ row 0 2 (pos 5)) 4 base 16
unfolding answer
twice = refl

two-sorts : Sums (row 0 2 (pos 1) ++ row 1 2 (pos 5)) 4 base (pos 1)
unfolding answer
two-sorts = refl

-- the tariff before W, and W before the schedule
tariff-first : Refuses (row 0 1 (pos 1)) 0 base 15
unfolding answer
tariff-first = refl

width-first : Refuses [] 0 [] 12
unfolding answer
width-first = refl

-- an empty tariff, and the schedule is read
empty : Sums [] 4 base (pos 0)
unfolding answer
empty = refl

empty-reads : Refuses [] 2 [] 11
unfolding answer
empty-reads = refl

-- no records are lent, so that a value comes before them
no_room : Refuses [] 2 (hex 1 0xff) 12
unfolding answer
no_room = refl

-- fill that is not zero, bytes that follow
fill : Refuses [] 2 (hex 3 0x000001) 12
unfolding answer
fill = refl

bytes-follow : Refuses [] 2 (hex 4 0x00000000) 12
unfolding answer
bytes-follow = refl

-- a schedule that is cut behind a charged item
cut : Refuses (row 0 2 (pos 1)) 4 (hex 15 0x060002008000800010901408028000) 11
unfolding answer
cut = refl
