-- The examples of the refusals (FORMAT 7.2) and the corners of the rules in one list, and the theorem that they come out.
-- Made by tools/cases. Above each sheet stands its readable text, and behind `=>` what the schedule program prints for it, or
-- the order program where only the order-only call is tried.
use Rattle.std.specs.Prelude.{true, false, List, [], ◌∷◌, refl, ℕ, replicate}
use Rattle.definitions.specs.Answer.{schedule, order}
use Rattle.definitions.specs.Cases.{Case, ComesOut, AllComeOut, ◌also◌, run, hex, times}
use Rattle.definitions.specs.Cases.{accepts, refuses, diagnoses, needs, under}

-- 1: 40,961 zero bytes
abbrev refusal1 : List ℕ
refusal1 = replicate 40961 0

abbrev refusal1-schedule : Case
refusal1-schedule = refuses refusal1 schedule 4 1536 1

refusal1-schedule-comes-out : ComesOut refusal1-schedule
unfolding run
refusal1-schedule-comes-out = refl

abbrev refusal1-order : Case
refusal1-order = refuses refusal1 order 4 1536 1

refusal1-order-comes-out : ComesOut refusal1-order
unfolding run
refusal1-order-comes-out = refl

-- 2: a diagnosis slice of 1,535 bytes
--     domain a
--       associate f
--     resource f
abbrev refusal2 : List ℕ
refusal2 = hex 28 0x1040b085990e4cae6deeae4c6ca473656c6604000012202002400000

abbrev refusal2-schedule : Case
refusal2-schedule = refuses refusal2 schedule 64 1535 2

refusal2-schedule-comes-out : ComesOut refusal2-schedule
unfolding run
refusal2-schedule-comes-out = refl

abbrev refusal2-order : Case
refusal2-order = refuses refusal2 order 64 1535 2

refusal2-order-comes-out : ComesOut refusal2-order
unfolding run
refusal2-order-comes-out = refl

-- 3: the empty sheet
--   => refused 3
abbrev refusal3 : List ℕ
refusal3 = hex 0 0x0

abbrev refusal3-schedule : Case
refusal3-schedule = refuses refusal3 schedule 2 1536 3

refusal3-schedule-comes-out : ComesOut refusal3-schedule
unfolding run
refusal3-schedule-comes-out = refl

abbrev refusal3-order : Case
refusal3-order = refuses refusal3 order 2 1536 3

refusal3-order-comes-out : ComesOut refusal3-order
unfolding run
refusal3-order-comes-out = refl

-- 4: version 2
--     version 2
--   => refused 4
abbrev refusal4 : List ℕ
refusal4 = hex 17 0x20243932b9b7bab931b291cd95b1980000

abbrev refusal4-schedule : Case
refusal4-schedule = refuses refusal4 schedule 2 1536 4

refusal4-schedule-comes-out : ComesOut refusal4-schedule
unfolding run
refusal4-schedule-comes-out = refl

abbrev refusal4-order : Case
refusal4-order = refuses refusal4 order 2 1536 4

refusal4-order-comes-out : ComesOut refusal4-order
unfolding run
refusal4-order-comes-out = refl

-- 5: words `self`, `resource`
--     words! self resource
--   => refused 5
abbrev refusal5 : List ℕ
refusal5 = hex 17 0x102239b2b63321c995cdbdd5c98d940000

abbrev refusal5-schedule : Case
refusal5-schedule = refuses refusal5 schedule 2 1536 5

refusal5-schedule-comes-out : ComesOut refusal5-schedule
unfolding run
refusal5-schedule-comes-out = refl

abbrev refusal5-order : Case
refusal5-order = refuses refusal5 order 2 1536 5

refusal5-order-comes-out : ComesOut refusal5-order
unfolding run
refusal5-order-comes-out = refl

-- 6: two types `a`
--     domain a
--     domain a
--   => refused 6
abbrev refusal6 : List ℕ
refusal6 = hex 24 0x1030b0a1c995cdbdd5c98d948e6cad8cc080000000000000

abbrev refusal6-schedule : Case
refusal6-schedule = refuses refusal6 schedule 2 1536 6

refusal6-schedule-comes-out : ComesOut refusal6-schedule
unfolding run
refusal6-schedule-comes-out = refl

abbrev refusal6-order : Case
refusal6-order = refuses refusal6 order 2 1536 6

refusal6-order-comes-out : ComesOut refusal6-order
unfolding run
refusal6-order-comes-out = refl

-- 7: a sheet that would pass, and a zero byte
--   => refused 7
abbrev refusal7 : List ℕ
refusal7 = hex 29 0x1040b085990e4cae6deeae4c6ca473656c660400001220200240000000

abbrev refusal7-schedule : Case
refusal7-schedule = refuses refusal7 schedule 2 1536 7

refusal7-schedule-comes-out : ComesOut refusal7-schedule
unfolding run
refusal7-schedule-comes-out = refl

abbrev refusal7-order : Case
refusal7-order = refuses refusal7 order 2 1536 7

refusal7-order-comes-out : ComesOut refusal7-order
unfolding run
refusal7-order-comes-out = refl

-- 8: `a` is its own parent
--     domain a : a
--   => refused 8; D 2 a a -
abbrev refusal8 : List ℕ
refusal8 = hex 23 0x1030b0a1c995cdbdd5c98d948e6cad8cc0400020000000

abbrev refusal8-schedule : Case
refusal8-schedule = diagnoses refusal8 schedule 2 1536 8 1 false (hex 6 0x0200ff00ffff)

refusal8-schedule-comes-out : ComesOut refusal8-schedule
unfolding run
refusal8-schedule-comes-out = refl

abbrev refusal8-order : Case
refusal8-order = diagnoses refusal8 order 2 1536 8 1 false (hex 6 0x0200ff00ffff)

refusal8-order-comes-out : ComesOut refusal8-order
unfolding run
refusal8-order-comes-out = refl

-- 9: `a` associates `b`, which is not declared; the order-only call accepts it
--     domain a
--       associate b
--   => refused 9; D 4 a b b
abbrev refusal9 : List ℕ
refusal9 = hex 25 0x1040b085890e4cae6deeae4c6ca473656c6602000012202000

abbrev refusal9-schedule : Case
refusal9-schedule = diagnoses refusal9 schedule 2 1536 9 1 false (hex 6 0x0400ff01ff01)

refusal9-schedule-comes-out : ComesOut refusal9-schedule
unfolding run
refusal9-schedule-comes-out = refl

abbrev refusal9-order : Case
refusal9-order = accepts refusal9 order 4 1536 2 0x0200

refusal9-order-comes-out : ComesOut refusal9-order
unfolding run
refusal9-order-comes-out = refl

-- 10: a listing of 0 bytes
--     domain a
--       associate f
--     resource f
abbrev refusal10 : List ℕ
refusal10 = hex 28 0x1040b085990e4cae6deeae4c6ca473656c6604000012202002400000

abbrev refusal10-schedule : Case
refusal10-schedule = needs refusal10 schedule 0 1536 15

refusal10-schedule-comes-out : ComesOut refusal10-schedule
unfolding run
refusal10-schedule-comes-out = refl

abbrev refusal10-order : Case
refusal10-order = needs refusal10 order 0 1536 4

refusal10-order-comes-out : ComesOut refusal10-order
unfolding run
refusal10-order-comes-out = refl

-- a listing that the schedule fills
--     domain a
--       associate f
--     resource f
abbrev fits : List ℕ
fits = hex 28 0x1040b085990e4cae6deeae4c6ca473656c6604000012202002400000

abbrev fits-schedule : Case
fits-schedule = accepts fits schedule 16 1536 15 0x040001000100002120281002000040

fits-schedule-comes-out : ComesOut fits-schedule
unfolding run
fits-schedule-comes-out = refl

-- a listing one byte short
--     domain a
--       associate f
--     resource f
abbrev one_short : List ℕ
one_short = hex 28 0x1040b085990e4cae6deeae4c6ca473656c6604000012202002400000

abbrev one_short-schedule : Case
one_short-schedule = accepts one_short schedule 15 1536 15 0x040001000100002120281002000040

one_short-schedule-comes-out : ComesOut one_short-schedule
unfolding run
one_short-schedule-comes-out = refl

-- a listing that the order fills
--     domain a
--       associate f
--     resource f
abbrev order_fits : List ℕ
order_fits = hex 28 0x1040b085990e4cae6deeae4c6ca473656c6604000012202002400000

abbrev order_fits-order : Case
order_fits-order = accepts order_fits order 4 1536 4 0x04000100

order_fits-order-comes-out : ComesOut order_fits-order
unfolding run
order_fits-order-comes-out = refl

-- a listing one byte short for the order
--     domain a
--       associate f
--     resource f
abbrev order_one_short : List ℕ
order_one_short = hex 28 0x1040b085990e4cae6deeae4c6ca473656c6604000012202002400000

abbrev order_one_short-order : Case
order_one_short-order = needs order_one_short order 3 1536 4

order_one_short-order-comes-out : ComesOut order_one_short-order
unfolding run
order_one_short-order-comes-out = refl

-- 40,960 bytes are not too many
abbrev longest_sheet : List ℕ
longest_sheet = replicate 40960 0

abbrev longest_sheet-order : Case
longest_sheet-order = refuses longest_sheet order 4 1536 4

longest_sheet-order-comes-out : ComesOut longest_sheet-order
unfolding run
longest_sheet-order-comes-out = refl

-- 1 before 2
abbrev first1 : List ℕ
first1 = replicate 40961 0

abbrev first1-order : Case
first1-order = refuses first1 order 0 0 1

first1-order-comes-out : ComesOut first1-order
unfolding run
first1-order-comes-out = refl

-- 2 before 3
abbrev first2 : List ℕ
first2 = hex 0 0x0

abbrev first2-order : Case
first2-order = refuses first2 order 0 0 2

first2-order-comes-out : ComesOut first2-order
unfolding run
first2-order-comes-out = refl

-- 7 before 5
--   => refused 7
abbrev first7 : List ℕ
first7 = hex 25 0x103239b2b63321c995cdbdd5c98d942c208080000080000000

abbrev first7-order : Case
first7-order = refuses first7 order 2 1536 7

first7-order-comes-out : ComesOut first7-order
unfolding run
first7-order-comes-out = refl

-- 5 before 6
--     words! self resource a
--     domain a
--     domain a
--   => refused 5
abbrev first5 : List ℕ
first5 = hex 24 0x103239b2b63321c995cdbdd5c98d942c2080800000800000

abbrev first5-order : Case
first5-order = refuses first5 order 2 1536 5

first5-order-comes-out : ComesOut first5-order
unfolding run
first5-order-comes-out = refl

-- 6 before 8
--     domain a : a
--     domain a : a
--   => refused 6
abbrev first6 : List ℕ
first6 = hex 27 0x1030b0a1c995cdbdd5c98d948e6cad8cc080002000000010000000

abbrev first6-order : Case
first6-order = refuses first6 order 2 1536 6

first6-order-comes-out : ComesOut first6-order
unfolding run
first6-order-comes-out = refl

-- 8 before 9 and 10
--     domain a : a
--       associate b
abbrev first8 : List ℕ
first8 = hex 26 0x1040b085890e4cae6deeae4c6ca473656c660200010009101000

abbrev first8-schedule : Case
first8-schedule = diagnoses first8 schedule 0 1536 8 1 false (hex 6 0x0200ff00ffff)

first8-schedule-comes-out : ComesOut first8-schedule
unfolding run
first8-schedule-comes-out = refl

-- 9 before 10
--     domain a
--       associate b
abbrev first9 : List ℕ
first9 = hex 25 0x1040b085890e4cae6deeae4c6ca473656c6602000012202000

abbrev first9-schedule : Case
first9-schedule = diagnoses first9 schedule 0 1536 9 1 false (hex 6 0x0400ff01ff01)

first9-schedule-comes-out : ComesOut first9-schedule
unfolding run
first9-schedule-comes-out = refl

-- 17: a limit of 0 rows
--     domain a
--       associate f
--     resource f
abbrev refusal17 : List ℕ
refusal17 = hex 28 0x1040b085990e4cae6deeae4c6ca473656c6604000012202002400000

abbrev refusal17-schedule : Case
refusal17-schedule = under 0 (refuses refusal17 schedule 64 1536 17)

refusal17-schedule-comes-out : ComesOut refusal17-schedule
unfolding run
refusal17-schedule-comes-out = refl

abbrev refusal17-order : Case
refusal17-order = under 0 (refuses refusal17 order 64 1536 17)

refusal17-order-comes-out : ComesOut refusal17-order
unfolding run
refusal17-order-comes-out = refl

-- 17: a limit of 257 rows
--     domain a
--       associate f
--     resource f
abbrev limit257 : List ℕ
limit257 = hex 28 0x1040b085990e4cae6deeae4c6ca473656c6604000012202002400000

abbrev limit257-schedule : Case
limit257-schedule = under 257 (refuses limit257 schedule 64 1542 17)

limit257-schedule-comes-out : ComesOut limit257-schedule
unfolding run
limit257-schedule-comes-out = refl

abbrev limit257-order : Case
limit257-order = under 257 (refuses limit257 order 64 1542 17)

limit257-order-comes-out : ComesOut limit257-order
unfolding run
limit257-order-comes-out = refl

-- 1 before 17
abbrev first1_limit : List ℕ
first1_limit = replicate 40961 0

abbrev first1_limit-schedule : Case
first1_limit-schedule = under 0 (refuses first1_limit schedule 4 1536 1)

first1_limit-schedule-comes-out : ComesOut first1_limit-schedule
unfolding run
first1_limit-schedule-comes-out = refl

abbrev first1_limit-order : Case
first1_limit-order = under 0 (refuses first1_limit order 4 1536 1)

first1_limit-order-comes-out : ComesOut first1_limit-order
unfolding run
first1_limit-order-comes-out = refl

-- 17 before 2
--     domain a
--       associate f
--     resource f
abbrev first17 : List ℕ
first17 = hex 28 0x1040b085990e4cae6deeae4c6ca473656c6604000012202002400000

abbrev first17-schedule : Case
first17-schedule = under 0 (refuses first17 schedule 64 0 17)

first17-schedule-comes-out : ComesOut first17-schedule
unfolding run
first17-schedule-comes-out = refl

abbrev first17-order : Case
first17-order = under 0 (refuses first17 order 64 0 17)

first17-order-comes-out : ComesOut first17-order
unfolding run
first17-order-comes-out = refl

-- 17 before 2: six times the largest limit that C can give
--     domain a
--       associate f
--     resource f
abbrev largest_limit : List ℕ
largest_limit = hex 28 0x1040b085990e4cae6deeae4c6ca473656c6604000012202002400000

abbrev largest_limit-schedule : Case
largest_limit-schedule = under 4294967295 (refuses largest_limit schedule 64 0 17)

largest_limit-schedule-comes-out : ComesOut largest_limit-schedule
unfolding run
largest_limit-schedule-comes-out = refl

abbrev largest_limit-order : Case
largest_limit-order = under 4294967295 (refuses largest_limit order 64 0 17)

largest_limit-order-comes-out : ComesOut largest_limit-order
unfolding run
largest_limit-order-comes-out = refl

-- 2: 64 rows need 384 bytes
--     domain a
--       associate f
--     resource f
abbrev limit64_short : List ℕ
limit64_short = hex 28 0x1040b085990e4cae6deeae4c6ca473656c6604000012202002400000

abbrev limit64_short-schedule : Case
limit64_short-schedule = under 64 (refuses limit64_short schedule 64 383 2)

limit64_short-schedule-comes-out : ComesOut limit64_short-schedule
unfolding run
limit64_short-schedule-comes-out = refl

abbrev limit64_short-order : Case
limit64_short-order = under 64 (refuses limit64_short order 64 383 2)

limit64_short-order-comes-out : ComesOut limit64_short-order
unfolding run
limit64_short-order-comes-out = refl

-- 384 bytes suffice for 64 rows
--     domain a
--       associate f
--     resource f
abbrev limit64 : List ℕ
limit64 = hex 28 0x1040b085990e4cae6deeae4c6ca473656c6604000012202002400000

abbrev limit64-schedule : Case
limit64-schedule = under 64 (accepts limit64 schedule 16 384 15 0x040001000100002120281002000040)

limit64-schedule-comes-out : ComesOut limit64-schedule
unfolding run
limit64-schedule-comes-out = refl

-- one row of two
--     domain a : b
--     domain b : a
abbrev limit1 : List ℕ
limit1 = hex 28 0x1040b085890e4cae6deeae4c6ca473656c6604000101000100800000

abbrev limit1-schedule : Case
limit1-schedule = under 1 (diagnoses limit1 schedule 4 8 8 1 true (hex 6 0x0201ff00ffff))

limit1-schedule-comes-out : ComesOut limit1-schedule
unfolding run
limit1-schedule-comes-out = refl

abbrev limit1-order : Case
limit1-order = under 1 (diagnoses limit1 order 4 8 8 1 true (hex 6 0x0201ff00ffff))

limit1-order-comes-out : ComesOut limit1-order
unfolding run
limit1-order-comes-out = refl

-- 63 rows under a limit of 64
--     domain q : zz
--     domain p : q q q q q q q q
--     domain t : p p p p p p
--     domain v : q q q q q q
abbrev rows63 : List ℕ
rows63 = hex 62 0x1070b805c50e4cae6deeae4c6ca473656c660ba05d84f4f41004020c00000801008040201008040200080600000000000000002818040201008040200000

abbrev rows63-order : Case
rows63-order = under 64 (diagnoses rows63 order 4 390 8 63 false (times 63 (hex 6 0x0301ff06ffff)))

rows63-order-comes-out : ComesOut rows63-order
unfolding run
rows63-order-comes-out = refl

-- 64 rows under a limit of 64: the flag is not set
--     domain q : zz
--     domain p : q q q q q q q q
--     domain t : p p p p p p
--     domain v : q q q q q q q
abbrev rows64 : List ℕ
rows64 = hex 63 0x1070b805c50e4cae6deeae4c6ca473656c660ba05d84f4f41004020c0000080100804020100804020008060000000000000000281c04020100804020100000

abbrev rows64-schedule : Case
rows64-schedule = under 64 (diagnoses rows64 schedule 4 390 8 64 false (times 64 (hex 6 0x0301ff06ffff)))

rows64-schedule-comes-out : ComesOut rows64-schedule
unfolding run
rows64-schedule-comes-out = refl

abbrev rows64-order : Case
rows64-order = under 64 (diagnoses rows64 order 4 390 8 64 false (times 64 (hex 6 0x0301ff06ffff)))

rows64-order-comes-out : ComesOut rows64-order
unfolding run
rows64-order-comes-out = refl

-- 65 rows under a limit of 64: the flag is set
--     domain q : zz
--     domain p : q q q q q q q q
--     domain t : p p p p p p
--     domain v : q q q q q q q q
abbrev rows65 : List ℕ
rows65 = hex 64 0x1070b805c50e4cae6deeae4c6ca473656c660ba05d84f4f41004020c000008010080402010080402000806000000000000000028200402010080402010080000

abbrev rows65-schedule : Case
rows65-schedule = under 64 (diagnoses rows65 schedule 4 390 8 64 true (times 64 (hex 6 0x0301ff06ffff)))

rows65-schedule-comes-out : ComesOut rows65-schedule
unfolding run
rows65-schedule-comes-out = refl

abbrev rows65-order : Case
rows65-order = under 64 (diagnoses rows65 order 4 390 8 64 true (times 64 (hex 6 0x0301ff06ffff)))

rows65-order-comes-out : ComesOut rows65-order
unfolding run
rows65-order-comes-out = refl

-- one row of 9 of two
--     domain d
--     resource f
--     domain a
--       associate d zz
abbrev limit1_nine : List ℕ
limit1_nine = hex 36 0x1060b085902cc87265736f75726365239b2b63309e9e8180800001100000000490081400

abbrev limit1_nine-schedule : Case
limit1_nine-schedule = under 1 (diagnoses limit1_nine schedule 4 8 9 1 true (hex 6 0x0500ff01ff01))

limit1_nine-schedule-comes-out : ComesOut limit1_nine-schedule
unfolding run
limit1_nine-schedule-comes-out = refl

-- length 31, then `!`, then the end: each byte is a field of its own
--   => refused 4
abbrev word_byte : List ℕ
word_byte = hex 4 0x102f9080

abbrev word_byte-order : Case
word_byte-order = refuses word_byte order 2 1536 4

word_byte-order-comes-out : ComesOut word_byte-order
unfolding run
word_byte-order-comes-out = refl

-- length 31, then `a`, then the end
--   => refused 3
abbrev word_byte_missing : List ℕ
word_byte_missing = hex 4 0x102fb080

abbrev word_byte_missing-order : Case
word_byte_missing-order = refuses word_byte_missing order 2 1536 3

word_byte_missing-order-comes-out : ComesOut word_byte_missing-order
unfolding run
word_byte_missing-order-comes-out = refl

-- the first and last of each range of word bytes
--     words A Z a z 0 9 _
--   => nothing
abbrev word_bytes : List ℕ
word_bytes = hex 28 0x10909804e428215a0af85850e4cae6deeae4c6ca473656c660bd0000

abbrev word_bytes-order : Case
word_bytes-order = accepts word_bytes order 3 1536 1 0x00

word_bytes-order-comes-out : ComesOut word_bytes-order
unfolding run
word_bytes-order-comes-out = refl

-- a byte beside a range of word bytes: 47
--     words! / resource self
--   => refused 4
abbrev word_byte47 : List ℕ
word_byte47 = hex 18 0x103097a1c995cdbdd5c98d948e6cad8cc000

abbrev word_byte47-order : Case
word_byte47-order = refuses word_byte47 order 2 1536 4

word_byte47-order-comes-out : ComesOut word_byte47-order
unfolding run
word_byte47-order-comes-out = refl

-- a byte beside a range of word bytes: 58
--     words! : resource self
--   => refused 4
abbrev word_byte58 : List ℕ
word_byte58 = hex 18 0x10309d21c995cdbdd5c98d948e6cad8cc000

abbrev word_byte58-order : Case
word_byte58-order = refuses word_byte58 order 2 1536 4

word_byte58-order-comes-out : ComesOut word_byte58-order
unfolding run
word_byte58-order-comes-out = refl

-- a byte beside a range of word bytes: 64
--     words! @ resource self
--   => refused 4
abbrev word_byte64 : List ℕ
word_byte64 = hex 18 0x1030a021c995cdbdd5c98d948e6cad8cc000

abbrev word_byte64-order : Case
word_byte64-order = refuses word_byte64 order 2 1536 4

word_byte64-order-comes-out : ComesOut word_byte64-order
unfolding run
word_byte64-order-comes-out = refl

-- a byte beside a range of word bytes: 91
--     words! [ resource self
--   => refused 4
abbrev word_byte91 : List ℕ
word_byte91 = hex 18 0x1030ada1c995cdbdd5c98d948e6cad8cc000

abbrev word_byte91-order : Case
word_byte91-order = refuses word_byte91 order 2 1536 4

word_byte91-order-comes-out : ComesOut word_byte91-order
unfolding run
word_byte91-order-comes-out = refl

-- a byte beside a range of word bytes: 94
--     words! ^ resource self
--   => refused 4
abbrev word_byte94 : List ℕ
word_byte94 = hex 18 0x1030af21c995cdbdd5c98d948e6cad8cc000

abbrev word_byte94-order : Case
word_byte94-order = refuses word_byte94 order 2 1536 4

word_byte94-order-comes-out : ComesOut word_byte94-order
unfolding run
word_byte94-order-comes-out = refl

-- a byte beside a range of word bytes: 96
--     words! ` resource self
--   => refused 4
abbrev word_byte96 : List ℕ
word_byte96 = hex 18 0x1030b021c995cdbdd5c98d948e6cad8cc000

abbrev word_byte96-order : Case
word_byte96-order = refuses word_byte96 order 2 1536 4

word_byte96-order-comes-out : ComesOut word_byte96-order
unfolding run
word_byte96-order-comes-out = refl

-- a byte beside a range of word bytes: 123
--     words! { resource self
--   => refused 4
abbrev word_byte123 : List ℕ
word_byte123 = hex 18 0x1030bda1c995cdbdd5c98d948e6cad8cc000

abbrev word_byte123-order : Case
word_byte123-order = refuses word_byte123 order 2 1536 4

word_byte123-order-comes-out : ComesOut word_byte123-order
unfolding run
word_byte123-order-comes-out = refl

-- the same behind the first byte, and the hyphen
--     words _A _Z _a _z _0 _9 __ _-
--   => nothing
abbrev word_bytes_behind : List ℕ
word_bytes_behind = hex 38 0x10a12f96897cc04be7225f4112fad097d7c4bec225f7a43932b9b7bab931b291cd95b1980000

abbrev word_bytes_behind-order : Case
word_bytes_behind-order = accepts word_bytes_behind order 3 1536 1 0x00

word_bytes_behind-order-comes-out : ComesOut word_bytes_behind-order
unfolding run
word_bytes_behind-order-comes-out = refl

-- a byte beside the hyphen: 44
--     words! a, resource self
--   => refused 4
abbrev word_byte44_behind : List ℕ
word_byte44_behind = hex 19 0x1031309621c995cdbdd5c98d948e6cad8cc000

abbrev word_byte44_behind-order : Case
word_byte44_behind-order = refuses word_byte44_behind order 2 1536 4

word_byte44_behind-order-comes-out : ComesOut word_byte44_behind-order
unfolding run
word_byte44_behind-order-comes-out = refl

-- a byte beside the hyphen: 46
--     words! a. resource self
--   => refused 4
abbrev word_byte46_behind : List ℕ
word_byte46_behind = hex 19 0x1031309721c995cdbdd5c98d948e6cad8cc000

abbrev word_byte46_behind-order : Case
word_byte46_behind-order = refuses word_byte46_behind order 2 1536 4

word_byte46_behind-order-comes-out : ComesOut word_byte46_behind-order
unfolding run
word_byte46_behind-order-comes-out = refl

-- a hyphen as a word's first byte: 4 at that byte, and not 3 at the end behind it
--   => refused 4
abbrev hyphen_first : List ℕ
hyphen_first = hex 4 0x102f9680

abbrev hyphen_first-order : Case
hyphen_first-order = refuses hyphen_first order 2 1536 4

hyphen_first-order-comes-out : ComesOut hyphen_first-order
unfolding run
hyphen_first-order-comes-out = refl

-- a hyphen as the second byte is taken: 3 at the end behind it
--   => refused 3
abbrev hyphen_second : List ℕ
hyphen_second = hex 5 0x102fb09680

abbrev hyphen_second-order : Case
hyphen_second-order = refuses hyphen_second order 2 1536 3

hyphen_second-order-comes-out : ComesOut hyphen_second-order
unfolding run
hyphen_second-order-comes-out = refl

-- a word that begins with a hyphen
--     words! -a resource self
--   => refused 4
abbrev hyphen_leads : List ℕ
hyphen_leads = hex 19 0x103116b0a1c995cdbdd5c98d948e6cad8cc000

abbrev hyphen_leads-order : Case
hyphen_leads-order = refuses hyphen_leads order 2 1536 4

hyphen_leads-order-comes-out : ComesOut hyphen_leads-order
unfolding run
hyphen_leads-order-comes-out = refl

-- a hyphen alone is no word
--     words! - resource self
--   => refused 4
abbrev hyphen_alone : List ℕ
hyphen_alone = hex 18 0x103096a1c995cdbdd5c98d948e6cad8cc000

abbrev hyphen_alone-order : Case
hyphen_alone-order = refuses hyphen_alone order 2 1536 4

hyphen_alone-order-comes-out : ComesOut hyphen_alone-order
unfolding run
hyphen_alone-order-comes-out = refl

-- a word may end with hyphens, and have two in a row
--     words a a- a-- a--b a-b
--   => nothing
abbrev hyphen_last : List ℕ
hyphen_last = hex 33 0x1070b08984b46c25a5a4612d2d621b096b121c995cdbdd5c98d948e6cad8cc0000

abbrev hyphen_last-order : Case
hyphen_last-order = accepts hyphen_last order 3 1536 1 0x00

hyphen_last-order-comes-out : ComesOut hyphen_last-order
unfolding run
hyphen_last-order-comes-out = refl

-- a word without bytes
--     words! "" resource self
--   => refused 4
abbrev empty_word : List ℕ
empty_word = hex 17 0x103021c995cdbdd5c98d948e6cad8cc000

abbrev empty_word-order : Case
empty_word-order = refuses empty_word order 2 1536 4

empty_word-order-comes-out : ComesOut empty_word-order
unfolding run
empty_word-order-comes-out = refl

-- a word of 31 bytes
--     words abcdefghijklmnopqrstuvwxyz01234
--   => nothing
abbrev long_word : List ℕ
long_word = hex 48 0x103fb0b131b232b333b434b535b636b737b838b939ba3abb3bbc3cbd181899199a21c995cdbdd5c98d948e6cad8cc000

abbrev long_word-order : Case
long_word-order = accepts long_word order 3 1536 1 0x00

long_word-order-comes-out : ComesOut long_word-order
unfolding run
long_word-order-comes-out = refl

-- one word
--   => refused 4
abbrev words1 : List ℕ
words1 = hex 2 0x1010

abbrev words1-order : Case
words1-order = refuses words1 order 2 1536 4

words1-order-comes-out : ComesOut words1-order
unfolding run
words1-order-comes-out = refl

-- 200 words are a count allowed, and the first is missing
--   => refused 3
abbrev words200 : List ℕ
words200 = hex 2 0x1c80

abbrev words200-order : Case
words200-order = refuses words200 order 2 1536 3

words200-order-comes-out : ComesOut words200-order
unfolding run
words200-order-comes-out = refl

-- 201 words: a count that is not allowed decides before its missing entries
--   => refused 4
abbrev words201 : List ℕ
words201 = hex 2 0x1c90

abbrev words201-order : Case
words201-order = refuses words201 order 2 1536 4

words201-order-comes-out : ComesOut words201-order
unfolding run
words201-order-comes-out = refl

-- 64 types, and the first is missing
--   => refused 3
abbrev types64_missing : List ℕ
types64_missing = hex 6 0x1020b0858a00

abbrev types64_missing-order : Case
types64_missing-order = refuses types64_missing order 2 1536 3

types64_missing-order-comes-out : ComesOut types64_missing-order
unfolding run
types64_missing-order-comes-out = refl

-- 32 extensions, and the first is missing
--   => refused 3
abbrev extensions32 : List ℕ
extensions32 = hex 7 0x1020b085880400

abbrev extensions32-order : Case
extensions32-order = refuses extensions32 order 2 1536 3

extensions32-order-comes-out : ComesOut extensions32-order
unfolding run
extensions32-order-comes-out = refl

-- 33 extensions
--   => refused 4
abbrev extensions33 : List ℕ
extensions33 = hex 7 0x1020b085880420

abbrev extensions33-order : Case
extensions33-order = refuses extensions33 order 2 1536 4

extensions33-order-comes-out : ComesOut extensions33-order
unfolding run
extensions33-order-comes-out = refl

-- a word field not below W
--     domain @2
--   => refused 4
abbrev word_number : List ℕ
word_number = hex 20 0x10243932b9b7bab931b291cd95b1980810000000

abbrev word_number-order : Case
word_number-order = refuses word_number order 2 1536 4

word_number-order-comes-out : ComesOut word_number-order
unfolding run
word_number-order-comes-out = refl

-- the variant 3
--     variant3 a
--   => refused 4
abbrev variant3 : List ℕ
variant3 = hex 21 0x1030b0a1c995cdbdd5c98d948e6cad8cc040180000

abbrev variant3-order : Case
variant3-order = refuses variant3 order 2 1536 4

variant3-order-comes-out : ComesOut variant3-order
unfolding run
variant3-order-comes-out = refl

-- the annotation kind 7
--     domain a
--       kind7
--   => refused 4
abbrev kind7 : List ℕ
kind7 = hex 22 0x1030b0a1c995cdbdd5c98d948e6cad8cc0400003c000

abbrev kind7-order : Case
kind7-order = refuses kind7 order 2 1536 4

kind7-order-comes-out : ComesOut kind7-order
unfolding run
kind7-order-comes-out = refl

-- 13 annotations
--   => refused 4
abbrev annotations13 : List ℕ
annotations13 = hex 9 0x1020b0858808000340

abbrev annotations13-order : Case
annotations13-order = refuses annotations13 order 2 1536 4

annotations13-order-comes-out : ComesOut annotations13-order
unfolding run
annotations13-order-comes-out = refl

-- 12 annotations
--     domain a
--       derive 0
--       derive 1
--       derive 2
--       derive 3
--       derive 4
--       derive 5
--       derive 6
--       derive 7
--       derive 8
--       derive 9
--       derive 10
--       derive 11
--   => T a
abbrev annotations12 : List ℕ
annotations12 = hex 38 0x1030b0a1c995cdbdd5c98d948e6cad8cc040001940280d02a0741282d06a0f42284d0aa16000

abbrev annotations12-order : Case
annotations12-order = accepts annotations12 order 4 1536 2 0x0200

annotations12-order-comes-out : ComesOut annotations12-order
unfolding run
annotations12-order-comes-out = refl

-- 7 marks, tags 0 and 255 among them
--     resource a
--       mark makelist
--       mark derive 0
--       mark derive 255
--       mark makelist
--       mark makelist
--       mark makelist
--       mark makelist
--   => T a
abbrev marks7 : List ℕ
marks7 = hex 24 0x1030b0a1c995cdbdd5c98d948e6cad8cc0400801d00ff800

abbrev marks7-order : Case
marks7-order = accepts marks7 order 4 1536 2 0x0200

marks7-order-comes-out : ComesOut marks7-order
unfolding run
marks7-order-comes-out = refl

-- NestAssociate in a two-word type, at the kind field
--   => refused 4
abbrev nest_in_two_words : List ℕ
nest_in_two_words = hex 10 0x1020b085880804040050

abbrev nest_in_two_words-order : Case
nest_in_two_words-order = refuses nest_in_two_words order 2 1536 4

nest_in_two_words-order-comes-out : ComesOut nest_in_two_words-order
unfolding run
nest_in_two_words-order-comes-out = refl

-- an Associate in a two-word type
--     domain a.b
--       associate b
--   => T a.b
abbrev associate_in_two_words : List ℕ
associate_in_two_words = hex 26 0x1040b085890e4cae6deeae4c6ca473656c660201010012202000

abbrev associate_in_two_words-order : Case
associate_in_two_words-order = accepts associate_in_two_words order 5 1536 3 0x020101

associate_in_two_words-order-comes-out : ComesOut associate_in_two_words-order
unfolding run
associate_in_two_words-order-comes-out = refl

-- an associate may have 0 resources
--     domain a
--       associate
--       nest
--   => T a
abbrev no_resources : List ℕ
no_resources = hex 23 0x1030b0a1c995cdbdd5c98d948e6cad8cc0400004410000

abbrev no_resources-schedule : Case
no_resources-schedule = accepts no_resources schedule 6 1536 4 0x02000000

no_resources-schedule-comes-out : ComesOut no_resources-schedule
unfolding run
no_resources-schedule-comes-out = refl

abbrev no_resources-order : Case
no_resources-order = accepts no_resources order 4 1536 2 0x0200

no_resources-order-comes-out : ComesOut no_resources-order
unfolding run
no_resources-order-comes-out = refl

-- an extension without parents
--     extend a b
--   => refused 4
abbrev no_extension_parent : List ℕ
no_extension_parent = hex 23 0x1040b085890e4cae6deeae4c6ca473656c660008000400

abbrev no_extension_parent-order : Case
no_extension_parent-order = refuses no_extension_parent order 2 1536 4

no_extension_parent-order-comes-out : ComesOut no_extension_parent-order
unfolding run
no_extension_parent-order-comes-out = refl

-- every kind of annotation, 15 names in an Inherit
--     domain a
--       makelist
--       associate f g.f2
--       nest h
--       alias k
--       inherit b c.d b c.d b c.d b c.d b c.d b c.d b c.d b
--       derive 200
--       noderive
--   => T a
abbrev every_kind : List ℕ
every_kind = hex 70 0x10b0b085882c61640b30998c82ce1680b5a1c995cdbdd5c98d948e6cad8cc040000e09020160c841cc2278080a060202818080a060202818080a060202818080a0602b918000

abbrev every_kind-order : Case
every_kind-order = accepts every_kind order 4 1536 2 0x0200

every_kind-order-comes-out : ComesOut every_kind-order
unfolding run
every_kind-order-comes-out = refl

-- `self` missing
--     words! a resource
--   => refused 5
abbrev no_self : List ℕ
no_self = hex 14 0x1020b0a1c995cdbdd5c98d940000

abbrev no_self-order : Case
no_self-order = refuses no_self order 2 1536 5

no_self-order-comes-out : ComesOut no_self-order
unfolding run
no_self-order-comes-out = refl

-- `resource` missing
--     words! a self
--   => refused 5
abbrev no_resource : List ℕ
no_resource = hex 10 0x1020b091cd95b1980000

abbrev no_resource-order : Case
no_resource-order = refuses no_resource order 2 1536 5

no_resource-order-comes-out : ComesOut no_resource-order
unfolding run
no_resource-order-comes-out = refl

-- a word twice is not ascending
--     words! resource self self
--   => refused 5
abbrev word_twice : List ℕ
word_twice = hex 21 0x10343932b9b7bab931b291cd95b1988e6cad8cc000

abbrev word_twice-order : Case
word_twice-order = refuses word_twice order 2 1536 5

word_twice-order-comes-out : ComesOut word_twice-order
unfolding run
word_twice-order-comes-out = refl

-- a word before its extension
--     words a ab b
--   => nothing
abbrev prefix_first : List ℕ
prefix_first = hex 23 0x1050b08985882c487265736f75726365239b2b63300000

abbrev prefix_first-order : Case
prefix_first-order = accepts prefix_first order 3 1536 1 0x00

prefix_first-order-comes-out : ComesOut prefix_first-order
unfolding run
prefix_first-order-comes-out = refl

-- the last bit of the fill set
--   => refused 7
abbrev fill : List ℕ
fill = hex 17 0x10243932b9b7bab931b291cd95b1980001

abbrev fill-order : Case
fill-order = refuses fill order 2 1536 7

fill-order-comes-out : ComesOut fill-order
unfolding run
fill-order-comes-out = refl

-- a byte that is not zero behind the sheet
--   => refused 7
abbrev more_bytes : List ℕ
more_bytes = hex 18 0x10243932b9b7bab931b291cd95b198000001

abbrev more_bytes-order : Case
more_bytes-order = refuses more_bytes order 2 1536 7

more_bytes-order-comes-out : ComesOut more_bytes-order
unfolding run
more_bytes-order-comes-out = refl

-- a two-word name twice
--     domain a.b
--     domain a.b
--   => refused 6
abbrev two_words_twice : List ℕ
two_words_twice = hex 28 0x1040b085890e4cae6deeae4c6ca473656c6604010100000101000000

abbrev two_words_twice-order : Case
two_words_twice-order = refuses two_words_twice order 2 1536 6

two_words_twice-order-comes-out : ComesOut two_words_twice-order
unfolding run
two_words_twice-order-comes-out = refl

-- a key twice among extensions
--     extend a b : a
--     extend a b : b
--   => refused 6
abbrev key_twice : List ℕ
key_twice = hex 28 0x1040b085890e4cae6deeae4c6ca473656c6600100004400000110100

abbrev key_twice-order : Case
key_twice-order = refuses key_twice order 2 1536 6

key_twice-order-comes-out : ComesOut key_twice-order
unfolding run
key_twice-order-comes-out = refl

-- keys that differ in a word
--     extend a b : a
--     extend a.b b : a
--     extend b b : a
--     extend a a : a
--   => nothing
abbrev keys_differ : List ℕ
keys_differ = hex 36 0x1040b085890e4cae6deeae4c6ca473656c66002000044000101011000080440000001000

abbrev keys_differ-order : Case
keys_differ-order = accepts keys_differ order 3 1536 1 0x00

keys_differ-order-comes-out : ComesOut keys_differ-order
unfolding run
keys_differ-order-comes-out = refl

-- a word twice in an associate, whatever the doms
--     domain a
--       associate f d.f
--   => refused 6
abbrev word_twice_in_associate : List ℕ
word_twice_in_associate = hex 29 0x1050b085902cc87265736f75726365239b2b6330100000920201404000

abbrev word_twice_in_associate-order : Case
word_twice_in_associate-order = refuses word_twice_in_associate order 2 1536 6

word_twice_in_associate-order-comes-out : ComesOut word_twice_in_associate-order
unfolding run
word_twice_in_associate-order-comes-out = refl

-- a word twice in a nested one
--     domain a
--       nest f f
--   => refused 6
abbrev word_twice_in_nest : List ℕ
word_twice_in_nest = hex 26 0x1040b085990e4cae6deeae4c6ca473656c660200001440201000

abbrev word_twice_in_nest-order : Case
word_twice_in_nest-order = refuses word_twice_in_nest order 2 1536 6

word_twice_in_nest-order-comes-out : ComesOut word_twice_in_nest-order
unfolding run
word_twice_in_nest-order-comes-out = refl

-- associates of equal word sets, doms ignored
--     domain a
--       associate f g
--       associate g d.f
--   => refused 6
abbrev equal_sets : List ℕ
equal_sets = hex 34 0x1060b085902cc16743932b9b7bab931b291cd95b198080000890100c480c05010000

abbrev equal_sets-order : Case
equal_sets-order = refuses equal_sets order 2 1536 6

equal_sets-order-comes-out : ComesOut equal_sets-order
unfolding run
equal_sets-order-comes-out = refl

-- two associates without resources
--     domain a
--       associate
--       associate
--   => refused 6
abbrev empty_sets : List ℕ
empty_sets = hex 23 0x1030b0a1c995cdbdd5c98d948e6cad8cc0400004408000

abbrev empty_sets-order : Case
empty_sets-order = refuses empty_sets order 2 1536 6

empty_sets-order-comes-out : ComesOut empty_sets-order
unfolding run
empty_sets-order-comes-out = refl

-- associates of unequal word sets; one kind beside the other
--     domain a
--       associate f g
--       associate f
--       nest f
--   => T a
abbrev unequal_sets : List ℕ
unequal_sets = hex 32 0x1050b085982ce87265736f75726365239b2b6330100001920101088090808000

abbrev unequal_sets-order : Case
unequal_sets-order = accepts unequal_sets order 4 1536 2 0x0200

unequal_sets-order-comes-out : ComesOut unequal_sets-order
unfolding run
unequal_sets-order-comes-out = refl

-- equal Inherits
--     domain a
--       inherit a b
--       inherit a b
--   => refused 6
abbrev inherit_twice : List ℕ
inherit_twice = hex 29 0x1040b085890e4cae6deeae4c6ca473656c660200002840001420000800

abbrev inherit_twice-order : Case
inherit_twice-order = refuses inherit_twice order 2 1536 6

inherit_twice-order-comes-out : ComesOut inherit_twice-order
unfolding run
inherit_twice-order-comes-out = refl

-- Inherits compare as ordered lists with repeats
--     domain a
--       inherit a b
--       inherit b a
--       inherit a a b
--   => T a
abbrev inherits_differ : List ℕ
inherits_differ = hex 34 0x1040b085890e4cae6deeae4c6ca473656c6602000038400014201002180000020000

abbrev inherits_differ-order : Case
inherits_differ-order = accepts inherits_differ order 4 1536 2 0x0200

inherits_differ-order-comes-out : ComesOut inherits_differ-order
unfolding run
inherits_differ-order-comes-out = refl

-- equal Derives
--     domain a
--       derive 1
--       derive 1
--   => refused 6
abbrev derive_twice : List ℕ
derive_twice = hex 24 0x1030b0a1c995cdbdd5c98d948e6cad8cc040000540680800

abbrev derive_twice-order : Case
derive_twice-order = refuses derive_twice order 2 1536 6

derive_twice-order-comes-out : ComesOut derive_twice-order
unfolding run
derive_twice-order-comes-out = refl

-- equal Aliases
--     domain a
--       alias f
--       alias f
--   => refused 6
abbrev alias_twice : List ℕ
alias_twice = hex 26 0x1040b085990e4cae6deeae4c6ca473656c660200002602c04000

abbrev alias_twice-order : Case
alias_twice-order = refuses alias_twice order 2 1536 6

alias_twice-order-comes-out : ComesOut alias_twice-order
unfolding run
alias_twice-order-comes-out = refl

-- two MakeLists
--     domain a
--       makelist
--       makelist
--   => refused 6
abbrev makelist_twice : List ℕ
makelist_twice = hex 22 0x1030b0a1c995cdbdd5c98d948e6cad8cc04000040000

abbrev makelist_twice-order : Case
makelist_twice-order = refuses makelist_twice order 2 1536 6

makelist_twice-order-comes-out : ComesOut makelist_twice-order
unfolding run
makelist_twice-order-comes-out = refl

-- two NoDerives
--     domain a
--       noderive
--       noderive
--   => refused 6
abbrev no_derive_twice : List ℕ
no_derive_twice = hex 22 0x1030b0a1c995cdbdd5c98d948e6cad8cc0400005b000

abbrev no_derive_twice-order : Case
no_derive_twice-order = refuses no_derive_twice order 2 1536 6

no_derive_twice-order-comes-out : ComesOut no_derive_twice-order
unfolding run
no_derive_twice-order-comes-out = refl

-- Derives and Aliases that differ
--     domain a
--       derive 1
--       derive 2
--       alias f
--       alias g
--   => T a
abbrev tags_differ : List ℕ
tags_differ = hex 30 0x1050b085982ce87265736f75726365239b2b6330100002501a04c0581000

abbrev tags_differ-order : Case
tags_differ-order = accepts tags_differ order 4 1536 2 0x0200

tags_differ-order-comes-out : ComesOut tags_differ-order
unfolding run
tags_differ-order-comes-out = refl

-- a chain against the order of names
--     domain a : b
--     domain b : c
--     domain c
--   => T c; T b; T a
abbrev against_names : List ℕ
against_names = hex 33 0x1050b085882c687265736f75726365239b2b633030000808000804080008000000

abbrev against_names-order : Case
against_names-order = accepts against_names order 7 1536 5 0x0604010000

against_names-order-comes-out : ComesOut against_names-order
unfolding run
against_names-order-comes-out = refl

-- a type whose parent is placed in this round waits for the next one
--     domain a
--     domain b : a
--     domain c
--   => T a; T c; T b
abbrev next_round : List ℕ
next_round = hex 32 0x1050b085882c687265736f75726365239b2b6330300000001008000010000000

abbrev next_round-order : Case
next_round-order = accepts next_round order 7 1536 5 0x0600020080

next_round-order-comes-out : ComesOut next_round-order
unfolding run
next_round-order-comes-out = refl

-- one word before two
--     domain b
--     domain a.b
--     domain a
--   => T a; T a.b; T b
abbrev one_word_first : List ℕ
one_word_first = hex 30 0x1040b085890e4cae6deeae4c6ca473656c66060200000101000000000000

abbrev one_word_first-order : Case
one_word_first-order = accepts one_word_first order 8 1536 6 0x060000808080

one_word_first-order-comes-out : ComesOut one_word_first-order
unfolding run
one_word_first-order-comes-out = refl

-- a hyphen goes before the dot, and the dot before all other bytes of words: `a-b` before `a.c`
--     domain a_
--     domain a0
--     domain a.c
--     domain a-b.c
--     domain a-b
--     domain a--.c
--     domain a--
--     domain a-
--     domain a
--   => T a; T a-; T a--; T a--.c; T a-b; T a-b.c; T a.c; T a0; T a_
abbrev hyphen_before_dot : List ℕ
hyphen_before_dot = hex 65 0x1090b08984b46c25a5a3612d621309809857c2c687265736f75726365239b2b6330905000004000000830000038300000300000283000002000001000000000000

abbrev hyphen_before_dot-order : Case
hyphen_before_dot-order = accepts hyphen_before_dot order 16 1536 14 0x1200010100a0c06038300418100a

hyphen_before_dot-order-comes-out : ComesOut hyphen_before_dot-order
unfolding run
hyphen_before_dot-order-comes-out = refl

-- within a round by name, a type with a parent too
--     domain a.c : z
--     domain a-b : z
--     domain a : z
--     domain z
--   => T z; T a; T a-b; T a.c
abbrev hyphen_within_round : List ℕ
hyphen_within_round = hex 42 0x1060b08d84b5882c687265736f75726365239b2b63305e820040804140004020a0000010500050000000

abbrev hyphen_within_round-order : Case
hyphen_within_round-order = accepts hyphen_within_round order 9 1536 7 0x080a0000802040

hyphen_within_round-order-comes-out : ComesOut hyphen_within_round-order
unfolding run
hyphen_within_round-order-comes-out = refl

-- rows of `self`: types in name order
--     domain c
--     domain a.c : self
--     domain a-b : self
--   => refused 8; D 1 a-b self -; D 1 a.c self -
abbrev hyphen_self : List ℕ
hyphen_self = hex 36 0x1050b08d84b5882c687265736f75726365239b2b63303020000008100820000804100000

abbrev hyphen_self-order : Case
hyphen_self-order = diagnoses hyphen_self order 2 1536 8 2 false (hex 12 0x0101ff04ffff01000204ffff)

hyphen_self-order-comes-out : ComesOut hyphen_self-order
unfolding run
hyphen_self-order-comes-out = refl

-- types that wait, in name order
--     domain a.c : zz
--     domain a-b : zz
--     domain a : a-b a.c
--   => refused 8; D 3 a-b zz -; D 3 a.c zz -; D 3 a-b zz -; D 3 a.c zz -
abbrev hyphen_waiting : List ℕ
hyphen_waiting = hex 42 0x1060b08d84b5882c687265736f75726365239b2b63309e9e818040804140004020a00000201004080000

abbrev hyphen_waiting-order : Case
hyphen_waiting-order = diagnoses hyphen_waiting order 2 1536 8 4 false (hex 24 0x0301ff05ffff03000205ffff0301ff05ffff03000205ffff)

hyphen_waiting-order-comes-out : ComesOut hyphen_waiting-order
unfolding run
hyphen_waiting-order-comes-out = refl

-- the longest chain counts
--     domain a : d b
--     domain b : c
--     domain c : d
--     domain d
--   => T d; T c; T b; T a
abbrev longest_chain : List ℕ
longest_chain = hex 40 0x1060b085882c616443932b9b7bab931b291cd95b1982000080c02000201020002008180018000000

abbrev longest_chain-order : Case
longest_chain-order = accepts longest_chain order 8 1536 6 0x080602008000

longest_chain-order-comes-out : ComesOut longest_chain-order
unfolding run
longest_chain-order-comes-out = refl

-- each listing of `self` is a row
--     domain a : self self
--   => refused 8; D 1 a self -; D 1 a self -
abbrev self_twice : List ℕ
self_twice = hex 24 0x1030b0a1c995cdbdd5c98d948e6cad8cc040004040200000

abbrev self_twice-order : Case
self_twice-order = diagnoses self_twice order 2 1536 8 2 false (hex 12 0x0100ff02ffff0100ff02ffff)

self_twice-order-comes-out : ComesOut self_twice-order
unfolding run
self_twice-order-comes-out = refl

-- also of a type that waits, types in name order
--     domain b : a self
--     domain a : c self
--     domain c
--   => refused 8; D 1 a self -; D 1 b self -
abbrev self_waiting : List ℕ
self_waiting = hex 35 0x1050b085882c687265736f75726365239b2b6330301010001000000404040002000000

abbrev self_waiting-order : Case
self_waiting-order = diagnoses self_waiting order 2 1536 8 2 false (hex 12 0x0100ff04ffff0101ff04ffff)

self_waiting-order-comes-out : ComesOut self_waiting-order
unfolding run
self_waiting-order-comes-out = refl

-- `self` declared: a row of kind 1 where a type is ready
--     domain self
--     domain a : self
--   => refused 8; D 1 a self -
abbrev self_declared : List ℕ
self_declared = hex 26 0x1030b0a1c995cdbdd5c98d948e6cad8cc0808000000020400000

abbrev self_declared-order : Case
self_declared-order = diagnoses self_declared order 2 1536 8 1 false (hex 6 0x0100ff02ffff)

self_declared-order-comes-out : ComesOut self_declared-order
unfolding run
self_declared-order-comes-out = refl

-- no type ready: no row of kind 1, and `self` is looked up like any name
--     domain a : self b
--     domain b : a
--     domain self : a
--   => refused 8; D 2 self a -; D 2 b a -; D 2 a b -; D 2 a self -
abbrev self_replaced : List ℕ
self_replaced = hex 34 0x1040b085890e4cae6deeae4c6ca473656c660600020300800080400000c020000000

abbrev self_replaced-order : Case
self_replaced-order = diagnoses self_replaced order 2 1536 8 4 false (hex 24 0x0203ff00ffff0201ff00ffff0200ff01ffff0200ff03ffff)

self_replaced-order-comes-out : ComesOut self_replaced-order
unfolding run
self_replaced-order-comes-out = refl

-- a two-word name is not `self`
--     domain c
--     domain a : self.c
--   => refused 8; D 3 a self.c -
abbrev self_in_two_words : List ℕ
self_in_two_words = hex 28 0x1040b0858d0e4cae6deeae4c6ca473656c6604020000000103808000

abbrev self_in_two_words-order : Case
self_in_two_words-order = diagnoses self_in_two_words order 2 1536 8 1 false (hex 6 0x0300ff0301ff)

self_in_two_words-order-comes-out : ComesOut self_in_two_words-order
unfolding run
self_in_two_words-order-comes-out = refl

-- the first bad parent is the only answer, also behind a good one
--     domain a : b a zz
--     domain b : zz
--   => refused 8; D 2 a a -; D 3 b zz -
abbrev first_bad_parent : List ℕ
first_bad_parent = hex 33 0x1050b085890e4cae6deeae4c6ca473656c6613d3d0200018080008000201040000

abbrev first_bad_parent-order : Case
first_bad_parent-order = diagnoses first_bad_parent order 2 1536 8 2 false (hex 12 0x0200ff00ffff0301ff04ffff)

first_bad_parent-order-comes-out : ComesOut first_bad_parent-order
unfolding run
first_bad_parent-order-comes-out = refl

-- repeats repeat rows
--     domain a : b b
--     domain b : zz
--   => refused 8; D 3 b zz -; D 3 b zz -; D 3 b zz -
abbrev repeated_parent : List ℕ
repeated_parent = hex 32 0x1050b085890e4cae6deeae4c6ca473656c6613d3d02000100804000402080000

abbrev repeated_parent-order : Case
repeated_parent-order = diagnoses repeated_parent order 2 1536 8 3 false (hex 18 0x0301ff04ffff0301ff04ffff0301ff04ffff)

repeated_parent-order-comes-out : ComesOut repeated_parent-order
unfolding run
repeated_parent-order-comes-out = refl

-- answers along the path
--     domain a : b c
--     domain b : a
--     domain c : zz
--   => refused 8; D 2 b a -; D 3 c zz -; D 2 a b -; D 3 c zz -
abbrev through_path : List ℕ
through_path = hex 38 0x1060b085882c687265736f75726365239b2b63309e9e81800080404000201000002008280000

abbrev through_path-order : Case
through_path-order = diagnoses through_path order 2 1536 8 4 false (hex 24 0x0201ff00ffff0302ff05ffff0200ff01ffff0302ff05ffff)

through_path-order-comes-out : ComesOut through_path-order
unfolding run
through_path-order-comes-out = refl

-- a placed type gives no row
--     domain a : b c
--     domain b
--     domain c : c b
--   => refused 8; D 2 c c -; D 2 c c -
abbrev placed_parent : List ℕ
placed_parent = hex 35 0x1050b085882c687265736f75726365239b2b6330300010080800040000080404010000

abbrev placed_parent-order : Case
placed_parent-order = diagnoses placed_parent order 2 1536 8 2 false (hex 12 0x0202ff02ffff0202ff02ffff)

placed_parent-order-comes-out : ComesOut placed_parent-order
unfolding run
placed_parent-order-comes-out = refl

-- 256 rows: the flag is not set
--     domain q : zz
--     domain p : q q q q q q q q
--     domain t : p p p p p p p p
--     domain u : t t p p p p p p
--     domain v : q q q q q q q
abbrev rows256 : List ℕ
rows256 = hex 79 0x1080b805c50e4cae6deeae4c6ca473656c660ba05d42ec27a7a0a020107000004008040201008040201000404000000000000000000000504020100000000000000000603808040201008040200000

abbrev rows256-schedule : Case
rows256-schedule = diagnoses rows256 schedule 4 1540 8 256 false (times 256 (hex 6 0x0301ff07ffff))

rows256-schedule-comes-out : ComesOut rows256-schedule
unfolding run
rows256-schedule-comes-out = refl

abbrev rows256-order : Case
rows256-order = diagnoses rows256 order 4 1540 8 256 false (times 256 (hex 6 0x0301ff07ffff))

rows256-order-comes-out : ComesOut rows256-order
unfolding run
rows256-order-comes-out = refl

-- 257 rows: the flag is set
--     domain q : zz
--     domain p : q q q q q q q q
--     domain t : p p p p p p p p
--     domain u : t t p p p p p p
--     domain v : q q q q q q q q
abbrev rows257 : List ℕ
rows257 = hex 80 0x1080b805c50e4cae6deeae4c6ca473656c660ba05d42ec27a7a0a02010700000400804020100804020100040400000000000000000000050402010000000000000000060400804020100804020100000

abbrev rows257-schedule : Case
rows257-schedule = diagnoses rows257 schedule 4 1540 8 256 true (times 256 (hex 6 0x0301ff07ffff))

rows257-schedule-comes-out : ComesOut rows257-schedule
unfolding run
rows257-schedule-comes-out = refl

abbrev rows257-order : Case
rows257-order = diagnoses rows257 order 4 1540 8 256 true (times 256 (hex 6 0x0301ff07ffff))

rows257-order-comes-out : ComesOut rows257-order
unfolding run
rows257-order-comes-out = refl

-- no dom and two doms of one word, from three ancestors: the classes and their marks go in the order of doms
--     domain a
--       nest y.f
--     domain b
--       nest x.f
--     domain c
--       nest f
--     domain d : a b c
--     resource f
--       mark derive 1
--     resource x.f
--       mark derive 2
--     resource y.f
--       mark derive 3
--       mark makelist
--   => T a; T b; T c; T f; T x.f; T y.f; T d; R d.f 0 a.f,b.f,c.f,resource derive:1,derive:2,derive:3,makelist; E d 00 f
abbrev two_doms : List ℕ
two_doms = hex 66 0x1090b085882c61640b321c995cdbdd5c98d948e6cad8cc1780bc8700000a10484001000a10483802000a104003018000404000840030107822001810441100140c00

abbrev two_doms-schedule : Case
two_doms-schedule = accepts two_doms schedule 33 1536 31 0x0e0001010100f0408820180008060412000480412020441409018140d03008

two_doms-schedule-comes-out : ComesOut two_doms-schedule
unfolding run
two_doms-schedule-comes-out = refl

-- doms of ancestors that are no direct parents
--     domain a
--       nest x.f
--     domain b : a
--       nest y.f
--     domain c : b
--     resource x.f
--       mark derive 2
--     resource y.f
--       mark derive 3
--   => T a; T x.f; T y.f; T b; T c; R b.f 0 a.f,resource derive:2; E b 00 f; R c.f 0 b.f,resource derive:2,derive:3; E c 00 f
abbrev far_doms : List ℕ
far_doms = hex 54 0x1080b085882c616643932b9b7bab931b291cd95b1982f01790a0000142070600201000a103838020080800340d000c081e0680060600

abbrev far_doms-schedule : Case
far_doms-schedule = accepts far_doms schedule 37 1536 35 0x0a00068183c0c040400040080c28000d0400c0a0200c04030a0103410050281c080180

far_doms-schedule-comes-out : ComesOut far_doms-schedule
unfolding run
far_doms-schedule-comes-out = refl

-- the union of doms is interpreted: both classes unknown
--     domain a
--       nest x.f
--     domain b
--       nest y.f
--     domain c : a b
--   => refused 9; D 4 c x.f f; D 4 c y.f f
abbrev united_doms : List ℕ
united_doms = hex 44 0x1080b085882c616643932b9b7bab931b291cd95b1982f0179060000142070600200142070700402000080000

abbrev united_doms-schedule : Case
united_doms-schedule = diagnoses united_doms schedule 2 1536 9 2 false (hex 12 0x0402ff0603030402ff070303)

united_doms-schedule-comes-out : ComesOut united_doms-schedule
unfolding run
united_doms-schedule-comes-out = refl

-- T's own doms join its children's inherited classes, and not its own
--     resource f
--       mark derive 1
--     resource d.f
--       mark derive 2
--     domain a
--       associate f
--     domain b : a
--       associate d.f
--     domain c : b
--   => T a; T d.f; T f; T b; T c; R a.f 0 f,resource derive:1; E a 00 f; R b.f 0 d.f,resource derive:2; R b.f 0 a.f,resource
--      derive:1; E b 00 f; R c.f 0 b.f,resource derive:1,derive:2; E c 00 f
abbrev own_doms : List ℕ
own_doms = hex 50 0x1070b085882c61640b321c995cdbdd5c98d948e6cad8cc1410800602070440030200000910400100800488240c0100404000

abbrev own_doms-schedule : Case
own_doms-schedule = accepts own_doms schedule 55 1536 53 0x0a000382020040400070001024110500c060001002040a03044140302008102800110500c060201004040a01044140501814080200

own_doms-schedule-comes-out : ComesOut own_doms-schedule
unfolding run
own_doms-schedule-comes-out = refl

-- P.r for direct parents alone, ascending, each once
--     resource f
--     domain z
--       nest f
--     domain m : z
--     domain e
--     domain t : z m e z m
--   => T e; T f; T z; T m; T t; R m.f 0 z.f,resource -; E m 00 f; R t.f 0 m.f,z.f,resource -; E t 00 f
abbrev direct_parents : List ℕ
direct_parents = hex 49 0x1070b285982da87265736f75726365239b2b63305d02f414048000180028404008020c000000000a0506010000c0200000

abbrev direct_parents-schedule : Case
direct_parents-schedule = accepts direct_parents schedule 33 1536 31 0x0a0001030080a000401004281805030040800814021c04030300a060082801

direct_parents-schedule-comes-out : ComesOut direct_parents-schedule
unfolding run
direct_parents-schedule-comes-out = refl

-- own resources by ascending class name, whichever annotation gives them
--     resource f
--     resource d.f
--     resource g
--     domain a
--       associate f
--       associate d.f g
--   => T a; T d.f; T f; T g; R a.f 0 d.f,resource -; R a.f 0 f,resource -; E a 00 f; R a.g 0 g,resource -; E a 00 g
abbrev own_sorted : List ℕ
own_sorted = hex 42 0x1060b085902cc16743932b9b7bab931b291cd95b198201100000c0900001900000000888109014040c00

abbrev own_sorted-schedule : Case
own_sorted-schedule = accepts own_sorted schedule 37 1536 35 0x080001810100c000a000105008120800000082409040040001000061206820020000c0

own_sorted-schedule-comes-out : ComesOut own_sorted-schedule
unfolding run
own_sorted-schedule-comes-out = refl

-- equal parents: the own resource goes before the inherited one, which the parents do not tell
--     resource p.f
--     resource q.f
--       mark makelist
--     domain p
--       nest q.f
--     domain t : p
--       associate p.f
--   => T p; T p.f; T q.f; T t; R t.f 0 p.f,resource -; R t.f 0 p.f,resource makelist; E t 00 f
abbrev own_before_inherited : List ℕ
own_before_inherited = hex 45 0x1060b305c02e287265736f75726365239b2b63305d0200c0100001401000804002840204014020212201010000

abbrev own_before_inherited-schedule : Case
own_before_inherited-schedule = accepts own_before_inherited schedule 30 1536 28 0x0802018001400140006050005008020600028002804010300a0a0000

own_before_inherited-schedule-comes-out : ComesOut own_before_inherited-schedule
unfolding run
own_before_inherited-schedule-comes-out = refl

-- two words, two doms and an inherited word in one type
--     resource f
--     resource d.f
--     resource g
--     resource z.g
--     resource h
--     domain p
--       associate h g
--     domain t : p
--       associate f
--       associate z.g d.f
--   => T d.f; T f; T g; T h; … 14 lines; E t 00 h
abbrev words_and_doms : List ℕ
words_and_doms = hex 63 0x1090b205982ce1680b821c995cdbdd5c98d948e6cad8cc1740bd070120000080a00002200008812000032000040009203010038041044404480a1003000000

abbrev words_and_doms-schedule : Case
words_and_doms-schedule = accepts words_and_doms schedule 78 1536 76 0x0e0101010100c080881038003008020902414010400404018481a0a008200303804280005050001c021202828020e0040e020a080241400070105020120a00838020380c28100d050041c018

words_and_doms-schedule-comes-out : ComesOut words_and_doms-schedule
unfolding run
words_and_doms-schedule-comes-out = refl

-- three orders of one map: P.r by the names of P, `a`, `a-b`, `a.c`; the classes of the inherited one by doms, `a` before `a-b`; own resources by the names of their classes, `a-b.f` before `a.f`
--     domain t : a.c a-b a
--       associate a.f
--       associate a-b.f g
--     domain a.c : a
--     domain a-b
--       nest a-b.f
--     domain a
--       nest a.f
--     resource a.f
--       mark derive 1
--     resource a-b.f
--       mark derive 2
--     resource g
--   => T a; T a-b; T a-b.f; T a.f; … 10 lines; E t 00 g
abbrev three_orders : List ℕ
three_orders = hex 73 0x1080b08d84b5882c61660b3a1c995cdbdd5c98d948e6cad8cc1740e0e030081008004440e00480e02080010201000001000a10380800000a1038000081a0018080c0d000c081080000

abbrev three_orders-schedule : Case
three_orders-schedule = accepts three_orders schedule 74 1536 72 0x0e000100c0c020608008103800200102030a0003414030180408030380c28040d0500c080e030a000341403010380c48000e0103c00080d050140605070060702048220a00838040

three_orders-schedule-comes-out : ComesOut three_orders-schedule
unfolding run
three_orders-schedule-comes-out = refl

-- items go by the names of the types: `a-b` before `a.c`
--     resource f
--     domain a.c
--       associate f
--     domain a-b
--       associate f
--     domain a
--       associate f
--   => T a; T a-b; T a.c; T f; R a.f 0 f,resource -; E a 00 f; R a-b.f 0 f,resource -; E a-b 00 f; R a.c.f 0 f,resource -; E
--      a.c 00 f
abbrev hyphen_types : List ℕ
hyphen_types = hex 44 0x1060b08d84b5882c616643932b9b7bab931b291cd95b19820190000040800488180080048818000004881800

abbrev hyphen_types-schedule : Case
hyphen_types-schedule = accepts hyphen_types schedule 40 1536 38 0x080001004080c000c00018481a0800800030080c240d0400404018020406120682002010200c

hyphen_types-schedule-comes-out : ComesOut hyphen_types-schedule
unfolding run
hyphen_types-schedule-comes-out = refl

-- P.r by the names of P, where a class, a chain and an extension have such names too
--     domain a
--       associate d-b.f-1
--     domain a-
--       associate d.f-1
--     domain a-b.c : a-
--     domain a0 : a
--     domain t : a0 a-b.c a a-
--     resource d.f-1
--       mark derive 1
--     resource d-b.f-1
--       mark derive 2
--     extend t f-1 : a.c a-b a
--   => T a; T a-; T d-b.f-1; T d.f-1; … 12 lines; E t 00 f-1
abbrev hyphen_parents : List ℕ
hyphen_parents = hex 86 0x10b0b08984b46c25ac4261300b185906c85ac43662d3143932b9b7bab931b291cd95b1982e81c00002441e0c004002441e0a00a08020200060100000a020180a080001000583a001808341d000c0810a039804100800

abbrev hyphen_parents-schedule : Case
hyphen_parents-schedule = accepts hyphen_parents schedule 88 1536 86 0x0e00010341c160e050403050002800070a06074200302800070081c28141d0800c060201c0504070a0107420030181410070181c28001d0800c0a0601c14072200078041f02040780c1d088001102400050181428038

hyphen_parents-schedule-comes-out : ComesOut hyphen_parents-schedule
unfolding run
hyphen_parents-schedule-comes-out = refl

-- as many own resources of one word as there can be, by ascending class name
--     resource f
--     resource a.f
--     resource wa
--     resource b.f
--     resource wb
--     resource c.f
--     resource wc
--     resource d.f
--     resource wd
--     resource e.f
--     resource we
--     resource g.f
--     resource wg
--     resource h.f
--     resource wh
--     resource i.f
--     resource wi
--     resource j.f
--     resource wj
--     resource k.f
--     resource wk
--     resource l.f
--     resource wl
--     domain t
--       associate f
--       associate l.f wl
--       associate k.f wk
--       associate j.f wj
--       associate i.f wi
--       associate h.f wh
--       associate g.f wg
--       associate e.f we
--       associate d.f wd
--       associate c.f wc
--       associate b.f wb
--       associate a.f wa
--   => T a.f; T b.f; T c.f; T d.f; … 54 lines; E t 00 wl
abbrev twelve_own : List ℕ
twelve_own = hex 197 0x11a0b085882c61640b285982ce1680b485a82d616c43932b9b7bab931b291cd95b1982e82776113bb109dd8c4eec82776513bb389dda04eed22776a13bb589ddb0c0290000041500007900000c150000810000141500008900001c1500009100002415000099000034150000a100003c150000a9000044150000b100004c150000b9000054150000c100005c150000c90000700308828902c2c6448161430240b09171205840b0902c1c5448160c28240b0413120581890902c084448160220240b000f000

abbrev twelve_own-schedule : Case
twelve_own-schedule = accepts twelve_own schedule 237 1536 235 0x3001050182814140e0a090505034141e0a11050982854142e0a1c0f0804424130a0542c170c06400460e02850002a1800070142804150c000380a14040a860001c050a0305430000e02850202a18000701424150c000380a140c0a860001c050a0705430000e02850402a1800070142824150c000380a14140a860001c050a0b05430010e00a0e078487a18008700f0704024410c0043808038221222860021c0441c120912430010e0240e098489a1800870130705024510c004380a0382a122a860021c0541c160916430010e02c0e0b848ba1800870170706024610c004380c038321232860021c0640

twelve_own-schedule-comes-out : ComesOut twelve_own-schedule
unfolding run
twelve_own-schedule-comes-out = refl

-- items go by the names of the types, which is not the order of the types
--     resource f
--     domain a : c
--     domain b : a
--     domain c
--       associate f
--   => T c; T f; T a; T b; R a.f 0 c.f,resource -; E a 00 f; R b.f 0 a.f,resource -; E b 00 f; R c.f 0 f,resource -; E c 00 f
abbrev items_by_name : List ℕ
items_by_name = hex 40 0x1060b085882c616643932b9b7bab931b291cd95b1982019000000040800040200000400122060000

abbrev items_by_name-schedule : Case
items_by_name-schedule = accepts items_by_name schedule 39 1536 37 0x08040300004000c0001850101a0800800030080c28000d040040401808061206820020400c

items_by_name-schedule-comes-out : ComesOut items_by_name-schedule
unfolding run
items_by_name-schedule-comes-out = refl

-- virtual: the type and all its classes
--     resource f virtual
--     resource g
--     domain a virtual trait
--       associate f g
--     domain b
--       associate f
--   => T a; T b; T f; T g; R a.f 1 f,resource -; E a 11 f; R a.g 0 g,resource -; E a 11 g; R b.f 0 f,resource -; E b 00 f
abbrev virtual : List ℕ
virtual = hex 40 0x1060b085882cc16743932b9b7bab931b291cd95b1982011800019000000c0490100c004002440800

abbrev virtual-schedule : Case
virtual-schedule = accepts virtual schedule 37 1536 35 0x0800010100c000c0001448120800803020000c240d0400401818040412048200202008

virtual-schedule-comes-out : ComesOut virtual-schedule
unfolding run
virtual-schedule-comes-out = refl

-- marks class by class, also those that are repeated
--     resource f
--       mark makelist
--       mark makelist
--     resource d.f
--       mark makelist
--     domain a
--       nest f
--     domain b
--       nest d.f
--     domain c : a b
--   => T a; T b; T d.f; T f; T c; R c.f 0 a.f,b.f,resource makelist,makelist,makelist; E c 00 f
abbrev repeated_marks : List ℕ
repeated_marks = hex 49 0x1070b085882c61640b321c995cdbdd5c98d948e6cad8cc1410800803822001000005082000800508240c01008000200000

abbrev repeated_marks-schedule : Case
repeated_marks-schedule = accepts repeated_marks schedule 25 1536 23 0x0a000101c1010040002010103800120104414062040100

repeated_marks-schedule-comes-out : ComesOut repeated_marks-schedule
unfolding run
repeated_marks-schedule-comes-out = refl

-- the other kinds of annotation, and Inherit, change nothing
--     resource f
--       derive 9
--       mark derive 5
--     domain a
--       makelist
--       associate f
--       alias b
--       inherit zz b
--       derive 3
--       noderive
--     domain b : a
--   => T a; T f; T b; R a.f 0 f,resource derive:5; E a 00 f; R b.f 0 a.f,resource derive:5; E b 00 f
abbrev other_kinds : List ℕ
other_kinds = hex 46 0x1060b085882cc87265736f75726365239b2b63309e9e81811006849828000181102301840a01503c004020000000

abbrev other_kinds-schedule : Case
other_kinds-schedule = accepts other_kinds schedule 30 1536 28 0x06000200800100002090240c030580002008082800090300c1602008

other_kinds-schedule-comes-out : ComesOut other_kinds-schedule
unfolding run
other_kinds-schedule-comes-out = refl

-- an extension of an undeclared type; undeclared parents and `self` in one
--     domain a
--       associate f
--     resource f
--     extend zz f : self
--     extend a f : self zz.f zz.f
--   => T a; T f; R a.f 0 f,resource,self,zz.f,zz.f -; E a 00 f
abbrev extensions : List ℕ
extensions = hex 42 0x1050b085990e4cae6deeae4c6ca473656c6613d3d0200000910100120000810022060000981812020901

abbrev extensions-schedule : Case
extensions-schedule = accepts extensions schedule 22 1536 20 0x0400010001000022a02812070200c08020080001

extensions-schedule-comes-out : ComesOut extensions-schedule
unfolding run
extensions-schedule-comes-out = refl

-- a two-word type gives three-word names
--     resource f
--     domain a.b
--       associate f
--     domain c.d : a.b
--   => T a.b; T f; T c.d; R a.b.f 0 f,resource -; E a.b 00 f; R c.d.f 0 a.b.f,resource -; E c.d 00 f
abbrev three_words : List ℕ
three_words = hex 40 0x1070b085882c61640b321c995cdbdd5c98d948e6cad8cc0c1080000202002441000a060201010000

abbrev three_words-schedule : Case
three_words-schedule = accepts three_words schedule 35 1536 33 0x060101040140c001001010409044140100808080281820580008220a008140c040

three_words-schedule-comes-out : ComesOut three_words-schedule
unfolding run
three_words-schedule-comes-out = refl

-- a type may be its own class
--     resource f virtual
--       associate f
--   => T f; R f.f 1 f,resource -; E f 10 f
abbrev own_class : List ℕ
own_class = hex 23 0x1030b321c995cdbdd5c98d948e6cad8cc0400c02440000

abbrev own_class-schedule : Case
own_class-schedule = accepts own_class schedule 16 1536 14 0x0200000200002240101004010000

own_class-schedule-comes-out : ComesOut own_class-schedule
unfolding run
own_class-schedule-comes-out = refl

-- an unknown class that is only nested
--     domain p
--       nest zz
--   => T p
abbrev nest_alone : List ℕ
nest_alone = hex 26 0x1040b821c995cdbdd5c98d948e6cad8cc27a7a02000014206000

abbrev nest_alone-schedule : Case
nest_alone-schedule = accepts nest_alone schedule 6 1536 4 0x02000000

nest_alone-schedule-comes-out : ComesOut nest_alone-schedule
unfolding run
nest_alone-schedule-comes-out = refl

-- an unknown class nested in a parent
--     domain p
--       nest zz
--     domain b : p
--   => refused 9; D 4 b zz zz
abbrev nest_unknown : List ℕ
nest_unknown = hex 32 0x1050b105c10e4cae6deeae4c6ca473656c6613d3d0201000a104000008080000

abbrev nest_unknown-schedule : Case
nest_unknown-schedule = diagnoses nest_unknown schedule 2 1536 9 1 false (hex 6 0x0400ff04ff04)

nest_unknown-schedule-comes-out : ComesOut nest_unknown-schedule
unfolding run
nest_unknown-schedule-comes-out = refl

-- P.r may be a parent though it is neither declared nor made
--     resource f
--     domain p trait
--       nest f
--     domain b trait : p
--   => T f; T p; T b; R b.f 0 p.f,resource -; E b 01 f
abbrev nest_and_own : List ℕ
nest_and_own = hex 34 0x1050b105982e087265736f75726365239b2b6330301200002080a101000088100000

abbrev nest_and_own-schedule : Case
nest_and_own-schedule = accepts nest_and_own schedule 19 1536 17 0x060202000000800010a020140c01002020

nest_and_own-schedule-comes-out : ComesOut nest_and_own-schedule
unfolding run
nest_and_own-schedule-comes-out = refl

-- a parent call that fails passes nothing at that listing: a refused type without a row
--     resource f
--     domain p
--       associate f
--       associate zz
--     domain c : p
--   => refused 9; D 4 p zz zz
abbrev failed_parent : List ℕ
failed_parent = hex 38 0x1060b185982e087265736f75726365239b2b63309e9e81809000010008880888280000408000

abbrev failed_parent-schedule : Case
failed_parent-schedule = diagnoses failed_parent schedule 2 1536 9 1 false (hex 6 0x0402ff05ff05)

failed_parent-schedule-comes-out : ComesOut failed_parent-schedule
unfolding run
failed_parent-schedule-comes-out = refl

-- types are tried in name order: `a-b` before `a.c`
--     domain a.c
--       associate zz
--     domain a-b
--       associate zz
--     domain a
--       associate zz
--   => refused 9; D 4 a zz zz; D 4 a-b zz zz; D 4 a.c zz zz
abbrev hyphen_tried : List ℕ
hyphen_tried = hex 42 0x1060b08d84b5882c687265736f75726365239b2b63309e9e818040800488280080048828000004882800

abbrev hyphen_tried-schedule : Case
hyphen_tried-schedule = diagnoses hyphen_tried schedule 2 1536 9 3 false (hex 18 0x0400ff05ff050401ff05ff0504000205ff05)

hyphen_tried-schedule-comes-out : ComesOut hyphen_tried-schedule
unfolding run
hyphen_tried-schedule-comes-out = refl

-- unknown classes go by doms, `a` before `a-b`
--     domain p
--       nest a-b.f
--     domain q
--       nest a.f
--     domain t : p q
--   => refused 9; D 4 t a.f f; D 4 t a-b.f f
abbrev hyphen_unknown : List ℕ
hyphen_unknown = hex 46 0x1080b08d84b5882cc1700b8a1c995cdbdd5c98d948e6cad8cc174060600142050100800142050000e02030200000

abbrev hyphen_unknown-schedule : Case
hyphen_unknown-schedule = diagnoses hyphen_unknown schedule 2 1536 9 2 false (hex 12 0x0407ff0002020407ff010202)

hyphen_unknown-schedule-comes-out : ComesOut hyphen_unknown-schedule
unfolding run
hyphen_unknown-schedule-comes-out = refl

-- the first class that does not fit goes by doms too
--     domain a.f
--     domain a-b.f
--     domain p
--       nest a-b.f
--     domain q
--       nest a.f
--     domain t : p q
--   => refused 9; D 5 t a.f f
abbrev hyphen_no_resource : List ℕ
hyphen_no_resource = hex 54 0x1080b08d84b5882cc1700b8a1c995cdbdd5c98d948e6cad8cc1740a01020000030200000600142050100800142050000e02030200000

abbrev hyphen_no_resource-schedule : Case
hyphen_no_resource-schedule = diagnoses hyphen_no_resource schedule 2 1536 9 1 false (hex 6 0x0507ff000202)

hyphen_no_resource-schedule-comes-out : ComesOut hyphen_no_resource-schedule
unfolding run
hyphen_no_resource-schedule-comes-out = refl

-- listed again, the parent passes everything
--     resource f
--     domain p
--       associate f
--       associate zz
--     domain c : p p
--   => refused 9; D 4 p zz zz; D 4 c zz zz
abbrev listed_again : List ℕ
listed_again = hex 40 0x1060b185982e087265736f75726365239b2b63309e9e818090000100088808882800008080400000

abbrev listed_again-schedule : Case
listed_again-schedule = diagnoses listed_again schedule 2 1536 9 2 false (hex 12 0x0402ff05ff050400ff05ff05)

listed_again-schedule-comes-out : ComesOut listed_again-schedule
unfolding run
listed_again-schedule-comes-out = refl

-- the child of a failed call fails too
--     resource f
--     domain p
--       associate f
--       associate zz
--     domain b : c c
--     domain c : p
--   => refused 9; D 4 p zz zz; D 4 b zz zz
abbrev fails_through : List ℕ
fails_through = hex 45 0x1070b1058c2cc17043932b9b7bab931b291cd95b1984f4f4100880000c00444084418000040201000100818000

abbrev fails_through-schedule : Case
fails_through-schedule = diagnoses fails_through schedule 2 1536 9 2 false (hex 12 0x0403ff06ff060400ff06ff06)

fails_through-schedule-comes-out : ComesOut fails_through-schedule
unfolding run
fails_through-schedule-comes-out = refl

-- a type that is not refused can get a row: `q` fails, so `p.f` alone stands above a.f
--     resource f
--     resource g
--     resource p.f
--     resource q.g
--     domain p
--       nest f
--     domain q
--       nest f
--       associate g
--     domain a : p q
--       associate p.f
--   => refused 9; D 6 q - g; D 6 a - f
abbrev row_unrefused : List ℕ
row_unrefused = hex 59 0x1070b085982ce1700b8a1c995cdbdd5c98d948e6cad8cc1c0480000880000e028000120480000c0028404010004840444080000406040910181800

abbrev row_unrefused-schedule : Case
row_unrefused-schedule = diagnoses row_unrefused schedule 2 1536 9 2 false (hex 12 0x0604ffffff020600ffffff01)

row_unrefused-schedule-comes-out : ComesOut row_unrefused-schedule
unfolding run
row_unrefused-schedule-comes-out = refl

-- unknown classes end the annotation, words ascending
--     domain a
--       associate zz yy
--   => refused 9; D 4 a yy yy
abbrev unknown_ends : List ℕ
unknown_ends = hex 30 0x1050b0a1c995cdbdd5c98d948e6cad8cc2797913d3d01000009204018000

abbrev unknown_ends-schedule : Case
unknown_ends-schedule = diagnoses unknown_ends schedule 2 1536 9 1 false (hex 6 0x0400ff03ff03)

unknown_ends-schedule-comes-out : ComesOut unknown_ends-schedule
unfolding run
unknown_ends-schedule-comes-out = refl

-- after a 5 the next word ends the annotation, though it adds no row
--     domain d
--     resource f
--     domain a
--       associate d f zz
--   => refused 9; D 5 a d d
abbrev after5 : List ℕ
after5 = hex 38 0x1060b085902cc87265736f75726365239b2b63309e9e818080000110000000049808080a0000

abbrev after5-schedule : Case
after5-schedule = diagnoses after5 schedule 2 1536 9 1 false (hex 6 0x0500ff01ff01)

after5-schedule-comes-out : ComesOut after5-schedule
unfolding run
after5-schedule-comes-out = refl

-- after a 5 the next word adds its unknown classes
--     domain d
--     resource f
--     domain a
--       associate d zz
--   => refused 9; D 5 a d d; D 4 a zz zz
abbrev after5_unknown : List ℕ
after5_unknown = hex 36 0x1060b085902cc87265736f75726365239b2b63309e9e8180800001100000000490081400

abbrev after5_unknown-schedule : Case
after5_unknown-schedule = diagnoses after5_unknown schedule 2 1536 9 2 false (hex 12 0x0500ff01ff010400ff05ff05)

after5_unknown-schedule-comes-out : ComesOut after5_unknown-schedule
unfolding run
after5_unknown-schedule-comes-out = refl

-- after a 6 too
--     resource d
--     resource a.d
--     domain a
--       associate d zz
--   => refused 9; D 6 a - d; D 4 a zz zz
abbrev after6_unknown : List ℕ
after6_unknown = hex 36 0x1050b085910e4cae6deeae4c6ca473656c6613d3d030120000080a000000009201020000

abbrev after6_unknown-schedule : Case
after6_unknown-schedule = diagnoses after6_unknown schedule 2 1536 9 2 false (hex 12 0x0600ffffff010400ff04ff04)

after6_unknown-schedule-comes-out : ComesOut after6_unknown-schedule
unfolding run
after6_unknown-schedule-comes-out = refl

-- 5 goes before 6
--     domain f
--     resource a.f
--     domain a
--       associate f
--   => refused 9; D 5 a f f
abbrev not6_where5 : List ℕ
not6_where5 = hex 32 0x1040b085990e4cae6deeae4c6ca473656c660602000001014000000012202000

abbrev not6_where5-schedule : Case
not6_where5-schedule = diagnoses not6_where5 schedule 2 1536 9 1 false (hex 6 0x0500ff01ff01)

not6_where5-schedule-comes-out : ComesOut not6_where5-schedule
unfolding run
not6_where5-schedule-comes-out = refl

-- 5 names the first class that does not fit
--     domain f
--     domain x.f
--     domain a
--       nest x.f
--     domain b
--       nest f
--     domain c : a b
--   => refused 9; D 5 c f f
abbrev first_no_resource : List ℕ
first_no_resource = hex 48 0x1070b085882c616643932b9b7bab931b291cd95b1982f0140c00001a06000000002840e0c004002840c0080400010000

abbrev first_no_resource-schedule : Case
first_no_resource-schedule = diagnoses first_no_resource schedule 2 1536 9 1 false (hex 6 0x0502ff03ff03)

first_no_resource-schedule-comes-out : ComesOut first_no_resource-schedule
unfolding run
first_no_resource-schedule-comes-out = refl

-- the variant `other` is no resource
--     other f
--     domain a
--       associate f
--   => refused 9; D 5 a f f
abbrev other_variant : List ℕ
other_variant = hex 28 0x1040b085990e4cae6deeae4c6ca473656c6604028000000012202000

abbrev other_variant-schedule : Case
other_variant-schedule = diagnoses other_variant schedule 2 1536 9 1 false (hex 6 0x0500ff01ff01)

other_variant-schedule-comes-out : ComesOut other_variant-schedule
unfolding run
other_variant-schedule-comes-out = refl

-- Associates go by their word lists
--     domain a
--       associate m zz
--       associate k yy
--   => refused 9; D 4 a k k; D 4 a m m
abbrev word_lists : List ℕ
word_lists = hex 36 0x1070b085ac2da87265736f75726365239b2b63309e5e44f4f4040000448080c240205000

abbrev word_lists-schedule : Case
word_lists-schedule = diagnoses word_lists schedule 2 1536 9 2 false (hex 12 0x0400ff01ff010400ff02ff02)

word_lists-schedule-comes-out : ComesOut word_lists-schedule
unfolding run
word_lists-schedule-comes-out = refl

-- the dedup splits an earlier entry into its rest and what it shares; a newcomer's own rest goes last
--     domain p
--       nest m z
--     domain q
--       nest a m
--     domain t : p q
--   => refused 9; D 4 t z z; D 4 t m m; D 4 t a a
abbrev dedup_order : List ℕ
dedup_order = hex 44 0x1080b085b42e017143932b9b7bab931b291cd95b1982e817a0604001440207003000a2000080300808060000

abbrev dedup_order-schedule : Case
dedup_order-schedule = diagnoses dedup_order schedule 2 1536 9 3 false (hex 18 0x0406ff07ff070406ff01ff010406ff00ff00)

dedup_order-schedule-comes-out : ComesOut dedup_order-schedule
unfolding run
dedup_order-schedule-comes-out = refl

-- newcomers by listing
--     domain p
--       nest m z
--     domain q
--       nest a m
--     domain t : q p
--   => refused 9; D 4 t a a; D 4 t m m; D 4 t z z
abbrev dedup_turned : List ℕ
dedup_turned = hex 44 0x1080b085b42e017143932b9b7bab931b291cd95b1982e817a0604001440207003000a200008030080c040000

abbrev dedup_turned-schedule : Case
dedup_turned-schedule = diagnoses dedup_turned schedule 2 1536 9 3 false (hex 18 0x0406ff00ff000406ff01ff010406ff07ff07)

dedup_turned-schedule-comes-out : ComesOut dedup_turned-schedule
unfolding run
dedup_turned-schedule-comes-out = refl

-- two identical own makings
--     resource f
--     resource g
--     domain a
--       associate f
--       associate f g
--   => refused 9; D 6 a - f
abbrev identical_own : List ℕ
identical_own = hex 36 0x1050b085982ce87265736f75726365239b2b633030120000220000000111011201010000

abbrev identical_own-schedule : Case
identical_own-schedule = diagnoses identical_own schedule 2 1536 9 1 false (hex 6 0x0600ffffff01)

identical_own-schedule-comes-out : ComesOut identical_own-schedule
unfolding run
identical_own-schedule-comes-out = refl

-- an own making of class P.r identical to the inherited one
--     resource p.f
--     resource q.f
--     domain p
--       nest q.f
--     domain t : p
--       associate p.f
--   => refused 9; D 6 t - f
abbrev identical_above : List ℕ
identical_above = hex 44 0x1060b305c02e287265736f75726365239b2b63305d0200c01000014010000080050804080280404244020200

abbrev identical_above-schedule : Case
identical_above-schedule = diagnoses identical_above schedule 2 1536 9 1 false (hex 6 0x0605ffffff00)

identical_above-schedule-comes-out : ComesOut identical_above-schedule
unfolding run
identical_above-schedule-comes-out = refl

-- unlike marks: two makings
--     resource p.f
--       mark makelist
--     resource q.f
--     domain p
--       nest q.f
--     domain t : p
--       associate p.f
--   => T p; T p.f; T q.f; T t; R t.f 0 p.f,resource makelist; R t.f 0 p.f,resource -; E t 00 f
abbrev marks_differ : List ℕ
marks_differ = hex 45 0x1060b305c02e287265736f75726365239b2b63305d0200c0100080a00800004002840204014020212201010000

abbrev marks_differ-schedule : Case
marks_differ-schedule = accepts marks_differ schedule 30 1536 28 0x080201800140014000605000500802060101400140200818020a0000

marks_differ-schedule-comes-out : ComesOut marks_differ-schedule
unfolding run
marks_differ-schedule-comes-out = refl

-- a type of the name T.r is declared
--     resource f
--     resource a.f
--     domain a
--       associate f
--   => refused 9; D 6 a - f
abbrev declared_name : List ℕ
declared_name = hex 32 0x1040b085990e4cae6deeae4c6ca473656c660602400001014000000012202000

abbrev declared_name-schedule : Case
declared_name-schedule = diagnoses declared_name schedule 2 1536 9 1 false (hex 6 0x0600ffffff01)

declared_name-schedule-comes-out : ComesOut declared_name-schedule
unfolding run
declared_name-schedule-comes-out = refl

abbrev pub cases : List Case
cases =
    refusal1-schedule ∷ refusal1-order ∷ refusal2-schedule ∷ refusal2-order ∷ refusal3-schedule ∷ refusal3-order ∷
    refusal4-schedule ∷ refusal4-order ∷ refusal5-schedule ∷ refusal5-order ∷ refusal6-schedule ∷ refusal6-order ∷
    refusal7-schedule ∷ refusal7-order ∷ refusal8-schedule ∷ refusal8-order ∷ refusal9-schedule ∷ refusal9-order ∷
    refusal10-schedule ∷ refusal10-order ∷ fits-schedule ∷ one_short-schedule ∷ order_fits-order ∷ order_one_short-order ∷
    longest_sheet-order ∷ first1-order ∷ first2-order ∷ first7-order ∷ first5-order ∷ first6-order ∷ first8-schedule ∷
    first9-schedule ∷ refusal17-schedule ∷ refusal17-order ∷ limit257-schedule ∷ limit257-order ∷ first1_limit-schedule ∷
    first1_limit-order ∷ first17-schedule ∷ first17-order ∷ largest_limit-schedule ∷ largest_limit-order ∷ limit64_short-schedule
    ∷ limit64_short-order ∷ limit64-schedule ∷ limit1-schedule ∷ limit1-order ∷ rows63-order ∷ rows64-schedule ∷ rows64-order ∷
    rows65-schedule ∷ rows65-order ∷ limit1_nine-schedule ∷ word_byte-order ∷ word_byte_missing-order ∷ word_bytes-order ∷
    word_byte47-order ∷ word_byte58-order ∷ word_byte64-order ∷ word_byte91-order ∷ word_byte94-order ∷ word_byte96-order ∷
    word_byte123-order ∷ word_bytes_behind-order ∷ word_byte44_behind-order ∷ word_byte46_behind-order ∷ hyphen_first-order ∷
    hyphen_second-order ∷ hyphen_leads-order ∷ hyphen_alone-order ∷ hyphen_last-order ∷ empty_word-order ∷ long_word-order ∷
    words1-order ∷ words200-order ∷ words201-order ∷ types64_missing-order ∷ extensions32-order ∷ extensions33-order ∷
    word_number-order ∷ variant3-order ∷ kind7-order ∷ annotations13-order ∷ annotations12-order ∷ marks7-order ∷
    nest_in_two_words-order ∷ associate_in_two_words-order ∷ no_resources-schedule ∷ no_resources-order ∷ no_extension_parent-order ∷
    every_kind-order ∷ no_self-order ∷ no_resource-order ∷ word_twice-order ∷ prefix_first-order ∷ fill-order ∷ more_bytes-order ∷
    two_words_twice-order ∷ key_twice-order ∷ keys_differ-order ∷ word_twice_in_associate-order ∷ word_twice_in_nest-order ∷
    equal_sets-order ∷ empty_sets-order ∷ unequal_sets-order ∷ inherit_twice-order ∷ inherits_differ-order ∷ derive_twice-order ∷
    alias_twice-order ∷ makelist_twice-order ∷ no_derive_twice-order ∷ tags_differ-order ∷ against_names-order ∷ next_round-order ∷
    one_word_first-order ∷ hyphen_before_dot-order ∷ hyphen_within_round-order ∷ hyphen_self-order ∷ hyphen_waiting-order ∷
    longest_chain-order ∷ self_twice-order ∷ self_waiting-order ∷ self_declared-order ∷ self_replaced-order ∷ self_in_two_words-order
    ∷ first_bad_parent-order ∷ repeated_parent-order ∷ through_path-order ∷ placed_parent-order ∷ rows256-schedule ∷ rows256-order
    ∷ rows257-schedule ∷ rows257-order ∷ two_doms-schedule ∷ far_doms-schedule ∷ united_doms-schedule ∷ own_doms-schedule ∷
    direct_parents-schedule ∷ own_sorted-schedule ∷ own_before_inherited-schedule ∷ words_and_doms-schedule ∷ three_orders-schedule ∷
    hyphen_types-schedule ∷ hyphen_parents-schedule ∷ twelve_own-schedule ∷ items_by_name-schedule ∷ virtual-schedule ∷
    repeated_marks-schedule ∷ other_kinds-schedule ∷ extensions-schedule ∷ three_words-schedule ∷ own_class-schedule ∷
    nest_alone-schedule ∷ nest_unknown-schedule ∷ nest_and_own-schedule ∷ failed_parent-schedule ∷ hyphen_tried-schedule ∷
    hyphen_unknown-schedule ∷ hyphen_no_resource-schedule ∷ listed_again-schedule ∷ fails_through-schedule ∷ row_unrefused-schedule
    ∷ unknown_ends-schedule ∷ after5-schedule ∷ after5_unknown-schedule ∷ after6_unknown-schedule ∷ not6_where5-schedule ∷
    first_no_resource-schedule ∷ other_variant-schedule ∷ word_lists-schedule ∷ dedup_order-schedule ∷ dedup_turned-schedule ∷
    identical_own-schedule ∷ identical_above-schedule ∷ marks_differ-schedule ∷ declared_name-schedule ∷ []

pub hold : AllComeOut cases
hold =
    refusal1-schedule-comes-out also refusal1-order-comes-out also refusal2-schedule-comes-out also refusal2-order-comes-out
    also refusal3-schedule-comes-out also refusal3-order-comes-out also refusal4-schedule-comes-out also
    refusal4-order-comes-out also refusal5-schedule-comes-out also refusal5-order-comes-out also refusal6-schedule-comes-out
    also refusal6-order-comes-out also refusal7-schedule-comes-out also refusal7-order-comes-out also
    refusal8-schedule-comes-out also refusal8-order-comes-out also refusal9-schedule-comes-out also refusal9-order-comes-out
    also refusal10-schedule-comes-out also refusal10-order-comes-out also fits-schedule-comes-out also
    one_short-schedule-comes-out also order_fits-order-comes-out also order_one_short-order-comes-out also
    longest_sheet-order-comes-out also first1-order-comes-out also first2-order-comes-out also first7-order-comes-out also
    first5-order-comes-out also first6-order-comes-out also first8-schedule-comes-out also first9-schedule-comes-out also
    refusal17-schedule-comes-out also refusal17-order-comes-out also limit257-schedule-comes-out also limit257-order-comes-out
    also first1_limit-schedule-comes-out also first1_limit-order-comes-out also first17-schedule-comes-out also
    first17-order-comes-out also largest_limit-schedule-comes-out also largest_limit-order-comes-out also
    limit64_short-schedule-comes-out also limit64_short-order-comes-out also limit64-schedule-comes-out also
    limit1-schedule-comes-out also limit1-order-comes-out also rows63-order-comes-out also rows64-schedule-comes-out also
    rows64-order-comes-out also rows65-schedule-comes-out also rows65-order-comes-out also limit1_nine-schedule-comes-out also
    word_byte-order-comes-out also word_byte_missing-order-comes-out also word_bytes-order-comes-out also
    word_byte47-order-comes-out also word_byte58-order-comes-out also word_byte64-order-comes-out also word_byte91-order-comes-out
    also word_byte94-order-comes-out also word_byte96-order-comes-out also word_byte123-order-comes-out also
    word_bytes_behind-order-comes-out also word_byte44_behind-order-comes-out also word_byte46_behind-order-comes-out also
    hyphen_first-order-comes-out also hyphen_second-order-comes-out also hyphen_leads-order-comes-out also
    hyphen_alone-order-comes-out also hyphen_last-order-comes-out also empty_word-order-comes-out also long_word-order-comes-out
    also words1-order-comes-out also words200-order-comes-out also words201-order-comes-out also
    types64_missing-order-comes-out also extensions32-order-comes-out also extensions33-order-comes-out also
    word_number-order-comes-out also variant3-order-comes-out also kind7-order-comes-out also annotations13-order-comes-out
    also annotations12-order-comes-out also marks7-order-comes-out also nest_in_two_words-order-comes-out also
    associate_in_two_words-order-comes-out also no_resources-schedule-comes-out also no_resources-order-comes-out also
    no_extension_parent-order-comes-out also every_kind-order-comes-out also no_self-order-comes-out also
    no_resource-order-comes-out also word_twice-order-comes-out also prefix_first-order-comes-out also fill-order-comes-out also
    more_bytes-order-comes-out also two_words_twice-order-comes-out also key_twice-order-comes-out also keys_differ-order-comes-out
    also word_twice_in_associate-order-comes-out also word_twice_in_nest-order-comes-out also equal_sets-order-comes-out also
    empty_sets-order-comes-out also unequal_sets-order-comes-out also inherit_twice-order-comes-out also
    inherits_differ-order-comes-out also derive_twice-order-comes-out also alias_twice-order-comes-out also
    makelist_twice-order-comes-out also no_derive_twice-order-comes-out also tags_differ-order-comes-out also
    against_names-order-comes-out also next_round-order-comes-out also one_word_first-order-comes-out also
    hyphen_before_dot-order-comes-out also hyphen_within_round-order-comes-out also hyphen_self-order-comes-out also
    hyphen_waiting-order-comes-out also longest_chain-order-comes-out also self_twice-order-comes-out also
    self_waiting-order-comes-out also self_declared-order-comes-out also self_replaced-order-comes-out also
    self_in_two_words-order-comes-out also first_bad_parent-order-comes-out also repeated_parent-order-comes-out also
    through_path-order-comes-out also placed_parent-order-comes-out also rows256-schedule-comes-out also rows256-order-comes-out
    also rows257-schedule-comes-out also rows257-order-comes-out also two_doms-schedule-comes-out also
    far_doms-schedule-comes-out also united_doms-schedule-comes-out also own_doms-schedule-comes-out also
    direct_parents-schedule-comes-out also own_sorted-schedule-comes-out also own_before_inherited-schedule-comes-out also
    words_and_doms-schedule-comes-out also three_orders-schedule-comes-out also hyphen_types-schedule-comes-out also
    hyphen_parents-schedule-comes-out also twelve_own-schedule-comes-out also items_by_name-schedule-comes-out also
    virtual-schedule-comes-out also repeated_marks-schedule-comes-out also other_kinds-schedule-comes-out also
    extensions-schedule-comes-out also three_words-schedule-comes-out also own_class-schedule-comes-out also
    nest_alone-schedule-comes-out also nest_unknown-schedule-comes-out also nest_and_own-schedule-comes-out also
    failed_parent-schedule-comes-out also hyphen_tried-schedule-comes-out also hyphen_unknown-schedule-comes-out also
    hyphen_no_resource-schedule-comes-out also listed_again-schedule-comes-out also fails_through-schedule-comes-out also
    row_unrefused-schedule-comes-out also unknown_ends-schedule-comes-out also after5-schedule-comes-out also
    after5_unknown-schedule-comes-out also after6_unknown-schedule-comes-out also not6_where5-schedule-comes-out also
    first_no_resource-schedule-comes-out also other_variant-schedule-comes-out also word_lists-schedule-comes-out also
    dedup_order-schedule-comes-out also dedup_turned-schedule-comes-out also identical_own-schedule-comes-out also
    identical_above-schedule-comes-out also marks_differ-schedule-comes-out also declared_name-schedule-comes-out also tt
