-- Pairs of different bytes that are relisted, through both calls: accepted, and refused by 17, 2, 8, 9 and 10. In the pairs of 8
-- and 9 the rows differ: they aren't compared. A pair that 5 would refuse is answered by 2 where the diagnosis slice is too
-- short, and by 17 where the limit is too high.
use Rattle.std.specs.Prelude.{false, List, [], ◌∷◌, ◌≡◌, refl, ℕ, eqb, take, drop, replicate}
use mathlib.Core.List.Permᴰ
use Rattle.std.proofs.Common.{eq-eqb, arith, lit≤, lit<}
use Rattle.std.proofs.lemmas.List.{length-replicate}
use Rattle.lists.specs.Lists.{any}
use Rattle.lists.specs.Tests.{never, any-not}
use Rattle.definitions.specs.Records.{Name, associate, nest_associate, Annotation, Variant, domain, resource, TypeInfo, Sheet}
use Rattle.definitions.specs.Bits.{bits_of}
use Rattle.definitions.specs.Reading.{sheet}
use Rattle.definitions.specs.Checks.{resource_bytes, self_bytes}
use Rattle.definitions.specs.Answer.{Call, schedule, order, Input, Answer, standard, rest_of, schedule_of, type_map_in, outcome}
use Rattle.definitions.specs.Relisted.{end, and, Relisted, Holds, left_out, Compared, RelistedInputs, Alike}
use Rattle.definitions.specs.Cases.{hex, lent, run}
use Rattle.law_orders.specs.Relisting.{relist-parents}
use Rattle.law_reading.specs.Statements.{limited}
use Rattle.law_relisting.specs.Statements.{number_alone}
use Rattle.law_relisting.proofs.Alike.{answers-alike, schedules-equal, listings-equal, held-is-compared, wrong-limits-alike, short-slices-alike}

-- ---- types and inputs

abbrev type : ℕ → Variant → List Name → List Annotation → TypeInfo
type w v ps xs = record { name = w ∷ []; variant = v; virtual = false; trait = false; parents = ps; annotations = xs; marks = [] }

abbrev pub asked : Call → List ℕ → ℕ → ℕ → Input
asked c bytes l d = record { settings = standard; call = c; sheet = bytes; listing = lent l; diagnosis = lent d }

-- bytes that hold relisted sheets go to one call with slices of equal lengths
pair : (c : Call) (l d : ℕ) {a b : List ℕ} {s t : Sheet} → Holds a s → Holds b t → Relisted s t → RelistedInputs (asked c a l d) (asked c b l d)
pair c l d {a = a} {b = b} {s = s} {t = t} h k r = record {
  settings = refl;
  call = refl;
  listing = refl;
  diagnosis = refl;
  s = s;
  t = t;
  left = record { rest = h.rest; read = h.read };
  right = record { rest = k.rest; read = k.read };
  relisted = r;
  left_compared = held-is-compared (asked c a l d) s h;
  right_compared = held-is-compared (asked c b l d) t k;
}

abbrev answer : ℕ → ℕ → ℕ → Answer
answer number size rows = record { number = number; size = size; rows = rows; more = false }

-- ---- accepted, 2 and 10

-- resource f
-- domain a
--   associate f
-- domain b : a
-- domain c : a b
abbrev pub listed : List ℕ
listed = hex 41 0x1060b085882c616643932b9b7bab931b291cd95b198201900000000488180080400000804000100000

-- records shuffled, parents reordered and repeated
-- domain c : b a b
-- domain b : a a
-- resource f
-- domain a
--   associate f
abbrev pub relisted : List ℕ
relisted = hex 43 0x1060b085882c616643932b9b7bab931b291cd95b19820100c04000100010100000000c800000002440c000

abbrev a : Name
a = 0 ∷ []

abbrev b : Name
b = 1 ∷ []

abbrev associates : List Annotation
associates = associate (record { word = 3; dom = [] } ∷ []) ∷ []

abbrev sheet_a : List TypeInfo → Sheet
sheet_a ts = record { words = (97 ∷ []) ∷ (98 ∷ []) ∷ (99 ∷ []) ∷ (102 ∷ []) ∷ resource_bytes ∷ self_bytes ∷ []; types = ts; extensions = [] }

abbrev listed_sheet : Sheet
listed_sheet = sheet_a (type 3 resource [] [] ∷ type 0 domain [] associates ∷ type 1 domain (a ∷ []) [] ∷ type 2 domain (a ∷ b ∷ []) [] ∷ [])

abbrev relisted_sheet : Sheet
relisted_sheet = sheet_a (type 2 domain (b ∷ a ∷ b ∷ []) [] ∷ type 1 domain (a ∷ a ∷ []) [] ∷ type 3 resource [] [] ∷ type 0 domain [] associates ∷ [])

listed-holds : Holds listed listed_sheet
unfolding run
listed-holds = record { rest = rest_of (sheet (bits_of listed)); short = lit≤ tt; read = refl; fill = refl; words = refl; once = refl }

relisted-holds : Holds relisted relisted_sheet
unfolding run
relisted-holds = record { rest = rest_of (sheet (bits_of relisted)); short = lit≤ tt; read = refl; fill = refl; words = refl; once = refl }

records-relisted : Relisted listed_sheet relisted_sheet
records-relisted = record {
  words = refl;
  extensions = refl;
  shuffled = type 2 domain (a ∷ b ∷ []) [] ∷ type 1 domain (a ∷ []) [] ∷ type 3 resource [] [] ∷ type 0 domain [] associates ∷ [];
  shuffle =
      Permᴰ.trans (Permᴰ.cons refl (Permᴰ.swap refl refl))
      (Permᴰ.trans (Permᴰ.swap refl refl)
      (Permᴰ.trans (Permᴰ.cons refl (Permᴰ.cons refl (Permᴰ.swap refl refl)))
      (Permᴰ.trans (Permᴰ.cons refl (Permᴰ.swap refl refl)) (Permᴰ.swap refl refl))));
  types =
      and (relist-parents (type 2 domain (a ∷ b ∷ []) []) (b ∷ a ∷ b ∷ []) refl refl)
      (and (relist-parents (type 1 domain (a ∷ []) []) (a ∷ a ∷ []) refl refl)
      (and (relist-parents (type 3 resource [] []) [] refl refl)
      (and (relist-parents (type 0 domain [] associates) [] refl refl) end)));
}

pub both : (c : Call) (l d : ℕ) → RelistedInputs (asked c listed l d) (asked c relisted l d)
both c l d = pair c l d listed-holds relisted-holds records-relisted

both-alike : (c : Call) (l d : ℕ) → Alike (asked c listed l d) (asked c relisted l d)
both-alike c l d = answers-alike (asked c listed l d) (asked c relisted l d) (both c l d)

both_bytes : (c : Call) (l d : ℕ) → (outcome (asked c listed l d)).listing ≡ (outcome (asked c relisted l d)).listing
both_bytes c l d = listings-equal (asked c listed l d) (asked c relisted l d) (both c l d) refl

-- through the schedule call and through the order-only call
accepted : ((outcome (asked schedule listed 40 1536)).answer ≡ answer 0 39 0) × ((outcome (asked order listed 40 1536)).answer ≡ answer 0 6 0)
unfolding run
accepted = (refl, refl)

both-schedules : (c : Call) (l d : ℕ) → (outcome (asked c listed l d)).answer.number ≡ 0
    → schedule_of c (type_map_in (asked c listed l d)) ≡ schedule_of c (type_map_in (asked c relisted l d))
both-schedules c l d = schedules-equal (asked c listed l d) (asked c relisted l d) (both c l d)

-- the second listing lent with other bytes in it: the 39 bytes written are equal, the one behind them is not
abbrev zeros : ℕ → Input
zeros l = record { settings = standard; call = schedule; sheet = relisted; listing = replicate l 0; diagnosis = lent 1536 }

over_zeros : Alike (asked schedule listed 40 1536) (zeros 40)
over_zeros =
    let h = both schedule 40 1536 in
    answers-alike (asked schedule listed 40 1536) (zeros 40) (record {
      settings = refl;
      call = refl;
      listing = refl;
      diagnosis = refl;
      s = h.s;
      t = h.t;
      left = h.left;
      right = h.right;
      relisted = h.relisted;
      left_compared = h.left_compared;
      right_compared = held-is-compared (zeros 40) relisted_sheet relisted-holds;
    })

over-zeros-written : take 39 (outcome (asked schedule listed 40 1536)).listing ≡ take 39 (outcome (zeros 40)).listing
unfolding run
over-zeros-written = over_zeros.written refl

over-zeros-behind : (drop 39 (outcome (asked schedule listed 40 1536)).listing ≡ 170 ∷ []) × (drop 39 (outcome (zeros 40)).listing ≡ 0 ∷ [])
unfolding run
over-zeros-behind = (refl, refl)

slice-short : ((outcome (asked schedule listed 40 1535)).answer ≡ answer 2 0 0) × ((outcome (asked order listed 40 1535)).answer ≡ answer 2 0 0)
unfolding run
slice-short = (refl, refl)

listing-short : ((outcome (asked schedule listed 5 1536)).answer ≡ answer 10 39 0) × ((outcome (asked order listed 5 1536)).answer ≡ answer 10 6 0)
unfolding run
listing-short = (refl, refl)

-- ---- 2 where 5 would refuse

-- the number answered, computed, is none that is left out
compared : (i : Input) → any (eqb (outcome i).answer.number) left_out ≡ false → Compared i
compared i e m = never (eq-eqb (outcome i).answer.number (outcome i).answer.number refl) (any-not (eqb (outcome i).answer.number) e m)

-- words! self resource
abbrev unordered : List ℕ
unordered = hex 17 0x102239b2b63321c995cdbdd5c98d940000

-- words! self resource
-- domain self
-- domain resource : self resource
abbrev unordered_types : List ℕ
unordered_types = hex 25 0x102239b2b63321c995cdbdd5c98d9410000000080800020000

-- words! self resource
-- domain resource : resource self self
-- domain self
abbrev unordered_turned : List ℕ
unordered_turned = hex 26 0x102239b2b63321c995cdbdd5c98d9410080c0400000000000000

abbrev sheet_d : List TypeInfo → Sheet
sheet_d ts = record { words = self_bytes ∷ resource_bytes ∷ []; types = ts; extensions = [] }

unordered-pair : (c : Call) (l : ℕ) → RelistedInputs (asked c unordered l 1535) (asked c unordered l 1535)
unfolding run
unordered-pair c l = record {
  settings = refl;
  call = refl;
  listing = refl;
  diagnosis = refl;
  s = sheet_d [];
  t = sheet_d [];
  left = record { rest = rest_of (sheet (bits_of unordered)); read = refl };
  right = record { rest = rest_of (sheet (bits_of unordered)); read = refl };
  relisted = record { words = refl; extensions = refl; shuffled = []; shuffle = Permᴰ.nil; types = end };
  left_compared = compared (asked c unordered l 1535) refl;
  right_compared = compared (asked c unordered l 1535) refl;
}

unordered-turned : (c : Call) (l : ℕ) → RelistedInputs (asked c unordered_types l 1535) (asked c unordered_turned l 1535)
unfolding run
unordered-turned c l = record {
  settings = refl;
  call = refl;
  listing = refl;
  diagnosis = refl;
  s = sheet_d (type 0 domain [] [] ∷ type 1 domain (a ∷ b ∷ []) [] ∷ []);
  t = sheet_d (type 1 domain (b ∷ a ∷ a ∷ []) [] ∷ type 0 domain [] [] ∷ []);
  left = record { rest = rest_of (sheet (bits_of unordered_types)); read = refl };
  right = record { rest = rest_of (sheet (bits_of unordered_turned)); read = refl };
  relisted = record {
    words = refl;
    extensions = refl;
    shuffled = type 1 domain (a ∷ b ∷ []) [] ∷ type 0 domain [] [] ∷ [];
    shuffle = Permᴰ.swap refl refl;
    types = and (relist-parents (type 1 domain (a ∷ b ∷ []) []) (b ∷ a ∷ a ∷ []) refl refl) (and (relist-parents (type 0 domain [] []) [] refl refl) end);
  };
  left_compared = compared (asked c unordered_types l 1535) refl;
  right_compared = compared (asked c unordered_turned l 1535) refl;
}

-- 2 on both sides; with one byte more it would be 5, which is left out
unordered-alike : (c : Call) (l : ℕ) → Alike (asked c unordered l 1535) (asked c unordered l 1535)
unordered-alike c l = answers-alike (asked c unordered l 1535) (asked c unordered l 1535) (unordered-pair c l)

unordered-turned-alike : (c : Call) (l : ℕ) → Alike (asked c unordered_types l 1535) (asked c unordered_turned l 1535)
unordered-turned-alike c l = answers-alike (asked c unordered_types l 1535) (asked c unordered_turned l 1535) (unordered-turned c l)

unordered-refused : ((outcome (asked schedule unordered_types 5 1535)).answer ≡ answer 2 0 0) × ((outcome (asked schedule unordered_types 5 1536)).answer ≡ answer 5 0 0)
unfolding run
unordered-refused = (refl, refl)

-- sheets that can't be read, an empty one and 40,960 zeros, of two calls: 2 of both
unread-alike : (outcome (asked schedule [] 3 1535) ≡ number_alone 2 (asked schedule [] 3 1535))
    × (outcome (asked order (replicate 40960 0) 0 0) ≡ number_alone 2 (asked order (replicate 40960 0) 0 0))
unread-alike =
    short-slices-alike (asked schedule [] 3 1535) (asked order (replicate 40960 0) 0 0)
    (record { sheet = lit≤ tt; limit = refl; diagnosis = lit< tt })
    (record { sheet = omega (arith, length-replicate {A = ℕ} 40960 0); limit = refl; diagnosis = lit< tt })

-- ---- 17 where 5 would refuse

unordered-limited : (c : Call) (l : ℕ) → RelistedInputs (limited 257 (asked c unordered_types l 1542)) (limited 257 (asked c unordered_turned l 1542))
unfolding run
unordered-limited c l =
    let h = unordered-turned c l in
    record {
      settings = refl;
      call = refl;
      listing = refl;
      diagnosis = refl;
      s = h.s;
      t = h.t;
      left = h.left;
      right = h.right;
      relisted = h.relisted;
      left_compared = compared (limited 257 (asked c unordered_types l 1542)) refl;
      right_compared = compared (limited 257 (asked c unordered_turned l 1542)) refl;
    }

-- 17 on both sides; under a limit of 256 it would be 5, which is left out
limited-alike : (c : Call) (l : ℕ) → Alike (limited 257 (asked c unordered_types l 1542)) (limited 257 (asked c unordered_turned l 1542))
limited-alike c l =
    answers-alike (limited 257 (asked c unordered_types l 1542)) (limited 257 (asked c unordered_turned l 1542)) (unordered-limited c l)

limited-refused : (outcome (limited 257 (asked schedule unordered_types 5 1542))).answer ≡ answer 17 0 0
unfolding run
limited-refused = refl

-- sheets that can't be read, of two calls under two limits: 17 of both
unread-limited : (outcome (limited 0 (asked schedule [] 3 0)) ≡ number_alone 17 (limited 0 (asked schedule [] 3 0)))
    × (outcome (limited 4294967295 (asked order (replicate 40960 0) 0 0)) ≡ number_alone 17 (limited 4294967295 (asked order (replicate 40960 0) 0 0)))
unread-limited =
    wrong-limits-alike (limited 0 (asked schedule [] 3 0)) (limited 4294967295 (asked order (replicate 40960 0) 0 0))
    (record { sheet = lit≤ tt; limit = refl })
    (record { sheet = omega (arith, length-replicate {A = ℕ} 40960 0); limit = refl })

-- ---- 8, with other rows

-- domain a : a b
abbrev cyclic : List ℕ
cyclic = hex 25 0x1040b085890e4cae6deeae4c6ca473656c6602000200008000

-- domain a : b a
abbrev undeclared : List ℕ
undeclared = hex 25 0x1040b085890e4cae6deeae4c6ca473656c6602000201000000

abbrev sheet_b : List Name → Sheet
sheet_b ps = record { words = (97 ∷ []) ∷ (98 ∷ []) ∷ resource_bytes ∷ self_bytes ∷ []; types = type 0 domain ps [] ∷ []; extensions = [] }

cyclic-holds : Holds cyclic (sheet_b (a ∷ b ∷ []))
unfolding run
cyclic-holds = record { rest = rest_of (sheet (bits_of cyclic)); short = lit≤ tt; read = refl; fill = refl; words = refl; once = refl }

undeclared-holds : Holds undeclared (sheet_b (b ∷ a ∷ []))
unfolding run
undeclared-holds = record { rest = rest_of (sheet (bits_of undeclared)); short = lit≤ tt; read = refl; fill = refl; words = refl; once = refl }

no-order-alike : (c : Call) (l d : ℕ) → Alike (asked c cyclic l d) (asked c undeclared l d)
no-order-alike c l d =
    answers-alike (asked c cyclic l d) (asked c undeclared l d) (pair c l d cyclic-holds undeclared-holds (record {
      words = refl;
      extensions = refl;
      shuffled = type 0 domain (a ∷ b ∷ []) [] ∷ [];
      shuffle = Permᴰ.cons refl Permᴰ.nil;
      types = and (relist-parents (type 0 domain (a ∷ b ∷ []) []) (b ∷ a ∷ []) refl refl) end;
    }))

no-order : ((outcome (asked schedule cyclic 5 1536)).answer ≡ answer 8 0 1) × ((outcome (asked order cyclic 5 1536)).answer ≡ answer 8 0 1)
unfolding run
no-order = (refl, refl)

no-order-rows : (take 6 (outcome (asked order cyclic 5 1536)).diagnosis ≡ hex 6 0x0200ff00ffff)
    × (take 6 (outcome (asked order undeclared 5 1536)).diagnosis ≡ hex 6 0x0300ff01ffff)
unfolding run
no-order-rows = (refl, refl)

-- ---- 9, with other rows; the order-only call accepts

-- domain b
--   nest y
-- domain c
--   nest x
-- domain d : b c
abbrev unknown : List ℕ
unknown = hex 40 0x1070b1058c2c887265736f75726365239b2b63305e02f20c00002841800400284140080400010000

-- domain d : c b c
-- domain c
--   nest x
-- domain b
--   nest y
abbrev unknown_turned : List ℕ
unknown_turned = hex 41 0x1070b1058c2c887265736f75726365239b2b63305e02f20c0806020000800080050828000005083000

abbrev nests : ℕ → List Annotation
nests w = nest_associate (record { word = w; dom = [] } ∷ []) ∷ []

abbrev sheet_c : List TypeInfo → Sheet
sheet_c ts = record {
  words = (98 ∷ []) ∷ (99 ∷ []) ∷ (100 ∷ []) ∷ resource_bytes ∷ self_bytes ∷ (120 ∷ []) ∷ (121 ∷ []) ∷ [];
  types = ts;
  extensions = [];
}

abbrev unknown_sheet : Sheet
unknown_sheet = sheet_c (type 0 domain [] (nests 6) ∷ type 1 domain [] (nests 5) ∷ type 2 domain (a ∷ b ∷ []) [] ∷ [])

abbrev unknown_turned_sheet : Sheet
unknown_turned_sheet = sheet_c (type 2 domain (b ∷ a ∷ b ∷ []) [] ∷ type 1 domain [] (nests 5) ∷ type 0 domain [] (nests 6) ∷ [])

unknown-holds : Holds unknown unknown_sheet
unfolding run
unknown-holds = record { rest = rest_of (sheet (bits_of unknown)); short = lit≤ tt; read = refl; fill = refl; words = refl; once = refl }

unknown-turned-holds : Holds unknown_turned unknown_turned_sheet
unfolding run
unknown-turned-holds = record { rest = rest_of (sheet (bits_of unknown_turned)); short = lit≤ tt; read = refl; fill = refl; words = refl; once = refl }

unknown-alike : (c : Call) (l d : ℕ) → Alike (asked c unknown l d) (asked c unknown_turned l d)
unknown-alike c l d =
    answers-alike (asked c unknown l d) (asked c unknown_turned l d) (pair c l d unknown-holds unknown-turned-holds (record {
      words = refl;
      extensions = refl;
      shuffled = type 2 domain (a ∷ b ∷ []) [] ∷ type 1 domain [] (nests 5) ∷ type 0 domain [] (nests 6) ∷ [];
      shuffle =
          Permᴰ.trans (Permᴰ.swap refl refl)
          (Permᴰ.trans (Permᴰ.cons refl (Permᴰ.swap refl refl)) (Permᴰ.swap refl refl));
      types =
          and (relist-parents (type 2 domain (a ∷ b ∷ []) []) (b ∷ a ∷ b ∷ []) refl refl)
          (and (relist-parents (type 1 domain [] (nests 5)) [] refl refl)
          (and (relist-parents (type 0 domain [] (nests 6)) [] refl refl) end));
    }))

unknown-refused : ((outcome (asked schedule unknown 5 1536)).answer ≡ answer 9 0 2) × ((outcome (asked order unknown 5 1536)).answer ≡ answer 0 5 0)
unfolding run
unknown-refused = (refl, refl)

unknown-rows : (take 12 (outcome (asked schedule unknown 5 1536)).diagnosis ≡ hex 12 0x0402ff06ff060402ff05ff05)
    × (take 12 (outcome (asked schedule unknown_turned 5 1536)).diagnosis ≡ hex 12 0x0402ff05ff050402ff06ff06)
unfolding run
unknown-rows = (refl, refl)
