-- What is proved about reading a sheet and about the refusals. Each statement is a type of its own; its proof stands in the
-- file that is named beside it.
use Rattle.std.specs.Prelude.{Bool, true, false, cond, List, [], ◌∷◌, ◌++◌, ◌↔◌, ◌≡◌, ℕ, ◌*◌, ◌≤◌, ◌<◌, eqb, ltb, length, take}
use Rattle.definitions.specs.Records.{Sheet}
use Rattle.definitions.specs.Bits.{bits_of}
use Rattle.definitions.specs.Parse.{past, not_allowed, done, refused}
use Rattle.definitions.specs.Reading.{sheet}
use Rattle.definitions.specs.Checks.{bad_fill, bad_words, something_twice}
use Rattle.definitions.specs.Legal.{Every, WithinLimits, GoodWords, NothingTwice, Legal}
use Rattle.definitions.specs.Encoding.{sheet_bits, encode}
use Rattle.definitions.specs.Relisted.{Holds}
use Rattle.definitions.specs.Answer.{Settings, most_rows, bad_limit, Input, refused_by, rest_of, sheet_of, Refusal, bare, late_refusals, read_in, type_map_in, sheet_refusals, refusals, first_refusal, outcome}

-- each is a byte
abbrev pub Bytes : List ℕ → Type 0
Bytes l = Every (λ b. b < 256) l

-- ---- reading (RoundTrip.antt)

-- Nothing legal is refused: the bytes of a legal map are read to it, nothing but zero bits fills the last byte, and neither 1
-- nor 5 nor 6 turns it back.
abbrev pub NothingLegalIsRefused : Type 0
NothingLegalIsRefused = (s : Sheet) → Legal s → Holds (encode s) s × Bytes (encode s)

-- Nothing illegal is read: what is read, and passes 7, 5 and 6, is a legal map, and the bytes are its bytes.
abbrev pub NothingIllegalIsRead : Type 0
NothingIllegalIsRead =
    (bytes : List ℕ) (s : Sheet) (rest : List Bool) → Bytes bytes → sheet (bits_of bytes) ≡ done s rest → bad_fill rest ≡ false →
    bad_words s.words ≡ false → something_twice s ≡ false → Legal s × (bytes ≡ encode s)

-- Both in one: bytes hold a map exactly if it is legal and they are its bytes.
abbrev pub HeldExactly : Type 0
HeldExactly = (bytes : List ℕ) (s : Sheet) → Bytes bytes → Holds bytes s ↔ (Legal s × (bytes ≡ encode s))

-- Two legal maps have two sheets.
abbrev pub OneMap : Type 0
OneMap = (s t : Sheet) → Legal s → Legal t → encode s ≡ encode t → s ≡ t

-- Before 7, 5 and 6 are tested: a map is read exactly if its fields are within 01's limits and the bits begin with its bits.
abbrev pub ReadExactly : Type 0
ReadExactly = (bits : List Bool) (s : Sheet) (rest : List Bool) → (sheet bits ≡ done s rest) ↔ (WithinLimits s × (bits ≡ sheet_bits s ++ rest))

-- More bits make no value allowed that is not: the first field with a fault decides (FORMAT 2.1).
abbrev pub FourStays : Type 0
FourStays = (bits more : List Bool) → sheet bits ≡ refused not_allowed → sheet (bits ++ more) ≡ refused not_allowed

-- ---- what 7, 5 and 6 test (Rules.antt)

-- Test 7 passes exactly if fewer than 8 bits are left and all are zero (FORMAT 2.11).
abbrev pub FillExactly : Type 0
FillExactly = (rest : List Bool) → (bad_fill rest ≡ false) ↔ ((length rest < 8) × Every (λ b. b ≡ false) rest)

-- Test 5 passes exactly if the words ascend and `resource` and `self` are among them (FORMAT 1.2).
abbrev pub WordsExactly : Type 0
WordsExactly = (ws : List (List ℕ)) → (bad_words ws ≡ false) ↔ GoodWords ws

-- Test 6 passes exactly if nothing stands twice that may not (FORMAT 2.12).
abbrev pub TwiceExactly : Type 0
TwiceExactly = (s : Sheet) → (something_twice s ≡ false) ↔ NothingTwice s

-- ---- answers (Answers.antt)

-- none of them holds
abbrev pub NoneHolds : List Refusal → Type 0
NoneHolds l = Every (λ (q : Refusal). q.holds tt ≡ false) l

-- the refusals before the one with the number n
abbrev pub before : ℕ → List Refusal → List Refusal
before n [] = []
before n (r ∷ l) = cond (eqb r.number n) [] (r ∷ before n l)

-- the refusal with the number n; where none has it, one that never holds
abbrev pub refusal_of : ℕ → List Refusal → Refusal
refusal_of n [] = bare n (λ u. false)
refusal_of n (r ∷ l) = cond (eqb r.number n) r (refusal_of n l)

-- Each exactly on its condition: a number other than 0 is answered exactly if its refusal holds and none before it does.
abbrev pub EachOnItsCondition : Type 0
EachOnItsCondition =
    (i : Input) (n : ℕ) → 0 < n → ((outcome i).answer.number ≡ n) ↔ (NoneHolds (before n (refusals i)) × ((refusal_of n (refusals i)).holds tt ≡ true))

-- Acceptance exactly if none of the eleven holds.
abbrev pub AcceptedExactly : Type 0
AcceptedExactly = (i : Input) → ((outcome i).answer.number ≡ 0) ↔ NoneHolds (refusals i)

-- the tests, by their numbers
abbrev pub test1 : Input → Bool
test1 i = ltb 40960 (length i.sheet)

abbrev pub test17 : Input → Bool
test17 i = bad_limit i.settings

abbrev pub test2 : Input → Bool
test2 i = ltb (length i.diagnosis) (6 * i.settings.rows)

abbrev pub test3 : Input → Bool
test3 i = refused_by past (read_in i)

abbrev pub test4 : Input → Bool
test4 i = refused_by not_allowed (read_in i)

abbrev pub test7 : Input → Bool
test7 i = bad_fill (rest_of (read_in i))

abbrev pub test5 : Input → Bool
test5 i = bad_words (sheet_of (read_in i)).words

abbrev pub test6 : Input → Bool
test6 i = something_twice (sheet_of (read_in i))

abbrev pub Passes : List Bool → Type 0
Passes l = Every (λ b. b ≡ false) l

-- Each number exactly if its test holds and none before it does, in the order of the tests (FORMAT 7.3).
pub record ExactlyIf (i : Input) : Type 0 where
  pub one : ((outcome i).answer.number ≡ 1) ↔ (test1 i ≡ true)
  pub seventeen : ((outcome i).answer.number ≡ 17) ↔ (Passes (test1 i ∷ []) × (test17 i ≡ true))
  pub two : ((outcome i).answer.number ≡ 2) ↔ (Passes (test1 i ∷ test17 i ∷ []) × (test2 i ≡ true))
  pub three : ((outcome i).answer.number ≡ 3) ↔ (Passes (test1 i ∷ test17 i ∷ test2 i ∷ []) × (test3 i ≡ true))
  pub four : ((outcome i).answer.number ≡ 4) ↔ (Passes (test1 i ∷ test17 i ∷ test2 i ∷ []) × (test4 i ≡ true))
  pub seven : ((outcome i).answer.number ≡ 7) ↔ (Passes (test1 i ∷ test17 i ∷ test2 i ∷ test3 i ∷ test4 i ∷ []) × (test7 i ≡ true))
  pub five : ((outcome i).answer.number ≡ 5) ↔ (Passes (test1 i ∷ test17 i ∷ test2 i ∷ test3 i ∷ test4 i ∷ test7 i ∷ []) × (test5 i ≡ true))
  pub six : ((outcome i).answer.number ≡ 6) ↔ (Passes (test1 i ∷ test17 i ∷ test2 i ∷ test3 i ∷ test4 i ∷ test7 i ∷ test5 i ∷ []) × (test6 i ≡ true))

abbrev pub SheetTestsExactly : Type 0
SheetTestsExactly = (i : Input) → ExactlyIf i

-- Test 17 passes exactly if the limit is one of 1 to 256 (FORMAT 8.2).
abbrev pub LimitExactly : Type 0
LimitExactly = (s : Settings) → (bad_limit s ≡ false) ↔ ((0 < s.rows) × (s.rows ≤ 256))

-- neither 17 nor 2: the limit is allowed, and a diagnosis slice of so many bytes has six for each of its rows
pub record RowsFit (s : Settings) (bytes : ℕ) : Type 0 where
  pub some : 0 < s.rows
  pub few : s.rows ≤ most_rows
  pub room : 6 * s.rows ≤ bytes

abbrev pub AllFit : Input → Type 0
AllFit i = RowsFit i.settings (length i.diagnosis)

-- the input under another limit
abbrev pub limited : ℕ → Input → Input
limited n i = record { settings = record { rows = n }; call = i.call; sheet = i.sheet; listing = i.listing; diagnosis = i.diagnosis }

-- the tests before the order are passed with the sheet s: the bytes hold it, and the rows fit
pub record PastSheetTests (i : Input) (s : Sheet) : Type 0 where
  pub held : Holds i.sheet s
  pub fit : AllFit i

-- They are passed with a sheet exactly if none of them holds.
abbrev pub HeldPasses : Type 0
HeldPasses = (i : Input) (s : Sheet) → PastSheetTests i s → NoneHolds (sheet_refusals i)

abbrev pub PassedIsHeld : Type 0
PassedIsHeld = (i : Input) → NoneHolds (sheet_refusals i) → PastSheetTests i (sheet_of (read_in i))

-- A legal map passes the tests before the order, in each call whose limit is allowed and whose diagnosis slice is long enough:
-- what it answers is decided by 8, 9 and 10.
abbrev pub LegalPassesSheetTests : Type 0
LegalPassesSheetTests = (i : Input) (s : Sheet) → Legal s → i.sheet ≡ encode s → AllFit i → outcome i ≡ first_refusal i (late_refusals i (type_map_in i))

-- And no other input does.
abbrev pub OnlyLegalPassesSheetTests : Type 0
OnlyLegalPassesSheetTests = (i : Input) → Bytes i.sheet → NoneHolds (sheet_refusals i) → (s : Sheet) × Legal s × (i.sheet ≡ encode s) × AllFit i

-- A legal map's sheet that is cut short gives 3.
abbrev pub CutShort : Type 0
CutShort =
    (i : Input) (s : Sheet) (k : ℕ) → Legal s → k < length (encode s) → i.sheet ≡ take k (encode s) → AllFit i →
    (outcome i).answer.number ≡ 3

-- One with more bytes gives 7.
abbrev pub MoreBytes : Type 0
MoreBytes =
    (i : Input) (s : Sheet) (b : ℕ) (more : List ℕ) → Legal s → i.sheet ≡ encode s ++ b ∷ more → length i.sheet ≤ 40960 →
    AllFit i → (outcome i).answer.number ≡ 7
