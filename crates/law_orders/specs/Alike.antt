-- Relisted inputs: the refusals of the two are alike one by one, so the answers are.
use Rattle.std.specs.Prelude.{Bool, min, true, false, not, ◌≡◌, refl, ℕ, ◌*◌, eqb, ltb, drop}
use mathlib.Core.List.{List, [], ◌∷◌, ◌++◌}
use Rattle.std.proofs.Math.Path.{sym, ap, ap₂}
use Rattle.std.proofs.Common.{◌∙◌, subst₂, arith, le-ltb}
use Rattle.std.proofs.Math.ListN.{length, take}
use Rattle.std.proofs.Math.Seq.{take-nil, take-append_seam}
use Rattle.std.proofs.lemmas.Bool.{eqb-false, not-false}
use Rattle.lists.specs.Lists.{null}
use Rattle.lists.specs.Tests.{by}
use Rattle.definitions.specs.Records.{Sheet}
use Rattle.definitions.specs.Bits.{bits_of, size, pack}
use Rattle.definitions.specs.Parse.{Fault, past, not_allowed, Parsed}
use Rattle.definitions.specs.Reading.{sheet}
use Rattle.definitions.specs.Checks.{bad_fill, bad_words, something_twice}
use Rattle.definitions.specs.Map.{TypeMap, type_map_of, line_map_of}
use Rattle.definitions.specs.Order.{has_order, organize_type_map}
use Rattle.definitions.specs.Items.{items_of}
use Rattle.definitions.specs.Answer.{Settings, bad_limit, Call, schedule, order, Input, Outcome, overwrite, refused_by, rest_of, sheet_of, items_written, schedule_of, bits_written, Refusal, bare, synthesis_rows, early_refusals, reading_refusals, content_refusals, late_refusals, refusals, reject, read_in, type_map_in, accept, first_refusal, outcome}
use Rattle.definitions.specs.Relisted.{Holds, RelistedInputs, Alike}
use Rattle.law_orders.specs.Comparisons.{names-once}
use Rattle.law_orders.specs.Relisting.{relisted-map, relisted-order}

-- ---- lists of refusals

-- refusals that have one number, not 0, hold or do not hold alike, and name one size, as far as the first that holds
data Match : List Refusal → List Refusal → Type 0 where
  none : Match [] []
  next : {r q : Refusal} {l k : List Refusal} → eqb r.number 0 ≡ false → r.number ≡ q.number → r.holds tt ≡ q.holds tt → r.size tt ≡ q.size tt
      → (r.holds tt ≡ false → Match l k) → Match (r ∷ l) (q ∷ k)

-- one list behind the other
match-append : {l k l' k' : List Refusal} → Match l k → Match l' k' → Match (l ++ l') (k ++ k')
match-append none m = m
match-append (next p n h z f) m = next p n h z (λ e. match-append (f e) m)

pub first_holds : (i : Input) (r : Refusal) (l : List Refusal) → r.holds tt ≡ true → first_refusal i (r ∷ l) ≡ reject i r
unfolding first_refusal
first_holds i r l e = rw (e, first_refusal)

pub first-passed : (i : Input) (r : Refusal) (l : List Refusal) → r.holds tt ≡ false → first_refusal i (r ∷ l) ≡ first_refusal i l
unfolding first_refusal
first-passed i r l e = rw (e, first_refusal)

-- a refusal without rows names none, and leaves both slices
pub rowless : (i : Input) (r : Refusal) → r.rows tt ≡ []
    → reject i r ≡ record { answer = record { number = r.number; size = r.size tt; rows = 0; more = false }; listing = i.listing; diagnosis = i.diagnosis }
unfolding reject
rowless i r e =
    let few : min i.settings.rows 0 ≡ 0 = omega arith in
    rw (e, few, le-ltb i.settings.rows 0 (omega arith), take-nil i.settings.rows)

-- one without rows and size names nothing but its number
pub bare-alone : (i : Input) (n : ℕ) (test : Unit {0} → Bool)
    → reject i (bare n test) ≡ record { answer = record { number = n; size = 0; rows = 0; more = false }; listing = i.listing; diagnosis = i.diagnosis }
bare-alone i n test = rowless i (bare n test) refl

-- two outcomes have one number and one size, and where the number is 0 the bytes written are equal
record Same (x y : Outcome) : Type 0 where
  number : x.answer.number ≡ y.answer.number
  size : x.answer.size ≡ y.answer.size
  written : x.answer.number ≡ 0 → take x.answer.size x.listing ≡ take y.answer.size y.listing

refuse-same : (i j : Input) (r q : Refusal) → eqb r.number 0 ≡ false → r.number ≡ q.number → r.size tt ≡ q.size tt → Same (reject i r) (reject j q)
unfolding reject
refuse-same i j r q p n z = record { number = n; size = z; written = λ e. absurd (eqb-false r.number 0 p e) }

match-same : (i j : Input) → Same (accept i) (accept j) → {l k : List Refusal} → Match l k → Same (first_refusal i l) (first_refusal j k)
unfolding first_refusal
match-same i j a none = a
match-same i j a (next {r = r} {q = q} {l = l} {k = k} p n h z m) =
    by (r.holds tt)
    (λ e. subst₂ Same (sym (first_holds i r l e)) (sym (first_holds j q k (sym h ∙ e))) (refuse-same i j r q p n z))
    (λ e. subst₂ Same (sym (first-passed i r l e)) (sym (first-passed j q k (sym h ∙ e))) (match-same i j a (m e)))

-- ---- what was read

-- what each test sees of bytes that hold a sheet
module _ {bytes : List ℕ} {s : Sheet} (h : Holds bytes s) where
  abbrev r : Parsed Sheet
  r = sheet (bits_of bytes)

  pub not-long : ltb 40960 (length bytes) ≡ false
  not-long = le-ltb 40960 (length bytes) h.short

  pub not-refused : (f : Fault) → refused_by f r ≡ false
  not-refused f = ap (refused_by f) h.read

  pub not-filled : bad_fill (rest_of r) ≡ false
  not-filled = ap (λ (p : Parsed Sheet). bad_fill (rest_of p)) h.read ∙ h.fill

  pub good-words : bad_words (sheet_of r).words ≡ false
  good-words = ap (λ (p : Parsed Sheet). bad_words (sheet_of p).words) h.read ∙ h.words

  pub nothing-twice : something_twice (sheet_of r) ≡ false
  nothing-twice = ap (λ (p : Parsed Sheet). something_twice (sheet_of p)) h.read ∙ h.once

  pub map_read : type_map_of (sheet_of r) ≡ type_map_of s
  map_read = ap (λ (p : Parsed Sheet). type_map_of (sheet_of p)) h.read

-- ---- two inputs

-- maps with one order, and one map as the lines see it, have one schedule
items-same : (c : Call) (m n : TypeMap) → line_map_of m ≡ line_map_of n → items_written c m ≡ items_written c n
items-same schedule m n e = ap items_of e
items-same order m n e = refl

schedule-same : (c : Call) (m n : TypeMap) → organize_type_map m ≡ organize_type_map n → line_map_of m ≡ line_map_of n → schedule_of c m ≡ schedule_of c n
unfolding schedule_of
schedule-same c m n o e = λ i. record { order = o i; items = items-same c m n e i }

-- where the bytes hold the sheets that they are read to
module _ (i j : Input) (h : RelistedInputs i j) (left : Holds i.sheet h.s) (right : Holds j.sheet h.t) where
  orders : (has_order (type_map_of h.s) ≡ has_order (type_map_of h.t)) × (organize_type_map (type_map_of h.s) ≡ organize_type_map (type_map_of h.t))
  orders = relisted-order h.s h.t (names-once h.s left.once) h.relisted

  maps : line_map_of (type_map_of h.s) ≡ line_map_of (type_map_of h.t)
  maps = relisted-map h.s h.t (names-once h.s left.once) h.relisted

  has-order : has_order (type_map_in i) ≡ has_order (type_map_in j)
  unfolding type_map_in
  has-order = ap has_order (map_read left) ∙ orders.0 ∙ sym (ap has_order (map_read right))

  pub schedules : schedule_of i.call (type_map_in i) ≡ schedule_of j.call (type_map_in j)
  unfolding type_map_in
  schedules =
      ap (schedule_of i.call) (map_read left)
      ∙ schedule-same i.call (type_map_of h.s) (type_map_of h.t) orders.1 maps
      ∙ ap₂ schedule_of h.call (sym (map_read right))

  bits : bits_written i.call (schedule_of i.call (type_map_in i)) ≡ bits_written j.call (schedule_of j.call (type_map_in j))
  bits = ap₂ bits_written h.call schedules

  accept-same : Same (accept i) (accept j)
  unfolding accept
  accept-same =
      let written : (k : Input) (b : List ℕ) → take (length b) (overwrite b k.listing) ≡ b = λ k b. take-append_seam b (drop (length b) k.listing) in
      record { number = refl; size = ap (λ b. length (pack b)) bits; written = λ e. written i (pack _) ∙ ap pack bits ∙ sym (written j (pack _)) }

  -- where there is an order, and the synthesis leaves no row of the one exactly if it leaves none of the other
  module _ (rows : has_order (type_map_in i) ≡ true → null (synthesis_rows i.call (type_map_in i)) ≡ null (synthesis_rows j.call (type_map_in j))) where
    early : Match (early_refusals i) (early_refusals j)
    early =
        next refl refl (not-long left ∙ sym (not-long right)) refl
        (λ e. next refl refl (ap bad_limit h.settings) refl
        (λ e. next refl refl (ap₂ (λ n (c : Settings). ltb n (6 * c.rows)) h.diagnosis h.settings) refl
        (λ e. none)))

    reading : Match (reading_refusals (read_in i)) (reading_refusals (read_in j))
    reading =
        next refl refl (not-refused left past ∙ sym (not-refused right past)) refl
        (λ e. next refl refl (not-refused left not_allowed ∙ sym (not-refused right not_allowed)) refl
        (λ e. next refl refl (not-filled left ∙ sym (not-filled right)) refl
        (λ e. none)))

    content : Match (content_refusals (sheet_of (read_in i))) (content_refusals (sheet_of (read_in j)))
    content =
        next refl refl (good-words left ∙ sym (good-words right)) refl
        (λ e. next refl refl (nothing-twice left ∙ sym (nothing-twice right)) refl
        (λ e. none))

    late : Match (late_refusals i (type_map_in i)) (late_refusals j (type_map_in j))
    late =
        next refl refl (ap not has-order) refl
        (λ o. next refl refl (ap not (rows (not-false (has_order (type_map_in i)) o))) refl
        (λ e. next refl refl (ap₂ (λ n b. ltb n (size (length b))) h.listing bits) (ap (λ b. size (length b)) bits)
        (λ e. none)))

    matches : Match (refusals i) (refusals j)
    unfolding refusals
    matches = match-append (match-append (match-append early reading) content) late

    pub alike : Alike i j
    unfolding outcome
    alike = let k = match-same i j accept-same matches in record { number = k.number; size = k.size; written = k.written }
