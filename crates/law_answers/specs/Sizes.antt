-- Every part of an answer fits 32 bits, whatever the input: so a caller in C or Rust can be given three numbers of 32 bits.
use Rattle.std.specs.Prelude.{Bool, List, [], ◌∷◌, ◌++◌, ◌≡◌, refl, ℕ, ◌+◌, ◌*◌, ◌≤◌, length}
use Rattle.std.proofs.Common.{sym, ◌∙◌, subst, arith, length-append}
use Rattle.lists.specs.Tests.{by}
use Rattle.definitions.specs.Bits.{bits_of, size, pack}
use Rattle.definitions.specs.Records.{Sheet}
use Rattle.definitions.specs.Map.{TypeMap, type_map_of}
use Rattle.definitions.specs.Order.{organize_type_map}
use Rattle.definitions.specs.Legal.{Every}
use Rattle.definitions.specs.Packing.{order_bits, schedule_bits, counted_bits, item_bits}
use Rattle.definitions.specs.Answer.{most_rows, Call, schedule, order, Input, Outcome, sheet_of, items_written, schedule_of, bits_written, Refusal, bare, late_refusals, read_in, type_map_in, sheet_refusals, refusals, reject, accept, first_refusal, outcome}
use Rattle.bits.specs.NumberLaws.{length-pack_to}
use Rattle.law_lines.specs.Statements.{Readable}
use Rattle.law_lines.specs.Within.{Within}
use Rattle.law_lines.specs.Reading.{read-is-within}
use Rattle.law_lines.specs.Size.{schedule-at-most}
use Rattle.law_orders.specs.Alike.{first_holds, first-passed}
use Rattle.law_reading.specs.Statements.{NoneHolds, test1, test17}
use Rattle.law_reading.proofs.Answers.{limit-exactly, passed-is-held}

-- the largest size that is proved: 7 + 64 × 17 + 16 bits and 37,120 items of 4,515 bits
abbrev pub most : ℕ
most = 20950000

-- ---- the bits of either call

order-part : (m : TypeMap) → length (order_bits (organize_type_map m)) ≤ length (schedule_bits (schedule_of schedule m))
unfolding schedule_bits schedule_of
order-part m = omega (arith, length-append (order_bits (organize_type_map m)) (counted_bits 16 item_bits (items_written schedule m)))

few_bits : (c : Call) (s : Sheet) → Readable s → Within s → size (length (bits_written c (schedule_of c (type_map_of s)))) ≤ most
unfolding schedule_of
few_bits schedule s r w = omega (arith, schedule-at-most s r w)
few_bits order s r w = few (length (order_bits (organize_type_map (type_map_of s)))) (omega (arith, order-part (type_map_of s), schedule-at-most s r w))
  where
    few : (n : ℕ) → n ≤ 7 + 64 * 17 + 16 + 64 * (12 * 15 + 200 + 200) * 4515 → size n ≤ most
    few n h = omega (arith, h)

-- ---- the refusals that name no size

abbrev NoSize : List Refusal → Type 0
NoSize l = Every (λ (r : Refusal). r.size tt ≡ 0) l

front : (i : Input) (before after : List Refusal) → NoSize before → (NoneHolds before → (first_refusal i after).answer.size ≤ most)
    → (first_refusal i (before ++ after)).answer.size ≤ most
unfolding first_refusal reject
front i [] after z h = h tt
front i (r ∷ before) after z h =
    by (r.holds tt) (λ e. rw (e, first_refusal, z.0) (omega arith)) (λ e. rw (e, first_refusal) (front i before after z.1 (λ n. h (e, n))))

-- ---- 10 and acceptance

-- what a call writes, where the tests before the order are passed
small : (i : Input) → NoneHolds (sheet_refusals i) → size (length (bits_written i.call (schedule_of i.call (type_map_in i)))) ≤ most
unfolding type_map_in
small i n =
    let t = (passed-is-held i n).held in
    few_bits i.call (sheet_of (read_in i)) (record { words = t.words; once = t.once }) (read-is-within (bits_of i.sheet) t.rest (sheet_of (read_in i)) t.read)

-- each names at most this size, and so does acceptance
each-small : (i : Input) (l : List Refusal) → Every (λ (r : Refusal). r.size tt ≤ most) l → (accept i).answer.size ≤ most → (first_refusal i l).answer.size ≤ most
unfolding first_refusal reject
each-small i [] h a = a
each-small i (r ∷ l) h a = by (r.holds tt) (λ e. rw (e, first_refusal) h.0) (λ e. rw (e, first_refusal) (each-small i l h.1 a))

-- acceptance names the size of what the call writes (FORMAT 7.4)
accept-small : (i : Input) → NoneHolds (sheet_refusals i) → (accept i).answer.size ≤ most
unfolding accept pack
accept-small i n =
    let bits = bits_written i.call (schedule_of i.call (type_map_in i)) in
    rw (length-pack_to (size (length bits)) bits) (small i n)

pub sizes : (i : Input) → (outcome i).answer.size ≤ most
unfolding outcome refusals
sizes i =
    front i (sheet_refusals i) (late_refusals i (type_map_in i)) (refl, (refl, (refl, (refl, (refl, (refl, (refl, (refl, tt))))))))
    (λ n. each-small i (late_refusals i (type_map_in i)) (omega arith, (omega arith, (small i n, tt))) (accept-small i n))

-- ---- rows

few-rows : (i : Input) (l : List Refusal) → (first_refusal i l).answer.rows ≤ i.settings.rows
unfolding first_refusal reject accept
few-rows i [] = omega arith
few-rows i (r ∷ l) = by (r.holds tt) (λ e. rw (e, first_refusal) (omega arith)) (λ e. rw (e, first_refusal) (few-rows i l))

-- no answer has more rows than its own limit, allowed or not
pub rows-within-limit : (i : Input) → (outcome i).answer.rows ≤ i.settings.rows
unfolding outcome refusals
rows-within-limit i = few-rows i (refusals i)

-- a refusal without rows names none
no-rows : (i : Input) (n : ℕ) (test : Unit {0} → Bool) → (reject i (bare n test)).answer.rows ≤ most_rows
unfolding reject
no-rows i n test = omega arith

-- no limit over 256 comes so far that there are rows
pub rows : (i : Input) → (outcome i).answer.rows ≤ most_rows
unfolding outcome refusals
rows i =
    by (test17 i)
    (λ l.
    by (test1 i)
    (λ e. subst (λ (o : Outcome). o.answer.rows ≤ most_rows) (sym (first_holds i _ _ e)) (no-rows i 1 _))
    (λ e. subst (λ (o : Outcome). o.answer.rows ≤ most_rows) (sym (first-passed i _ _ e ∙ first_holds i _ _ l)) (no-rows i 17 _)))
    (λ l. omega (arith, few-rows i (refusals i), ((limit-exactly i.settings).0 l).1))

-- ---- numbers

few-numbers : (i : Input) (l : List Refusal) → Every (λ (r : Refusal). r.number ≤ 17) l → (first_refusal i l).answer.number ≤ 17
unfolding first_refusal reject accept
few-numbers i [] e = omega arith
few-numbers i (r ∷ l) e = by (r.holds tt) (λ t. rw (t, first_refusal) e.0) (λ t. rw (t, first_refusal) (few-numbers i l e.1))

pub numbers : (i : Input) → (outcome i).answer.number ≤ 17
unfolding outcome refusals
numbers i =
    few-numbers i (refusals i)
    (omega arith, (omega arith, (omega arith, (omega arith, (omega arith, (omega arith, (omega arith, (omega arith, (omega arith, (omega arith, (omega arith, tt)))))))))))
