-- Relisted inputs answer alike. Where 17 or 2 is the answer, it is that of both. Otherwise both bytes hold the sheets that they
-- are read to, which leave rows in the synthesis alike, since rows and refused types agree for the whole map.
use Rattle.std.specs.Prelude.{false, List, [], ◌∷◌, ◌++◌, ◌≡◌, refl, ℕ, ◌*◌, ◌≤◌, eqb, ltb, length, take, drop}
use Rattle.std.proofs.Math.Bool.{true}
use mathlib.Core.List.Memᴰ
use Rattle.std.proofs.Math.Path.{sym, ap}
use Rattle.std.proofs.Common.{ap₂, ◌∙◌, subst, lt-ltb, le-ltb, ltb-true, ltb-false, eqb-true, take-append-drop}
use Rattle.std.proofs.lemmas.Bool.{eqb-false}
use Rattle.std.proofs.Math.Seq.{take-append_seam}
use Rattle.lists.specs.Lists.{any, null}
use Rattle.lists.specs.Tests.{by, never, not_so, same_test, null-nil, any_of, cons-elim}
use Rattle.definitions.specs.Bits.{pack}
use Rattle.definitions.specs.Records.{Sheet}
use Rattle.definitions.specs.Parse.{past, not_allowed}
use Rattle.definitions.specs.Checks.{bad_fill, bad_words, something_twice}
use Rattle.definitions.specs.Map.{TypeMap, type_map_of}
use Rattle.definitions.specs.Order.{has_order}
use Rattle.definitions.specs.Synthesis.{synthesis}
use Rattle.definitions.specs.Answer.{Settings, bad_limit, Call, schedule, order, Input, Outcome, Refusal, refused_by, rest_of, sheet_of, schedule_of, bits_written, overwrite, synthesis_rows, refusals, reject, type_map_in, accept, first_refusal, outcome}
use Rattle.definitions.specs.Relisted.{ReadTo, Holds, left_out, Compared, RelistedInputs, Alike}
use Rattle.law_orders.specs.Comparisons.{names-once}
use Rattle.law_orders.specs.Relisting.{relisted-map, relisted-order}
use Rattle.law_orders.specs.Alike.{first_holds, first-passed, bare-alone, not-long, not-refused, not-filled, good-words, nothing-twice, map_read, schedules, alike}
use Rattle.law_reading.specs.Statements.{test1, test17, test2, test3, test4, test5, test6, test7}
use Rattle.law_reading.proofs.Answers.{sheet-tests-exactly}
use Rattle.law_lines.specs.Statements.{line_map, any_refused}
use Rattle.law_synthesis.specs.Statements.{Ordered}
use Rattle.law_synthesis.specs.Rows.{rows-are-tested}
use Rattle.law_schedule.proofs.OneToOne.{bytes-determine, order-bytes-determine}
use Rattle.law_relisting.specs.Statements.{AnswersAlike, SchedulesEqual, ReadAlike, OrderReadAlike, ListingsEqual, HeldIsCompared, number_alone, WrongLimit, WrongLimitsAlike, ShortSlice, ShortSlicesAlike}

-- ---- 17 and 2

wrong-limit : (i : Input) → WrongLimit i → outcome i ≡ number_alone 17 i
unfolding outcome refusals
wrong-limit i h =
    first-passed i _ _ (le-ltb 40960 (length i.sheet) h.sheet)
    ∙ first_holds i _ _ h.limit
    ∙ bare-alone i 17 _

pub wrong-limits-alike : WrongLimitsAlike
wrong-limits-alike i j h k = (wrong-limit i h, wrong-limit j k)

short-slice : (i : Input) → ShortSlice i → outcome i ≡ number_alone 2 i
unfolding outcome refusals
short-slice i h =
    first-passed i _ _ (le-ltb 40960 (length i.sheet) h.sheet)
    ∙ first-passed i _ _ h.limit
    ∙ first_holds i _ _ (lt-ltb (length i.diagnosis) (6 * i.settings.rows) h.diagnosis)
    ∙ bare-alone i 2 _

pub short-slices-alike : ShortSlicesAlike
short-slices-alike i j h k = (short-slice i h, short-slice j k)

-- ---- what is compared

pub held-is-compared : HeldIsCompared
held-is-compared i s h m =
    let x = sheet-tests-exactly i in
    cons-elim m (λ e. never (x.one.0 e) (not-long h))
    (λ m. cons-elim m (λ e. never (x.three.0 e).1 (not-refused h past))
    (λ m. cons-elim m (λ e. never (x.four.0 e).1 (not-refused h not_allowed))
    (λ m. cons-elim m (λ e. never (x.five.0 e).1 (good-words h))
    (λ m. cons-elim m (λ e. never (x.six.0 e).1 (nothing-twice h))
    (λ m. cons-elim m (λ e. never (x.seven.0 e).1 (not-filled h))
    (λ m. absurd (Memᴰ.not-nil m)))))))

module _ (i : Input) (s : Sheet) (r : ReadTo i.sheet s) (c : Compared i) where
  -- a number that is left out is not answered
  not-answered : (n : ℕ) → any (eqb n) left_out ≡ true → (outcome i).answer.number ≡ n → ⊥
  not-answered n m e = let x = any_of (eqb n) left_out m in c (Memᴰ.cast (e ∙ eqb-true n x.0 x.2) x.1)

  compared-short : test1 i ≡ false
  compared-short = not_so (λ p. not-answered 1 refl ((sheet-tests-exactly i).one.1 p))

  -- what is read, compared and answered by neither 17 nor 2 is held
  held : test17 i ≡ false → test2 i ≡ false → Holds i.sheet s
  held limit two =
      let x = sheet-tests-exactly i in
      let one = compared-short in
      let three : test3 i ≡ false = ap (refused_by past) r.read in
      let four : test4 i ≡ false = ap (refused_by not_allowed) r.read in
      let seven : test7 i ≡ false = not_so (λ p. not-answered 7 refl (x.seven.1 ((one, (limit, (two, (three, (four, tt))))), p))) in
      let five : test5 i ≡ false = not_so (λ p. not-answered 5 refl (x.five.1 ((one, (limit, (two, (three, (four, (seven, tt)))))), p))) in
      let six : test6 i ≡ false = not_so (λ p. not-answered 6 refl (x.six.1 ((one, (limit, (two, (three, (four, (seven, (five, tt))))))), p))) in
      record {
        rest = r.rest;
        short = ltb-false 40960 (length i.sheet) one;
        read = r.read;
        fill = sym (ap (λ p. bad_fill (rest_of p)) r.read) ∙ seven;
        words = sym (ap (λ p. bad_words (sheet_of p).words) r.read) ∙ five;
        once = sym (ap (λ p. something_twice (sheet_of p)) r.read) ∙ six;
      }

-- ---- relisted inputs

-- bytes that hold a sheet hold one that is ordered, where it has an order
ordered : {bytes : List ℕ} {s : Sheet} → Holds bytes s → has_order (type_map_of s) ≡ true → Ordered s
ordered h o = record { readable = record { words = h.words; once = h.once }; order = o }

-- no row of the one exactly if none of the other
rows_alike : (s t : Sheet) → Ordered s → Ordered t → line_map s ≡ line_map t → null (synthesis (type_map_of s)).rows ≡ null (synthesis (type_map_of t)).rows
rows_alike s t o p e =
    same_test
    (λ n. ap null ((rows-are-tested t p).1 (sym (ap any_refused e) ∙ (rows-are-tested s o).0 (null-nil _ n))))
    (λ n. ap null ((rows-are-tested s o).1 (ap any_refused e ∙ (rows-are-tested t p).0 (null-nil _ n))))

-- what either call tests for 9
calls-alike : (c : Call) (m n : TypeMap) → null (synthesis m).rows ≡ null (synthesis n).rows → null (synthesis_rows c m) ≡ null (synthesis_rows c n)
calls-alike schedule m n e = e
calls-alike order m n e = refl

module _ (i j : Input) (h : RelistedInputs i j) where
  short-left : length i.sheet ≤ 40960
  short-left = ltb-false _ _ (compared-short i h.s h.left h.left_compared)

  short-right : length j.sheet ≤ 40960
  short-right = ltb-false _ _ (compared-short j h.t h.right h.right_compared)

  -- the tests for 17 and for 2 hold or do not hold alike
  limits-same : test17 i ≡ test17 j
  limits-same = ap bad_limit h.settings

  slices-same : test2 i ≡ test2 j
  slices-same = ap₂ (λ n (c : Settings). ltb n (6 * c.rows)) h.diagnosis h.settings

  wrong-alike : test17 i ≡ true → (outcome i ≡ number_alone 17 i) × (outcome j ≡ number_alone 17 j)
  wrong-alike e =
      wrong-limits-alike i j
      (record { sheet = short-left; limit = e })
      (record { sheet = short-right; limit = sym limits-same ∙ e })

  short-alike : test17 i ≡ false → test2 i ≡ true → (outcome i ≡ number_alone 2 i) × (outcome j ≡ number_alone 2 j)
  short-alike l e =
      short-slices-alike i j
      (record { sheet = short-left; limit = l; diagnosis = ltb-true _ _ e })
      (record { sheet = short-right; limit = sym limits-same ∙ l; diagnosis = ltb-true _ _ (sym slices-same ∙ e) })

  -- what both get by its number alone is alike
  alone-alike : (n : ℕ) → eqb n 0 ≡ false → (outcome i ≡ number_alone n i) × (outcome j ≡ number_alone n j) → Alike i j
  alone-alike n z x =
      let number : (k : Input) → outcome k ≡ number_alone n k → (outcome k).answer.number ≡ n = λ k p. ap (λ (o : Outcome). o.answer.number) p in
      record {
        number = number i x.0 ∙ sym (number j x.1);
        size = ap (λ (o : Outcome). o.answer.size) x.0 ∙ sym (ap (λ (o : Outcome). o.answer.size) x.1);
        written = λ e. absurd (eqb-false n 0 z (sym (number i x.0) ∙ e));
      }

  -- where the one is accepted, neither is the answer
  not-alone : (n : ℕ) → eqb n 0 ≡ false → (outcome i).answer.number ≡ 0 → outcome i ≡ number_alone n i → ⊥
  not-alone n z e p = eqb-false n 0 z (sym (ap (λ (o : Outcome). o.answer.number) p) ∙ e)

  module _ (l : test17 i ≡ false) (e : test2 i ≡ false) where
    left : Holds i.sheet h.s
    left = held i h.s h.left h.left_compared l e

    right : Holds j.sheet h.t
    right = held j h.t h.right h.right_compared (sym limits-same ∙ l) (sym slices-same ∙ e)

    rows : has_order (type_map_in i) ≡ true → null (synthesis_rows i.call (type_map_in i)) ≡ null (synthesis_rows j.call (type_map_in j))
    unfolding type_map_in
    rows o =
        let once = names-once h.s left.once in
        let p : has_order (type_map_of h.s) ≡ true = sym (ap has_order (map_read left)) ∙ o in
        let q : has_order (type_map_of h.t) ≡ true = sym (relisted-order h.s h.t once h.relisted).0 ∙ p in
        let r = rows_alike h.s h.t (ordered left p) (ordered right q) (relisted-map h.s h.t once h.relisted) in
        ap (λ m. null (synthesis_rows i.call m)) (map_read left)
        ∙ calls-alike i.call (type_map_of h.s) (type_map_of h.t) r
        ∙ ap (λ c. null (synthesis_rows c (type_map_of h.t))) h.call
        ∙ sym (ap (λ m. null (synthesis_rows j.call m)) (map_read right))

pub answers-alike : AnswersAlike
answers-alike i j h =
    by (test17 i)
    (λ l. alone-alike i j h 17 refl (wrong-alike i j h l))
    (λ l.
    by (test2 i)
    (λ e. alone-alike i j h 2 refl (short-alike i j h l e))
    (λ e. alike i j h (left i j h l e) (right i j h l e) (rows i j h l e)))

pub schedules-equal : SchedulesEqual
schedules-equal i j h z =
    let l : test17 i ≡ false = not_so (λ p. not-alone i j h 17 refl z (wrong-alike i j h p).0) in
    let e : test2 i ≡ false = not_so (λ p. not-alone i j h 2 refl z (short-alike i j h l p).0) in
    schedules i j h (left i j h l e) (right i j h l e)

-- ---- listings

-- what holds of every refusal and of acceptance holds of the outcome
any-outcome : (i : Input) (P : Outcome → Type 0) → ((r : Refusal) → P (reject i r)) → P (accept i) → (l : List Refusal) → P (first_refusal i l)
unfolding first_refusal
any-outcome i P f a [] = a
any-outcome i P f a (r ∷ l) =
    by (r.holds tt)
    (λ e. subst P (sym (first_holds i r l e)) (f r))
    (λ e. subst P (sym (first-passed i r l e)) (any-outcome i P f a l))

-- behind the first `size` bytes a listing is as it was lent, and it is so whole where the number is not 0
record Kept (i : Input) (o : Outcome) : Type 0 where
  behind : o.listing ≡ take o.answer.size o.listing ++ drop o.answer.size i.listing
  whole : (o.answer.number ≡ 0 → ⊥) → o.listing ≡ i.listing

overwritten : (b l : List ℕ) → overwrite b l ≡ take (length b) (overwrite b l) ++ drop (length b) l
overwritten b l = ap (λ w. w ++ drop (length b) l) (sym (take-append_seam b (drop (length b) l)))

kept : (i : Input) → Kept i (outcome i)
unfolding outcome reject accept
kept i =
    any-outcome i (Kept i)
    (λ r. record { behind = sym (take-append-drop (r.size tt) i.listing); whole = λ n. refl })
    (record { behind = overwritten (pack (bits_written i.call (schedule_of i.call (type_map_in i)))) i.listing; whole = λ n. absurd (n refl) })
    (refusals i)

pub read_alike : ReadAlike
read_alike i j h e W W' s t l k p q = bytes-determine W W' s t l k (sym p ∙ (answers-alike i j h).written e ∙ q)

pub order-read-alike : OrderReadAlike
order-read-alike i j h e W W' ns ms l k p q = order-bytes-determine W W' ns ms l k (sym p ∙ (answers-alike i j h).written e ∙ q)

pub listings-equal : ListingsEqual
listings-equal i j h l =
    let k = answers-alike i j h in
    let a = kept i in
    let b = kept j in
    by (eqb (outcome i).answer.number 0)
    (λ e.
    let z = eqb-true (outcome i).answer.number 0 e in
    a.behind ∙ ap₂ (λ w r. w ++ r) (k.written z) (ap₂ drop k.size l) ∙ sym b.behind)
    (λ e.
    let n = eqb-false (outcome i).answer.number 0 e in
    a.whole n ∙ l ∙ sym (b.whole (λ z. n (k.number ∙ z))))
