-- Under a smaller limit fewer rows are written, and nothing else moves: behind the tests of the limit both inputs have one list
-- of refusals, and each of these leaves the first of its rows.
use Rattle.std.specs.Prelude.{true, false, ◌||◌, List, [], ◌∷◌, ◌++◌, ◌≡◌, refl, ℕ, zero, suc, ◌+◌, ◌*◌, ◌≤◌, min, ltb, length, take, drop}
use Rattle.std.proofs.Common.{sym, ap, ◌∙◌, subst₂, arith, lt-ltb, le-ltb, ltb-true, ltb-false, length-take}
use Rattle.std.proofs.Math.Seq.{take-nil, take-append_seam, take-append-add, take-take}
use Rattle.lists.specs.Lists.{each}
use Rattle.lists.specs.Tests.{by}
use Rattle.definitions.specs.Records.{Row}
use Rattle.definitions.specs.Packing.{row_bytes}
use Rattle.definitions.specs.Answer.{Input, Refusal, bare, overwrite, early_refusals, reading_refusals, content_refusals, late_refusals, sheet_of, read_in, type_map_in, refusals, reject, accept, first_refusal, outcome}
use Rattle.law_orders.specs.Alike.{first_holds, first-passed}
use Rattle.law_orders.specs.RowBytes.{six, bytes-of-rows}
use Rattle.law_reading.specs.Statements.{test1, AllFit, limited}
use Rattle.law_reading.specs.Refusals.{all_pass}
use Rattle.law_reading.proofs.Answers.{limit-passes, room-passes}
use Rattle.law_refusals.specs.Statements.{FirstOf, FewerRows}

-- ---- the bytes of the first rows

-- the bytes of the first m rows are the first of all bytes
front : (m : ℕ) (rs : List Row) → take (6 * m) (each row_bytes rs) ≡ each row_bytes (take m rs)
front m [] = take-nil (6 * m) ∙ sym (ap (each row_bytes) (take-nil m))
front zero (r ∷ rs) = refl
front (suc m) (r ∷ rs) =
    let l = row_bytes r in
    let e : 6 * suc m ≡ length l + 6 * m = omega (arith, six r) in
    ap (λ n. take n (l ++ each row_bytes rs)) e ∙ take-append-add l (each row_bytes rs) (6 * m) ∙ ap (λ k. l ++ k) (front m rs)

-- what is written for the first k rows, read back from the slice
read-back : (k : ℕ) (rs : List Row) (d : List ℕ) → take (6 * min k (length rs)) (overwrite (each row_bytes (take k rs)) d) ≡ each row_bytes (take k rs)
read-back k rs d =
    let b = each row_bytes (take k rs) in
    let e : 6 * min k (length rs) ≡ length b = omega (arith, bytes-of-rows (take k rs), length-take k rs) in
    ap (λ n. take n (overwrite b d)) e ∙ take-append_seam b (drop (length b) d)

-- ---- one list of refusals under both limits

module _ (m n : ℕ) (h : m ≤ n) where
  more-than : (k : ℕ) → ltb m k ≡ (ltb m (min n k) || ltb n k)
  more-than k =
      by (ltb m (min n k))
      (λ e. lt-ltb m k (omega (arith, ltb-true m (min n k) e)) ∙ sym (rw e))
      (λ e.
      by (ltb n k)
      (λ f. lt-ltb m k (omega (arith, h, ltb-true n k f)) ∙ sym (rw (e, f)))
      (λ f. le-ltb m k (omega (arith, ltb-false m (min n k) e, ltb-false n k f)) ∙ sym (rw (e, f))))

  refused-first : (i : Input) (r : Refusal) → FirstOf m (reject (limited m i) r) (reject (limited n i) r)
  unfolding reject
  refused-first i r =
      let rs = r.rows tt in
      record {
        number = refl;
        size = refl;
        listing = refl;
        rows = omega (arith, h);
        written =
            read-back m rs i.diagnosis
            ∙ sym (ap (take (6 * m)) (read-back n rs i.diagnosis) ∙ front m (take n rs) ∙ ap (each row_bytes) (take-take m n rs h));
        more = more-than (length rs);
      }

  accepted-first : (i : Input) → FirstOf m (accept (limited m i)) (accept (limited n i))
  unfolding accept type_map_in
  accepted-first i = record {
    number = refl;
    size = refl;
    listing = refl;
    rows = omega arith;
    written = sym (take-nil (6 * m));
    more = sym (rw (le-ltb m 0 (omega arith)));
  }

  all-first : (i : Input) (l : List Refusal) → FirstOf m (first_refusal (limited m i) l) (first_refusal (limited n i) l)
  unfolding first_refusal
  all-first i [] = accepted-first i
  all-first i (r ∷ l) =
      by (r.holds tt)
      (λ e. subst₂ (FirstOf m) (sym (first_holds (limited m i) r l e)) (sym (first_holds (limited n i) r l e)) (refused-first i r))
      (λ e. subst₂ (FirstOf m) (sym (first-passed (limited m i) r l e)) (sym (first-passed (limited n i) r l e)) (all-first i l))

-- ---- behind the tests of the limit

module _ (i : Input) where
  -- the refusals that no limit moves
  abbrev rest : List Refusal
  rest = reading_refusals (read_in i) ++ (content_refusals (sheet_of (read_in i)) ++ late_refusals i (type_map_in i))

  long : (k : ℕ) → test1 i ≡ true → outcome (limited k i) ≡ reject (limited k i) (bare 1 (λ u. test1 i))
  unfolding outcome refusals
  long k e = first_holds (limited k i) _ _ e

  behind : (k : ℕ) → test1 i ≡ false → AllFit (limited k i) → outcome (limited k i) ≡ first_refusal (limited k i) rest
  unfolding outcome refusals type_map_in
  behind k e f =
      all_pass (limited k i) (early_refusals (limited k i)) rest (e, (limit-passes (limited k i) f, (room-passes (limited k i) f, tt)))

pub fewer-rows : FewerRows
fewer-rows i m n z h f =
    let g : AllFit (limited m i) = record { some = z; few = omega (arith, h, f.few); room = omega (arith, h, f.room) } in
    by (test1 i)
    (λ e. subst₂ (FirstOf m) (sym (long i m e)) (sym (long i n e)) (refused-first m n h i (bare 1 (λ u. test1 i))))
    (λ e. subst₂ (FirstOf m) (sym (behind i m e g)) (sym (behind i n e f)) (all-first m n h i (rest i)))
