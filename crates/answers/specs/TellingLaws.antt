-- Laws of the answers and of the early tests.
use Rattle.std.specs.Prelude.{Bool, true, false, ◌≡◌, ℕ, ◌*◌, ◌≤◌, ◌<◌, min, ltb, length, Ok, Err}
use mathlib.Core.List.{List, [], ◌∷◌}
use Rattle.std.proofs.Math.Path.{refl, sym}
use Rattle.std.proofs.Common.{ap, ◌∙◌, subst, arith, lt-ltb, le-ltb}
use Rattle.lists.specs.Tests.{by}
use Rattle.definitions.specs.Records.{Row}
use Rattle.definitions.specs.Legal.{Every}
use Rattle.definitions.specs.Answer as rules
use Rattle.definitions.specs.Answer.{Input, Outcome, bad_limit, bare, short, refusals, reject, accept, first_refusal, outcome}
use Rattle.law_orders.specs.Alike.{first_holds, first-passed, bare-alone}
use Rattle.law_reading.specs.Statements.{RowsFit}
use Rattle.law_reading.proofs.Answers.{limit-exactly}
use Rattle.answers.specs.declared.Settings.{Settings}
use Rattle.answers.specs.declared.Refusal.{Refusal}
use Rattle.answers.specs.declared.Refusal.TheVariants.{LongSheet, ShortDiagnosis, Past, NotAllowed, Words, Repeats, Fill, NoOrder, TypeRefused, ShortListing, RowLimit}
use Rattle.answers.specs.Answers.{Answer, settings_of, alone, refusal_of, number_of, answer_of, case_of, Answered, input_of}
use Rattle.answers.specs.Telling.{Refuses, Early}
use Rattle.answers.specs.Statements.{EachIsItsCase, OneAnswer, EachHasItsCase}

-- ---- cases

refusal-is : (r : Refusal) → Err r ≡ case_of (refusal_of r)
refusal-is LongSheet = refl
refusal-is ShortDiagnosis = refl
refusal-is Past = refl
refusal-is NotAllowed = refl
refusal-is Words = refl
refusal-is Repeats = refl
refusal-is Fill = refl
refusal-is (NoOrder r) = refl
refusal-is (TypeRefused r) = refl
refusal-is (ShortListing size) = refl
refusal-is RowLimit = refl

pub each-is-its-case : EachIsItsCase
each-is-its-case (Ok size) = refl
each-is-its-case (Err r) = refusal-is r

pub one_answer : OneAnswer
one_answer o r t l d l' d' p q =
    let e = p.outcome ∙ sym q.outcome in (
      each-is-its-case r ∙ ap (λ (x : Outcome). case_of x.answer) e ∙ sym (each-is-its-case t),
      ap (λ (x : Outcome). x.listing) e,
      ap (λ (x : Outcome). x.diagnosis) e,
    )

-- an answer that tells what is due
pub answered : (r : Answer) (a : rules.Answer) (l d : List ℕ) (o : Outcome) → answer_of r ≡ a → record { answer = a; listing = l; diagnosis = d } ≡ o → Answered r l d o
answered r a l d o t e = record { outcome = ap (λ (x : rules.Answer). record { answer = x; listing = l; diagnosis = d }) t ∙ e }

pub answered-as : (r : Answer) (l d : List ℕ) (o p : Outcome) → Answered r l d o → o ≡ p → Answered r l d p
answered-as r l d o p h e = subst (Answered r l d) e h

-- ---- every outcome

-- the case of an answer has its parts
abbrev Kept : rules.Answer → Type 0
Kept a = answer_of (case_of a) ≡ a

no_rows : (k : ℕ) → min k 0 ≡ 0
no_rows k = omega arith

no_more : (k : ℕ) → ltb k 0 ≡ false
no_more k = le-ltb k 0 (omega arith)

module _ (i : Input) where
  abbrev Keeps : rules.Refusal → Type 0
  Keeps r = Kept (reject i r).answer

  bare-kept : (n : ℕ) (test : Unit {0} → Bool) → Kept (alone n) → Keeps (bare n test)
  unfolding reject
  bare-kept n test h = rw (no_rows i.settings.rows, no_more i.settings.rows) h

  short-kept : (test : Unit {0} → Bool) (size : Unit {0} → ℕ) → Keeps (short 10 test size)
  unfolding reject
  short-kept test size = rw (no_rows i.settings.rows, no_more i.settings.rows) refl

  eight-kept : (test : Unit {0} → Bool) (rows : Unit {0} → List Row) → Keeps (rules.diagnosed 8 test rows)
  unfolding reject
  eight-kept test rows = refl

  nine-kept : (test : Unit {0} → Bool) (rows : Unit {0} → List Row) → Keeps (rules.diagnosed 9 test rows)
  unfolding reject
  nine-kept test rows = refl

  all-kept : Every Keeps (refusals i)
  unfolding refusals
  all-kept = (
    bare-kept 1 _ refl,
    (
      bare-kept 17 _ refl,
      (
        bare-kept 2 _ refl,
        (
          bare-kept 3 _ refl,
          (
            bare-kept 4 _ refl,
            (
              bare-kept 7 _ refl,
              (
                bare-kept 5 _ refl,
                (
                  bare-kept 6 _ refl,
                  (eight-kept _ _, (nine-kept _ _, (short-kept _ _, tt))),
                ),
              ),
            ),
          ),
        ),
      ),
    ),
  )

  first-kept : (l : List rules.Refusal) → Every Keeps l → Kept (first_refusal i l).answer
  unfolding first_refusal accept
  first-kept [] h = refl
  first-kept (r ∷ l) h =
      by (r.holds tt)
      (λ e. rw (first_holds i r l e) h.0)
      (λ e. rw (first-passed i r l e) (first-kept l h.1))

  kept : Kept (outcome i).answer
  unfolding outcome
  kept = first-kept (refusals i) all-kept

pub each-has-its-case : EachHasItsCase
each-has-its-case i = record {
  outcome = ap (λ (a : rules.Answer). record { answer = a; listing = (outcome i).listing; diagnosis = (outcome i).diagnosis }) (kept i);
}

-- ---- tests 1, 17 and 2

module _ (settings : Settings) (room : ℕ) (s : List ℕ) where
  abbrev asked : rules.Call → List ℕ → List ℕ → Input
  asked call l d = input_of call settings s l d

  -- what is answered by its number alone
  told : (r : Refusal) (call : rules.Call) (l d : List ℕ) (test : Unit {0} → Bool) → refusal_of r ≡ alone (number_of r)
      → outcome (asked call l d) ≡ reject (asked call l d) (bare (number_of r) test) → Answered (Err r) l d (outcome (asked call l d))
  told r call l d test n e =
      answered (Err r) (alone (number_of r)) l d (outcome (asked call l d)) n (sym (e ∙ bare-alone (asked call l d) (number_of r) test))

  one : 40960 < length s → Refuses settings s room LongSheet
  unfolding outcome refusals
  one h = record { due = λ call l d k. told LongSheet call l d _ refl (first_holds (asked call l d) _ _ (lt-ltb 40960 (length s) h)) }

  seventeen : length s ≤ 40960 → bad_limit (settings_of settings) ≡ true → Refuses settings s room RowLimit
  unfolding outcome refusals
  seventeen h b = record {
    due = λ call l d k.
        told RowLimit call l d _ refl
        (first-passed (asked call l d) _ _ (le-ltb 40960 (length s) h)
        ∙ first_holds (asked call l d) _ _ b);
  }

  two : length s ≤ 40960 → bad_limit (settings_of settings) ≡ false → room < 6 * settings.rows → Refuses settings s room ShortDiagnosis
  unfolding outcome refusals
  two h b g = record {
    due = λ call l d k.
        told ShortDiagnosis call l d _ refl
        (first-passed (asked call l d) _ _ (le-ltb 40960 (length s) h)
        ∙ first-passed (asked call l d) _ _ b
        ∙ first_holds (asked call l d) _ _ (lt-ltb (length d) (6 * settings.rows) (omega (arith, k, g))));
  }

module _ (settings : Settings) (size room : ℕ) where
  pub too_long : 40960 < size → Early settings size room (Err LongSheet)
  too_long h s e = one settings room s (omega (arith, e, h))

  pub wrong_limit : size ≤ 40960 → bad_limit (settings_of settings) ≡ true → Early settings size room (Err RowLimit)
  wrong_limit h b s e = seventeen settings room s (omega (arith, e, h)) b

  pub no_room : size ≤ 40960 → bad_limit (settings_of settings) ≡ false → room < 6 * settings.rows → Early settings size room (Err ShortDiagnosis)
  no_room h b g s e = two settings room s (omega (arith, e, h)) b g

  pub all-fit : size ≤ 40960 → bad_limit (settings_of settings) ≡ false → 6 * settings.rows ≤ room → (size ≤ 40960) × RowsFit (settings_of settings) room
  all-fit h b g = (h, let x = (limit-exactly (settings_of settings)).0 b in record { some = x.0; few = x.1; room = g })
