-- Answers and their cases: some numbers, and what no call may give.
use Rattle.std.specs.Prelude.{Bool, true, false, List, [], ◌∷◌, ◌≡◌, refl, ℕ, eqb, Ok, Err}
use Rattle.std.proofs.Common.{ap, sym, ◌∙◌}
use Rattle.lists.specs.Lists.{any}
use Rattle.lists.specs.Tests.{never}
use Rattle.answers.specs.declared.Refusal.{Refusal}
use Rattle.answers.specs.declared.Refusal.TheVariants.{LongSheet, ShortDiagnosis, Past, NotAllowed, Words, Repeats, Fill, NoOrder, TypeRefused, ShortListing, RowLimit}
use Rattle.answers.specs.Answers.{Answer, parts, answer_of, case_of}

accepted : case_of (parts 0 17 0 false) ≡ Ok 17
accepted = refl

no-order : case_of (parts 8 0 256 true) ≡ Err (Refusal.NoOrder (record { rows = 256; more = true }))
no-order = refl

type-refused : case_of (parts 9 0 1 false) ≡ Err (Refusal.TypeRefused (record { rows = 1; more = false }))
type-refused = refl

too_short : case_of (parts 10 3 0 false) ≡ Err (Refusal.ShortListing 3)
too_short = refl

row-limit : case_of (parts 17 0 0 false) ≡ Err Refusal.RowLimit
row-limit = refl

bad-fill : case_of (parts 7 0 0 false) ≡ Err Refusal.Fill
bad-fill = refl

-- the numbers that answers have
abbrev given : List ℕ
given = 0 ∷ 1 ∷ 2 ∷ 3 ∷ 4 ∷ 5 ∷ 6 ∷ 7 ∷ 8 ∷ 9 ∷ 10 ∷ 17 ∷ []

abbrev is_given : ℕ → Bool
is_given k = any (eqb k) given

each-given : (r : Answer) → is_given (answer_of r).number ≡ true
each-given (Ok size) = refl
each-given (Err LongSheet) = refl
each-given (Err ShortDiagnosis) = refl
each-given (Err Past) = refl
each-given (Err NotAllowed) = refl
each-given (Err Words) = refl
each-given (Err Repeats) = refl
each-given (Err Fill) = refl
each-given (Err (NoOrder r)) = refl
each-given (Err (TypeRefused r)) = refl
each-given (Err (ShortListing size)) = refl
each-given (Err RowLimit) = refl

-- a number that no test gives is no answer's
pub thirteen : (r : Answer) → (answer_of r).number ≡ 13 → ⊥
thirteen r e = never (sym (ap is_given e) ∙ each-given r) refl

pub nineteen : (r : Answer) → (answer_of r).number ≡ 19 → ⊥
nineteen r e = never (sym (ap is_given e) ∙ each-given r) refl

-- 3 is one refusal, which has no rows
pub three-has-no-rows : (r : Answer) → (answer_of r).number ≡ 3 → r ≡ Err Refusal.Past
three-has-no-rows (Ok size) e = never (ap (eqb 3) e) refl
three-has-no-rows (Err LongSheet) e = never (ap (eqb 3) e) refl
three-has-no-rows (Err ShortDiagnosis) e = never (ap (eqb 3) e) refl
three-has-no-rows (Err Past) e = refl
three-has-no-rows (Err NotAllowed) e = never (ap (eqb 3) e) refl
three-has-no-rows (Err Words) e = never (ap (eqb 3) e) refl
three-has-no-rows (Err Repeats) e = never (ap (eqb 3) e) refl
three-has-no-rows (Err Fill) e = never (ap (eqb 3) e) refl
three-has-no-rows (Err (NoOrder r)) e = never (ap (eqb 3) e) refl
three-has-no-rows (Err (TypeRefused r)) e = never (ap (eqb 3) e) refl
three-has-no-rows (Err (ShortListing size)) e = never (ap (eqb 3) e) refl
three-has-no-rows (Err RowLimit) e = never (ap (eqb 3) e) refl
