-- What follows for the cases of an answer. The proofs are in TellingLaws.antt.
use Rattle.std.specs.Prelude.{List, ◌≡◌, ℕ}
use Rattle.definitions.specs.Answer.{Input, Outcome, outcome}
use Rattle.answers.specs.Answers.{Answer, answer_of, case_of, Answered}

-- No two cases have the same parts.
abbrev pub EachIsItsCase : Type 0
EachIsItsCase = (r : Answer) → r ≡ case_of (answer_of r)

-- So at most one answer, with one listing and one diagnosis slice, is what a call promises.
abbrev pub OneAnswer : Type 0
OneAnswer = (o : Outcome) (r t : Answer) (l d l' d' : List ℕ) → Answered r l d o → Answered t l' d' o → (r ≡ t) × (l ≡ l') × (d ≡ d')

-- And one is, for every input: no part of what is due is lost in its case.
abbrev pub EachHasItsCase : Type 0
EachHasItsCase = (i : Input) → Answered (case_of (outcome i).answer) (outcome i).listing (outcome i).diagnosis (outcome i)
