-- What the answers mean: the number, the size, the row count and the flag for each case, and the case for each number.
use Rattle.std.specs.Prelude.{Bool, false, cond, List, ◌≡◌, ℕ, eqb, Result, Ok, Err}
use Rattle.definitions.specs.Answer as rules
use Rattle.definitions.specs.Answer.{Call, Input, Outcome}
use Rattle.emitting.specs.declared.Report.{Report}
use Rattle.answers.specs.declared.Parts.{Parts}
use Rattle.answers.specs.declared.Settings.{Settings}
use Rattle.answers.specs.declared.Refusal.{Refusal}
use Rattle.answers.specs.declared.Refusal.TheVariants.{LongSheet, ShortDiagnosis, Past, NotAllowed, Words, Repeats, Fill, NoOrder, TypeRefused, ShortListing, RowLimit}

-- the settings, as the definitions have them
abbrev pub settings_of : Settings → rules.Settings
settings_of s = record { rows = s.rows }

-- what a call answers
abbrev pub Answer : Type 0
Answer = Result ℕ Refusal

-- the parts of an answer
abbrev pub parts : ℕ → ℕ → ℕ → Bool → rules.Answer
parts number size rows more = record { number = number; size = size; rows = rows; more = more }

-- the answer that has these parts
abbrev pub parts_of : Parts → rules.Answer
parts_of p = parts p.number p.size p.rows p.more

-- a refusal that has its number alone
abbrev pub alone : ℕ → rules.Answer
alone number = parts number 0 0 false

-- and one that comes with rows
abbrev pub reported : ℕ → Report → rules.Answer
reported number r = parts number 0 r.rows r.more

-- the number of each refusal, and what comes with it; what a case does not name is 0
abbrev pub refusal_of : Refusal → rules.Answer
refusal_of LongSheet = alone 1
refusal_of ShortDiagnosis = alone 2
refusal_of Past = alone 3
refusal_of NotAllowed = alone 4
refusal_of Words = alone 5
refusal_of Repeats = alone 6
refusal_of Fill = alone 7
refusal_of (NoOrder r) = reported 8 r
refusal_of (TypeRefused r) = reported 9 r
refusal_of (ShortListing size) = parts 10 size 0 false
refusal_of RowLimit = alone 17

-- acceptance has the number 0
abbrev pub answer_of : Answer → rules.Answer
answer_of (Ok size) = parts 0 size 0 false
answer_of (Err r) = refusal_of r

-- the number of a refusal
abbrev pub number_of : Refusal → ℕ
number_of r = (refusal_of r).number

-- the refusal that has these parts
abbrev pub refusal_with : rules.Answer → Refusal
refusal_with a =
    cond (eqb a.number 1) LongSheet
    (cond (eqb a.number 2) ShortDiagnosis
    (cond (eqb a.number 3) Past
    (cond (eqb a.number 4) NotAllowed
    (cond (eqb a.number 5) Words
    (cond (eqb a.number 6) Repeats
    (cond (eqb a.number 7) Fill
    (cond (eqb a.number 8) (NoOrder (record { rows = a.rows; more = a.more }))
    (cond (eqb a.number 9) (TypeRefused (record { rows = a.rows; more = a.more }))
    (cond (eqb a.number 10) (ShortListing a.size)
    RowLimit)))))))))

-- Each number has one case.
abbrev pub case_of : rules.Answer → Answer
case_of a = cond (eqb a.number 0) (Ok a.size) (Err (refusal_with a))

-- an answer with both slices at exit
abbrev pub outcome_of : Answer → List ℕ → List ℕ → Outcome
outcome_of a listing diagnosis = record { answer = answer_of a; listing = listing; diagnosis = diagnosis }

-- What a call promises where o is due: the parts and both slices are those of o.
pub record Answered (r : Answer) (listing diagnosis : List ℕ) (o : Outcome) : Type 0 where
  pub outcome : outcome_of r listing diagnosis ≡ o

-- the input of a call: its settings, the sheet, and both slices at entry
abbrev pub input_of : Call → Settings → List ℕ → List ℕ → List ℕ → Input
input_of call settings sheet listing diagnosis = record {
  settings = settings_of settings;
  call = call;
  sheet = sheet;
  listing = listing;
  diagnosis = diagnosis;
}

-- of the order-only call
abbrev pub order_input : Settings → List ℕ → List ℕ → List ℕ → Input
order_input = input_of rules.order

-- and of the schedule call
abbrev pub schedule_input : Settings → List ℕ → List ℕ → List ℕ → Input
schedule_input = input_of rules.schedule
