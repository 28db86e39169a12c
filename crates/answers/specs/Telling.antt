-- What the early tests owe.
use Rattle.std.specs.Prelude.{List, ◌≡◌, ℕ, ◌≤◌, length, Result, Ok, Err}
use Rattle.definitions.specs.Answer.{Call, outcome}
use Rattle.law_reading.specs.Statements.{RowsFit}
use Rattle.answers.specs.declared.Settings.{Settings}
use Rattle.answers.specs.declared.Refusal.{Refusal}
use Rattle.answers.specs.Answers.{settings_of, Answered, input_of}

-- each call with these settings that lends a diagnosis slice of `room` bytes turns the sheet s back so, and leaves both slices
pub record Refuses (settings : Settings) (s : List ℕ) (room : ℕ) (r : Refusal) : Type 0 where
  pub due : (call : Call) (listing diagnosis : List ℕ) → length diagnosis ≡ room
      → Answered (Err r) listing diagnosis (outcome (input_of call settings s listing diagnosis))

-- tests 1, 17 and 2 of a sheet of `size` bytes: the first that refuses it, or all pass
abbrev pub Early : Settings → ℕ → ℕ → Result (Unit {0}) Refusal → Type 0
Early settings size room (Ok _) = (size ≤ 40960) × RowsFit (settings_of settings) room
Early settings size room (Err r) = (s : List ℕ) → length s ≡ size → Refuses settings s room r
