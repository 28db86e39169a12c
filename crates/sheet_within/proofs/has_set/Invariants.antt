use Rattle.std.proofs.Common.{◌≡◌, ℕ, ◌<◌, get_or}
use Rattle.rows.specs.Rows.{empty}
use Rattle.sheet_within.proofs.has_set.Given as goal

abbrev pub invariant-loop-set : goal.invariant-loop-set
invariant-loop-set l = (j : ℕ) → j < l.set-index → get_or l.set-items j empty ≡ l.words → ⊥
