-- How much is stored of what a call writes.
use Rattle.std.specs.Prelude.{ℕ, cond, nat_eq, min, ◌*◌, ◌^◌, ◌-◌}
use Rattle.answers.specs.declared.Parts.{Parts}

-- how many bytes the call must write: its size, or six for each row
abbrev pub written_of : Parts → ℕ
written_of e = cond (nat_eq e.number 0) e.size (min (e.rows * 6) (2 ^ 64 - 1))
