use mathlib.Core.Path.{sym}
use Rattle.sheet_within.proofs.is_repeating_at.Goals as goal

-- src/lib.rt:109:13
pub returns-then-is_plain_in : goal.returns-then-is_plain_in
returns-then-is_plain_in c =
    sym (c.is_plain_in.ensures.plain c.if-is_plain_in.true c.requires)
