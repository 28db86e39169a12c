use mathlib.Core.Path.{sym, ◌∙◌}
use Rattle.sheet_types.specs.TopLaws.{other-top, short-top, no_top}
use Rattle.sheet_types.proofs.top_near_end.Goals as goal

pub returns-then-v-eq3 : goal.returns-then-v-eq3
returns-then-v-eq3 c =
    let b = c in
    (other-top _ _ _ _ (sym b.read-in-None.ensures ∙ b.in-Some-read.is) c.if-v-eq3.true, tt)

pub returns-else-v-eq3 : goal.returns-else-v-eq3
returns-else-v-eq3 c =
    let b = c in
    (short-top _ _ _ _ (sym b.read-in-None.ensures ∙ b.in-Some-read.is) c.if-v-eq3.false (sym b.read.ensures ∙ b.in-None.is), tt)

pub returns-in-None-read : goal.returns-in-None-read
returns-in-None-read c =
    (no_top _ _ (sym c.read-in-None.ensures ∙ c.in-None-read.is), tt)
