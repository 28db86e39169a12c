use Rattle.std.proofs.Common.{sym, ◌∙◌, rules}
use Rattle.sheet_same.specs.RepeatLaws.{same-annotation, unlike-kinds}
use Rattle.sheet_same.proofs.is_same_annotation.Goals as goal

pub returns-then-eq : goal.returns-then-eq
returns-then-eq c = c.is_same_content.ensures ∙ sym (same-annotation c.args.a c.args.b (search rules))

pub returns-else-eq : goal.returns-else-eq
returns-else-eq c = c.if-eq.false ∙ sym (unlike-kinds c.args.a c.args.b (search rules))
