use Rattle.std.proofs.Common.{◌∙◌, arith}
use Rattle.std.proofs.lemmas.Cmp.{ranked}
use Rattle.sheet_words.specs.WordLaws.{less-is, more-is, same-is}
use Rattle.sheet_words.proofs.is_before.Goals as goal

pub returns-in-Less : goal.returns-in-Less
returns-in-Less c = let a = c.args in less-is a.a a.b (rw c.in-Less.is at (ranked a.a.head a.b.head c.cmp.result c.cmp.ensures))

pub returns-in-Equal : goal.returns-in-Equal
returns-in-Equal c =
    let a = c.args in
    let e = rw c.in-Equal.is at (ranked a.a.head a.b.head c.cmp.result c.cmp.ensures) in
    c.rest_before.ensures ∙ same-is a.a a.b (omega (arith, e)) (omega (arith, e))

pub returns-in-Greater : goal.returns-in-Greater
returns-in-Greater c = let a = c.args in more-is a.a a.b (rw c.in-Greater.is at (ranked a.a.head a.b.head c.cmp.result c.cmp.ensures))
