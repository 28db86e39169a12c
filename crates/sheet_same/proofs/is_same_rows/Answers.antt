use mathlib.Core.Path.{refl, sym, ◌∙◌}
use lib.Dec.{eqb}
use borrow.Author.Rules.{rules}
use borrow.Author.Tests.{ne_eqb}
use Rattle.std.proofs.Common.{tests}
use Rattle.std.proofs.lemmas.Iterator.{YieldsList-from_range}
use Rattle.std.proofs.lemmas.Iterator.Search.{all_from_yields_List}
use Rattle.lists.specs.Lists.{same_list}
use Rattle.lists.specs.Places.{same_length}
use Rattle.sheet_same.specs.Repeats.{rows_of, row_at}
use Rattle.sheet_same.specs.RepeatLaws.{rows-all, length-rows_of}
use Rattle.sheet_same.proofs.is_same_rows.Goals as goal

pub returns-then-a-b : goal.returns-then-a-b
returns-then-a-b c =
    let a = c.args.a.now in
    let b = c.args.b.now in
    all_from_yields_List (λ i. same_list eqb (row_at a i) (row_at b i)) _ _ _ c.all.ensures.ran (YieldsList-from_range 0 a.count _ refl refl) (λ x b q k. search (rules, tests))
    ∙ rows-all a b c.if-a-b.true

pub returns-else-a-b : goal.returns-else-a-b
returns-else-a-b c =
    let a = c.args.a.now in
    let b = c.args.b.now in
    ne_eqb _ _ c.if-a-b.false ∙ sym (same_length (same_list eqb) (rows_of a) (rows_of b) (λ e. c.if-a-b.false (sym (length-rows_of a) ∙ e ∙ length-rows_of b)))
