use mathlib.Core.List.{◌++◌}
use mathlib.Core.Path.{ap, ◌∙◌}
use Rattle.item_pen.specs.Pen.{field_bits}
use Rattle.item_pen.specs.PenLaws.{flushed-none, flushed-all}
use Rattle.item_pen.proofs.take_in.Goals as goal

pub returns-then-held-f-le56 : goal.returns-then-held-f-le56
returns-then-held-f-le56 c =
    let a = c.args in
    let j = c.join.ensures in
    record { bits = ap (λ l. l ++ field_bits c.join.result) (flushed-none a.held a.f c.if-held-f-le56.true) ∙ j.bits }

pub returns : goal.returns
returns c =
    let s = c in
    record { bits = ap (λ l. l ++ field_bits s.args.f) (flushed-all s.args.held s.args.f c.if-held-f-le56.false) }
