use Rattle.std.proofs.Common.{sym, ap, ◌∙◌}
use Rattle.item_heads.specs.declared.packed.Packed.{Packed}
use Rattle.catalogue.specs.DomLaws.{by_dom-less}
use Rattle.item_refusal.specs.Tests.{number_left, behind}
use Rattle.item_refusal.specs.TestLaws.{follow_next, follow_stop, follow_end}
use Rattle.item_refusal.proofs.marks_behind.Goals as goal

pub loop-places-smaller : goal.loop-places-smaller
loop-places-smaller c = rw (c.without-places.ensures, c.with_one.ensures) (by_dom-less c.args.t.now _ _ c.first_by_dom-e.ensures)

pub loop-places-preserved : goal.loop-places-preserved
loop-places-preserved c =
    let next = c.in_ok-rest.ensures ∙ ap (λ (p : Packed). behind c.args.marks c.loop-places.rest p.bits p.width) c.marks_of-next.ensures in
    rw (c.without-places.ensures, c.with_one.ensures) (c.loop-places.invariant ∙ follow_next _ _ _ _ _ _ c.first_by_dom-e.ensures next)

pub returns-in_err-rest : goal.returns-in_err-rest
returns-in_err-rest c =
    let next = c.in_err-rest.ensures ∙ ap (λ (p : Packed). behind c.args.marks c.loop-places.rest p.bits p.width) c.marks_of-next.ensures in
    ap number_left c.from_residual.ensures ∙ sym (c.loop-places.invariant ∙ follow_stop _ _ _ _ _ c.first_by_dom-e.ensures next)

pub returns : goal.returns
returns c = sym (c.loop-places.invariant ∙ follow_end _ _ _ _ c.loop-places-test.false)
