-- Relisted sheets have one map, so the same items, the same refusals and the same lines.
use Rattle.std.specs.Prelude.{false, ◌≡◌}
use Rattle.std.proofs.Common.{sym, ap, ◌∙◌, subst}
use Rattle.lists.specs.Lists.{In}
use Rattle.definitions.specs.Records.{Sheet}
use Rattle.definitions.specs.Items.{items_of}
use Rattle.definitions.specs.ItemOrder.{InOrder}
use Rattle.definitions.specs.Relisted.{Relisted}
use Rattle.law_orders.specs.Comparisons.{names-once}
use Rattle.law_orders.specs.Relisting.{relisted-map}
use Rattle.law_lines.specs.Statements.{Readable, line_map, any_refused, RelistedItems, RelistedAccepted, RelistedLines, RelistedInOrder}
use Rattle.law_lines.specs.Lines.{items-are-lines}
use Rattle.law_lines.proofs.Refused.{accepted-is-tested}
use Rattle.law_lines.specs.InOrder.{items-in-order}

one_map : (s t : Sheet) → Readable s → Relisted s t → line_map s ≡ line_map t
one_map s t ok r = relisted-map s t (names-once s ok.once) r

pub relisted-items : RelistedItems
relisted-items s t ok r = ap items_of (one_map s t ok r)

pub relisted-accepted : RelistedAccepted
relisted-accepted s t ok ko r =
    let e = one_map s t ok r in (
      λ a. (accepted-is-tested t ko).0 (subst (λ m. any_refused m ≡ false) e ((accepted-is-tested s ok).1 a)),
      λ a. (accepted-is-tested s ok).0 (subst (λ m. any_refused m ≡ false) (sym e) ((accepted-is-tested t ko).1 a)),
    )

pub relisted-lines : RelistedLines
relisted-lines s t ok ko r a x =
    let b = (relisted-accepted s t ok ko r).0 a in
    let e = relisted-items s t ok r in (
      λ h. (items-are-lines t ko b x).0 (subst (In x) e ((items-are-lines s ok a x).1 h)),
      λ h. (items-are-lines s ok a x).0 (subst (In x) (sym e) ((items-are-lines t ko b x).1 h)),
    )

pub relisted-in-order : RelistedInOrder
relisted-in-order s t ok ko r a l =
    let b = (relisted-accepted s t ok ko r).0 a in
    let e = relisted-items s t ok r in
    let p = items-in-order s ok a in
    let q = items-in-order t ko b in (
      λ h. subst (InOrder t) (sym (p.only l h ∙ e)) q.ordered,
      λ h. subst (InOrder s) (sym (q.only l h ∙ sym e)) p.ordered,
    )
