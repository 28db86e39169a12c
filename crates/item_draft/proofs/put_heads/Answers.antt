use Rattle.std.proofs.Common.{◌≡◌, length, subst, arith, rules}
use Rattle.sheet_draft.specs.declared.DraftRow.{DraftRow}
use Rattle.item_draft.specs.Parts.{HeadOf}
use Rattle.item_draft.specs.PartLaws.{heads-none, heads-more}
use Rattle.item_draft.proofs.put_heads.Goals as goal

pub loop-a-init : goal.loop-a-init
loop-a-init c = heads-none _ _ _

pub loop-a-preserved : goal.loop-a-preserved
loop-a-preserved c =
    let l = c.loop-a in
    let long : length l.t.heads ≡ 64 = search rules in
    heads-more c.args.x.draft.now c.args.x.entries.now l.a c.args.t.now l.t l.resources c.with_resource-resources.result c.head_in_bits-head.result (omega (arith, c.requires.0))
    (subst (λ (row : DraftRow). HeadOf row.head c.head_in_bits-head.result) c.row.ensures c.head_in_bits-head.ensures) c.with_resource-resources.ensures l.invariant
