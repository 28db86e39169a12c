use Rattle.item_draft.specs.Parts.{HeadsPut}
use Rattle.item_draft.proofs.put_heads.Given as goal

abbrev pub invariant-loop-a : goal.invariant-loop-a
invariant-loop-a l = HeadsPut l.x.draft.now l.x.entries.now l.a l.initial.t l.t l.resources
