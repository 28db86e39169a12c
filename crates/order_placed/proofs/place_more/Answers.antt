use Rattle.std.proofs.Common.{sym, ◌∙◌, arith}
use Rattle.order_placed.specs.PlacingLaws.{joined-yes, joined-no}
use Rattle.order_placed.proofs.place_more.Goals as goal
use Rattle.order_placed.proofs.place_more.Goals.{then-is_free, else-is_free}

pub loop-t-preserved : goal.loop-t-preserved
loop-t-preserved c =
    let p = c.args.l.now in
    let l = c.loop-t in
    elim c.if-is_free.branch [
      | then-is_free w ↦
          rw (w.out-is, w.with_one-out.ensures) (joined-yes p c.args.from l.out l.t l.invariant (omega arith) (sym c.is_free.ensures ∙ w.if-is_free.true))
      | else-is_free w ↦ rw w.out-is (joined-no p c.args.from l.out l.t l.invariant (sym c.is_free.ensures ∙ w.if-is_free.false))
    ]
