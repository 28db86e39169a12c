use Rattle.std.proofs.Common.{subst, ap, ◌≡◌, ◌∙◌, arith}
use Rattle.emitting.specs.Row.{bytes_of}
use Rattle.emitting.specs.Writing.{emits_none, emits_then}
use Rattle.order_diagnosis.specs.Emit.{Emits}
use Rattle.order_diagnosis.specs.Walk.{self_before, self-step, self-all}
use Rattle.order_diagnosis.proofs.self_errors.Goals as goal

pub loop-t-init : goal.loop-t-init
unfolding self_before
loop-t-init c = emits_none _ _

pub loop-t-preserved : goal.loop-t-preserved
loop-t-preserved c =
    rw (self-step c.args.l.now c.loop-t.t) (emits_then bytes_of _ _ _ _ _ c.loop-t.invariant c.put_self_rows.ensures)

pub returns : goal.returns
returns c =
    let a = c.args in
    let p = a.l.now in
    let l = c.loop-t in
    let e : l.t ≡ p.count = omega arith in
    subst (Emits a.out.now l.out) (ap (self_before p) e ∙ self-all p) l.invariant
