use Rattle.std.proofs.Common.{sym, subst, ◌≡◌, ◌∙◌, ℕ, arith}
use Rattle.order_form.specs.Lists.{tab}
use Rattle.order_form.specs.Reading.{parent_at, how_many, listed}
use Rattle.emitting.specs.Row.{bytes_of}
use Rattle.emitting.specs.Writing.{emits_none, emits_then}
use Rattle.order_diagnosis.specs.Rows.{self_rows_of}
use Rattle.order_diagnosis.specs.Emit.{Emits}
use Rattle.order_diagnosis.specs.Walk.{self-yes, self-no}
use Rattle.order_diagnosis.proofs.put_self_rows.Goals as goal
use Rattle.order_diagnosis.proofs.put_self_rows.Goals.{then-is_self, else-is_self}

pub loop-i-init : goal.loop-i-init
loop-i-init c = emits_none _ _

pub loop-i-preserved : goal.loop-i-preserved
loop-i-preserved c =
    let a = c.args in
    let l = c.loop-i in
    let p = a.l.now in
    let f = λ (k : ℕ). parent_at p a.t k in
    elim c.if-is_self.branch [
      | then-is_self w ↦
          rw (w.out-is, self-yes p a.t f l.i (sym c.is_self.ensures ∙ w.if-is_self.true))
          (emits_then bytes_of _ _ _ _ _ l.invariant w.put_parent_row.ensures)
      | else-is_self w ↦ rw (w.out-is, self-no p a.t f l.i (sym c.is_self.ensures ∙ w.if-is_self.false)) l.invariant
    ]

pub returns : goal.returns
unfolding listed
returns c =
    let a = c.args in
    let p = a.l.now in
    let l = c.loop-i in
    let e : l.i ≡ how_many p a.t = omega (arith, c.from-i-end.ensures) in
    subst (λ (k : ℕ). Emits a.out.now l.out (self_rows_of p a.t (tab (λ j. parent_at p a.t j) k))) e l.invariant
