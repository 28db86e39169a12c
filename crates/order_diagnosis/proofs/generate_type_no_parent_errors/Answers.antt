use Rattle.std.proofs.Common.{sym, subst, ap, ◌≡◌, ◌∙◌, arith}
use Rattle.emitting.specs.Row.{bytes_of}
use Rattle.emitting.specs.Writing.{emits_none, emits_then}
use Rattle.order_diagnosis.specs.Emit.{Emits}
use Rattle.order_diagnosis.specs.Walk.{before, before-yes, before-no, before-all, at-start}
use Rattle.order_diagnosis.proofs.generate_type_no_parent_errors.Goals as goal
use Rattle.order_diagnosis.proofs.generate_type_no_parent_errors.Goals.{then-not-has, else-not-has}

pub loop-t-init : goal.loop-t-init
unfolding before
loop-t-init c = emits_none _ _

pub find_cycles_or_bad_types-requires : goal.find_cycles_or_bad_types-requires
find_cycles_or_bad_types-requires c =
    at-start c.args.l.now c.args.placed c.requires c.loop-t.t (omega arith) (sym c.has.ensures ∙ c.if-not-has.true)

pub loop-t-preserved : goal.loop-t-preserved
loop-t-preserved c =
    let a = c.args in
    let l = c.loop-t in
    let p = a.l.now in
    elim c.if-not-has.branch [
      | then-not-has w ↦
          rw (w.out-is, before-yes p a.placed l.t (sym c.has.ensures ∙ w.if-not-has.true))
          (emits_then bytes_of _ _ _ _ _ l.invariant w.find_cycles_or_bad_types.ensures)
      | else-not-has w ↦ rw (w.out-is, before-no p a.placed l.t (sym c.has.ensures ∙ w.if-not-has.false)) l.invariant
    ]

pub returns : goal.returns
returns c =
    let a = c.args in
    let p = a.l.now in
    let l = c.loop-t in
    let e : l.t ≡ p.count = omega arith in
    subst (Emits a.out.now l.out) (ap (before p a.placed) e ∙ before-all p a.placed c.requires) l.invariant
