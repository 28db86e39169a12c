use mathlib.Core.List.{append-nil}
use mathlib.Core.Path.{◌≡◌, sym, subst, ◌∙◌, ap, ap₂}
use native.Mathlib.Omega.{arith}
use Rattle.lists.specs.Lists.{each, place_of}
use Rattle.rows.specs.Rows.{has_bit}
use Rattle.bitsets.specs.Bitsets.{more}
use Rattle.order_form.specs.Lists.{tab, each-tab-step}
use Rattle.order_form.specs.Reading.{parent_at, how_many, listed}
use Rattle.order_form.specs.declared.Parent.{Parent}
use Rattle.order_placed.specs.Placing.{off}
use Rattle.order_diagnosis.specs.Rows.{rows, bad}
use Rattle.order_diagnosis.specs.Emit.{Emits}
use Rattle.order_diagnosis.specs.Walk.{At, fewer, rows-bad, rows_on, pass, declared, onward}
use Prim.Native.Nat.{ℕ}
use Rattle.emitting.specs.Row.{bytes_of}
use Rattle.emitting.specs.Writing.{emits_none, emits_then, emits_over}
use Rattle.order_diagnosis.proofs.+find_cycles_or_bad_types.Goals as goal
use Rattle.order_diagnosis.proofs.+find_cycles_or_bad_types.Goals.{then-not-has, else-not-has}

pub returns-then-is_over : goal.returns-then-is_over
returns-then-is_over t c = emits_over bytes_of _ _ (sym c.is_over.ensures ∙ c.if-is_over.true)

pub returns-in-Some : goal.returns-in-Some
returns-in-Some t c =
    let a = c.args in
    let p = a.l.now in
    let f = c.in-Some.ensures in
    rw (
      rows-bad p a.placed a.t a.path c.requires c.in-Some.i (f.1 ∙ ap (λ (x : ℕ). place_of (bad p x) (listed p a.t)) c.with_one-here.ensures) f.0,
      ← c.bad_kind.ensures,
    )
    c.put_parent_row.ensures

pub loop-i-init : goal.loop-i-init
loop-i-init t c = emits_none _ _

pub has-requires : goal.has-requires
has-requires t c =
    let a = c.args in
    let r = c.requires in
    let b = rw c.with_one-here.ensures at c.in_default.ensures in
    omega (arith, declared a.l.now a.placed a.t a.path r c.loop-i.i b (omega (arith, c.from-i-end.ensures, c.loop-i-test.true)), c.place-place.ensures, a.l.now.few)

-- the parent of this turn, where it is not placed
pub find_cycles_or_bad_types-requires : goal.find_cycles_or_bad_types-requires
find_cycles_or_bad_types-requires t c =
    let a = c.args in
    let r = c.requires in
    let p = a.l.now in
    let l = c.loop-i in
    let h = c.with_one-here.ensures in
    let e = c.place-place.ensures in
    let b = rw h at c.in_default.ensures in
    let x = onward p a.placed a.t a.path r l.i b (omega (arith, c.from-i-end.ensures, c.loop-i-test.true)) (ap (has_bit a.placed) (sym e) ∙ sym c.has.ensures ∙ c.if-not-has.true) in
    let n : At p a.placed c.place-place.result c.with_one-here.result = rw (h, e) x in (omega (arith, fewer p a.placed a.t a.path r, ap (off p.count) h), n)

pub loop-i-preserved : goal.loop-i-preserved
loop-i-preserved t c =
    let a = c.args in
    let l = c.loop-i in
    let p = a.l.now in
    let on = more a.path a.t in
    let x = (parent_at p a.t l.i).place in
    let e = each-tab-step (λ k. parent_at p a.t k) (λ (q : Parent). rows (off p.count on) p on q.place) l.i in
    let g = ap₂ (λ (h y : ℕ). rows (off p.count h) p h y) c.with_one-here.ensures c.place-place.ensures in
    elim c.if-not-has.branch [
      | then-not-has w ↦
          rw (w.out-is, e)
          (emits_then bytes_of _ _ _ _ _ l.invariant (subst (Emits l.out w.find_cycles_or_bad_types.new.out) g w.find_cycles_or_bad_types.ensures))
      | else-not-has w ↦
          let q = pass p a.placed a.t a.path c.requires (off p.count on) x (ap (has_bit a.placed) (sym c.place-place.ensures) ∙ sym c.has.ensures ∙ w.if-not-has.false) in
          rw (w.out-is, e, q, append-nil) l.invariant
    ]

pub returns : goal.returns
unfolding listed
returns t c =
    let a = c.args in
    let l = c.loop-i in
    let p = a.l.now in
    let on = more a.path a.t in
    let e : l.i ≡ how_many p a.t = omega (arith, c.from-i-end.ensures) in
    subst (Emits a.out.now l.out)
    (ap (λ (k : ℕ). each (λ (q : Parent). rows (off p.count on) p on q.place) (tab (λ j. parent_at p a.t j) k)) e
    ∙ sym (rows_on p a.placed a.t a.path c.requires (rw c.with_one-here.ensures at c.in_default.ensures)))
    l.invariant
