use mathlib.Core.Bool.{Bool, not}
use mathlib.Core.Path.{sym, ap, subst, ◌∙◌}
use Prim.Native.Nat.{ℕ, ◌+◌, ◌≤◌, ◌<◌}
use native.Mathlib.Omega.{arith}
use lib.Dec.{ltb}
use lib.ListN.{length}
use borrow.Author.Tests.{not-false}
use Rattle.schedule_values.specs.Meeting.{most_bits, Met, Missed}
use Rattle.schedule_values.specs.MeetingLaws.{past-within}
use Rattle.schedule_records.specs.TurningLaws.{in-form, going_start, kept-long, ready, record-wide, passes-refused, fits_in, value-lt, going_on, passes-filled, passes-all}
use Rattle.std.proofs.lemmas.Result.{err_from_is_err_and}
use Rattle.schedule_records.proofs.pass.Goals as goal

pub rule_at-rule-requires : goal.rule_at-rule-requires
rule_at-rule-requires c = omega (arith, c.requires.enough)

pub loop-rule-init : goal.loop-rule-init
loop-rule-init c = (going_start _ _ _ _ _, c.rule_at-rule.ensures, c.bits_within-end.ensures, c.bits_within-room.ensures)

pub overflow_add-to : goal.overflow_add-to
overflow_add-to c =
    let a = c.args in
    let w = c.requires in
    let l = c.loop-rule in
    let h : 0 < l.rule.width = omega (arith, c.loop-rule-test.true) in
    let n = c.in_form-n in
    let m = c.in_form-m in
    let d = ready a.w a.reading a.down a.source.now a.target.now l.target l.place l.at l.to l.invariant.0 l.rule l.invariant.1 w h in
    omega (arith, d.2, in-form (not a.reading) l.rule.width d.0, m.ensures)

pub meet-requires : goal.meet-requires
meet-requires c =
    let a = c.args in
    let w = c.requires in
    let l = c.loop-rule in
    let h : 0 < l.rule.width = omega (arith, c.loop-rule-test.true) in
    let n = c.in_form-n in
    let m = c.in_form-m in
    let d = ready a.w a.reading a.down a.source.now a.target.now l.target l.place l.at l.to l.invariant.0 l.rule l.invariant.1 w h in
    let i = in-form a.reading l.rule.width d.0 in
    (l.invariant.2, omega (arith, i.0, n.ensures), omega (arith, i.1, n.ensures), omega (arith, d.1, i.1, n.ensures))

pub shape_of-target-in_err-value : goal.shape_of-target-in_err-value
shape_of-target-in_err-value c =
    let a = c.args in
    let w = c.requires in
    let l = c.loop-rule in
    omega (arith, kept-long a.w a.reading a.down a.source.now a.target.now l.target l.place l.at l.to l.invariant.0 l.rule l.invariant.1 w)

pub returns-in_err-value : goal.returns-in_err-value
returns-in_err-value c =
    let a = c.args in
    let w = c.requires in
    let l = c.loop-rule in
    let h : 0 < l.rule.width = omega (arith, c.loop-rule-test.true) in
    let n = c.in_form-n in
    let m = c.in_form-m in
    let d = ready a.w a.reading a.down a.source.now a.target.now l.target l.place l.at l.to l.invariant.0 l.rule l.invariant.1 w h in
    let y : l.to + m.result ≤ most_bits = omega (arith, d.2, in-form (not a.reading) l.rule.width d.0, m.ensures) in
    let r = subst (λ (b : Bool). Missed b n.result l.rule a.source.now l.at c.in_err-value.field-0.0) (ap (λ (i : ℕ). ltb i (l.to + m.result)) l.invariant.3 ∙ past-within (length a.target.now) (l.to + m.result) y) c.in_err-value.ensures in
    let e = err_from_is_err_and c.from_residual.result c.from_residual.ensures.1 in
    rw (e.1, e.2) (passes-refused a.w a.reading a.down a.source.now a.target.now l.target l.place l.at l.to l.invariant.0 l.rule l.invariant.1 w h n.result m.result n.ensures m.ensures _ r)

pub overflow_add-at : goal.overflow_add-at
overflow_add-at c =
    let a = c.args in
    let w = c.requires in
    let l = c.loop-rule in
    let h : 0 < l.rule.width = omega (arith, c.loop-rule-test.true) in
    let n = c.in_form-n in
    let m = c.in_form-m in
    let d = ready a.w a.reading a.down a.source.now a.target.now l.target l.place l.at l.to l.invariant.0 l.rule l.invariant.1 w h in
    omega (arith, d.1, in-form a.reading l.rule.width d.0, n.ensures)

pub invariant_of-field : goal.invariant_of-field
invariant_of-field c =
    let a = c.args in
    let w = c.requires in
    let l = c.loop-rule in
    let h : 0 < l.rule.width = omega (arith, c.loop-rule-test.true) in
    let n = c.in_form-n in
    let m = c.in_form-m in
    let d = ready a.w a.reading a.down a.source.now a.target.now l.target l.place l.at l.to l.invariant.0 l.rule l.invariant.1 w h in
    let y : l.to + m.result ≤ most_bits = omega (arith, d.2, in-form (not a.reading) l.rule.width d.0, m.ensures) in
    let r = subst (λ (b : Bool). Met b n.result l.rule a.source.now l.at c.in_ok-value.value) (ap (λ (i : ℕ). ltb i (l.to + m.result)) l.invariant.3 ∙ past-within (length a.target.now) (l.to + m.result) y) c.in_ok-value.ensures in
    record {
      few = omega (arith, (in-form (not a.reading) l.rule.width d.0).1, m.ensures);
      most = value-lt a.w a.reading a.down a.source.now a.target.now l.target l.place l.at l.to l.invariant.0 l.rule l.invariant.1 w h n.result m.result n.ensures m.ensures _ r;
    }

pub lay-to-requires : goal.lay-to-requires
lay-to-requires c =
    let a = c.args in
    let w = c.requires in
    let l = c.loop-rule in
    let h : 0 < l.rule.width = omega (arith, c.loop-rule-test.true) in
    let n = c.in_form-n in
    let m = c.in_form-m in
    let d = ready a.w a.reading a.down a.source.now a.target.now l.target l.place l.at l.to l.invariant.0 l.rule l.invariant.1 w h in
    let y : l.to + m.result ≤ most_bits = omega (arith, d.2, in-form (not a.reading) l.rule.width d.0, m.ensures) in
    let r = subst (λ (b : Bool). Met b n.result l.rule a.source.now l.at c.in_ok-value.value) (ap (λ (i : ℕ). ltb i (l.to + m.result)) l.invariant.3 ∙ past-within (length a.target.now) (l.to + m.result) y) c.in_ok-value.ensures in
    let i = in-form (not a.reading) l.rule.width d.0 in record {
      room = record {
        fits = λ _. omega (arith, fits_in a.w a.reading a.down a.source.now a.target.now l.target l.place l.at l.to l.invariant.0 l.rule l.invariant.1 w h n.result m.result n.ensures m.ensures _ r, d.4);
        small = omega (arith, y);
      };
      aligned = record {
        some = omega (arith, i.0, m.ensures, h);
        wide = λ e. record-wide a.w a.reading a.down a.source.now a.target.now l.target l.place l.at l.to l.invariant.0 l.rule l.invariant.1 w h n.result m.result n.ensures m.ensures (not-false a.reading e);
        even = λ e. l.invariant.0.even (not-false a.reading e);
      };
    }

pub loop-rule-smaller : goal.loop-rule-smaller
loop-rule-smaller c =
    let a = c.args in
    let w = c.requires in
    let l = c.loop-rule in
    let h : 0 < l.rule.width = omega (arith, c.loop-rule-test.true) in
    let n = c.in_form-n in
    let m = c.in_form-m in
    let d = ready a.w a.reading a.down a.source.now a.target.now l.target l.place l.at l.to l.invariant.0 l.rule l.invariant.1 w h in
    let y : l.to + m.result ≤ most_bits = omega (arith, d.2, in-form (not a.reading) l.rule.width d.0, m.ensures) in
    let r = subst (λ (b : Bool). Met b n.result l.rule a.source.now l.at c.in_ok-value.value) (ap (λ (i : ℕ). ltb i (l.to + m.result)) l.invariant.3 ∙ past-within (length a.target.now) (l.to + m.result) y) c.in_ok-value.ensures in
    let e = l.invariant.1 in
    c.next-place.ensures.less a.w (omega (arith, e.width)) (omega (arith, r.few, e.most))

pub loop-rule-preserved : goal.loop-rule-preserved
loop-rule-preserved c =
    let a = c.args in
    let w = c.requires in
    let l = c.loop-rule in
    let h : 0 < l.rule.width = omega (arith, c.loop-rule-test.true) in
    let n = c.in_form-n in
    let m = c.in_form-m in
    let d = ready a.w a.reading a.down a.source.now a.target.now l.target l.place l.at l.to l.invariant.0 l.rule l.invariant.1 w h in
    let y : l.to + m.result ≤ most_bits = omega (arith, d.2, in-form (not a.reading) l.rule.width d.0, m.ensures) in
    let r = subst (λ (b : Bool). Met b n.result l.rule a.source.now l.at c.in_ok-value.value) (ap (λ (i : ℕ). ltb i (l.to + m.result)) l.invariant.3 ∙ past-within (length a.target.now) (l.to + m.result) y) c.in_ok-value.ensures in
    (going_on a.w a.reading a.down a.source.now a.target.now l.target l.place l.at l.to l.invariant.0 l.rule l.invariant.1 w h n.result m.result n.ensures m.ensures _ r _ _ _ c.lay-to.ensures c.next-place.ensures, c.rule_at-rule-in-loop-rule.ensures, l.invariant.2, l.invariant.3)

pub is_bad_fill-requires : goal.is_bad_fill-requires
is_bad_fill-requires c = omega (arith, c.loop-rule.invariant.0.few_read)

pub shape_of-target-then-is_bad_fill : goal.shape_of-target-then-is_bad_fill
shape_of-target-then-is_bad_fill c =
    let a = c.args in
    let w = c.requires in
    let l = c.loop-rule in
    omega (arith, kept-long a.w a.reading a.down a.source.now a.target.now l.target l.place l.at l.to l.invariant.0 l.rule l.invariant.1 w)

pub returns-then-is_bad_fill : goal.returns-then-is_bad_fill
returns-then-is_bad_fill c =
    let a = c.args in
    let w = c.requires in
    let l = c.loop-rule in
    passes-filled a.w a.reading a.down a.source.now a.target.now l.target l.place l.at l.to l.invariant.0 l.rule l.invariant.1 w (omega (arith, c.loop-rule-test.false)) (sym c.is_bad_fill.ensures ∙ c.if-is_bad_fill.true)

pub shape_of-target : goal.shape_of-target
shape_of-target c =
    let a = c.args in
    let w = c.requires in
    let l = c.loop-rule in
    omega (arith, kept-long a.w a.reading a.down a.source.now a.target.now l.target l.place l.at l.to l.invariant.0 l.rule l.invariant.1 w)

pub returns : goal.returns
returns c =
    let a = c.args in
    let w = c.requires in
    let l = c.loop-rule in
    passes-all a.w a.reading a.down a.source.now a.target.now l.target l.place l.at l.to l.invariant.0 l.rule l.invariant.1 w (omega (arith, c.loop-rule-test.false)) (sym c.is_bad_fill.ensures ∙ c.if-is_bad_fill.false)
