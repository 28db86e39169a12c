use mathlib.Core.Path.{sym, ◌∙◌}
use native.Mathlib.Omega.{arith}
use Rattle.std.proofs.lemmas.Result.{err_from_is_err_and}
use Rattle.schedule_values.specs.MeetingLaws.{good-width}
use Rattle.schedule_records.specs.CallLaws.{turned-away, by-a-field, looked-at, accepting}
use Rattle.schedule_records.proofs.turn.Goals as goal

pub returns-then-is_bad_width : goal.returns-then-is_bad_width
returns-then-is_bad_width c =
    let a = c.args in
    turned-away a.w a.reading a.source.now a.target.now (sym c.is_bad_width.ensures ∙ c.if-is_bad_width.true)

pub pass-requires : goal.pass-requires
pass-requires c = good-width _ (sym c.is_bad_width.ensures ∙ c.if-is_bad_width.false)

pub returns-in_err-pass : goal.returns-in_err-pass
returns-in_err-pass c =
    let a = c.args in
    let w = good-width _ (sym c.is_bad_width.ensures ∙ c.if-is_bad_width.false) in
    let e = err_from_is_err_and c.from_residual.result c.from_residual.ensures.1 in
    rw (e.1, e.2) (by-a-field a.w a.reading a.source.now a.target.now w _ _ c.in_err-pass.ensures)

pub pass-requires-2 : goal.pass-requires-2
pass-requires-2 c = good-width _ (sym c.is_bad_width.ensures ∙ c.if-is_bad_width.false)

pub returns-in_err-bits : goal.returns-in_err-bits
returns-in_err-bits c =
    let a = c.args in
    let w = good-width _ (sym c.is_bad_width.ensures ∙ c.if-is_bad_width.false) in
    absurd (looked-at a.w a.reading a.source.now a.target.now w _ _ c.in_ok-pass.ensures _ _ c.in_err-bits.ensures)

pub overflow_add-result : goal.overflow_add-result
overflow_add-result c = let h = c.in_ok-bits.ensures in omega (arith, h.came.few)

pub returns : goal.returns
returns c =
    let a = c.args in
    let w = good-width _ (sym c.is_bad_width.ensures ∙ c.if-is_bad_width.false) in
    accepting a.w a.reading a.source.now a.target.now w _ _ c.in_ok-pass.ensures _ _ c.in_ok-bits.ensures
