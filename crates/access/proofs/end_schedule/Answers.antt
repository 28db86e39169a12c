use mathlib.Core.Bool.{true}
use mathlib.Core.Path.{sym, ◌∙◌}
use Rattle.definitions.specs.Answer.{schedule}
use Rattle.item_refusal.specs.DecideLaws.{decides, refused-lost}
use Rattle.access.specs.EndLaws.{unordered-so, scheduled-so}
use Rattle.access.specs.TableLaws.{readable, drafts, sketch, found-is}
use Rattle.access.specs.ScheduleLaws.{fillable, filled-for, refused-is, orderly}
use Rattle.access.proofs.end_schedule.Goals as goal

pub no_order-requires-clause-drafts : goal.no_order-requires-clause-drafts
no_order-requires-clause-drafts c = drafts _ _ _ _ _ c.requires.whole

pub returns-in_default : goal.returns-in_default
returns-in_default c =
    let o = c.in_default.ensures in
    let n = c.no_order in
    record {
      due = λ w.
          unordered-so schedule _ _ _ _ _ _ _ (sketch _ _ _ _ _ w _ _ _ _ o.1) _ _ _ n.result (found-is _ _ _ _ _ w _ _ _ _ o.1) n.ensures;
    }

pub fill-lost-requires-clause-fillable : goal.fill-lost-requires-clause-fillable
fill-lost-requires-clause-fillable c = fillable _ _ _ _ _ c.requires.whole _ _ _ c.in-Some.ensures

pub type_refused-requires-clause-filled_for : goal.type_refused-requires-clause-filled_for
type_refused-requires-clause-filled_for c =
    let w = c.requires.whole in
    let g = c.fill-lost in
    let x = decides g.new.t g.result true (refused-lost g.new.t g.result c.if-lost.true) in
    (w.s, filled-for _ _ _ _ _ w _ _ _ c.in-Some.ensures _ g.result true g.ensures x)

pub returns-then-lost : goal.returns-then-lost
returns-then-lost c =
    let o = c.in-Some.ensures in
    let g = c.fill-lost in
    let x = decides g.new.t g.result true (refused-lost g.new.t g.result c.if-lost.true) in
    let y = c.type_refused in
    record {
      due = λ w.
          y.ensures.due _ (filled-for _ _ _ _ _ w _ _ _ o _ g.result true g.ensures x)
          (sym (refused-is _ _ _ _ _ w _ _ _ o _ g.result true g.ensures x)) _;
    }

pub type_refused-requires-then-is_refused-clause-filled_for : goal.type_refused-requires-then-is_refused-clause-filled_for
type_refused-requires-then-is_refused-clause-filled_for c =
    let w = c.requires.whole in
    let g = c.fill-lost in
    let x = c.is_refused in
    (w.s, filled-for _ _ _ _ _ w _ _ _ c.in-Some.ensures _ g.result x.result g.ensures x.ensures)

pub returns-then-is_refused : goal.returns-then-is_refused
returns-then-is_refused c =
    let o = c.in-Some.ensures in
    let g = c.fill-lost in
    let x = c.is_refused in
    let y = c.type_refused-then-is_refused in
    record {
      due = λ w.
          y.ensures.due _ (filled-for _ _ _ _ _ w _ _ _ o _ g.result x.result g.ensures x.ensures)
          (sym (refused-is _ _ _ _ _ w _ _ _ o _ g.result x.result g.ensures x.ensures) ∙ c.if-is_refused.true) _;
    }

pub write_schedule-requires : goal.write_schedule-requires
write_schedule-requires c =
    let w = c.requires.whole in
    let g = c.fill-lost in
    let x = c.is_refused in
    record { sheet = w.s; orderly = orderly _ _ _ _ _ w _ _ _ c.in-Some.ensures _ g.result x.result g.ensures x.ensures c.if-is_refused.false }

pub returns : goal.returns
returns c =
    let o = c.in-Some.ensures in
    let g = c.fill-lost in
    let x = c.is_refused in
    let e = c.if-is_refused.false in
    let l = c.write_schedule in
    record {
      due = λ w.
          scheduled-so _ _ (readable _ _ _ _ _ w) (found-is _ _ _ _ _ w _ _ _ _ o) _ _ _ l.result (sym (refused-is _ _ _ _ _ w _ _ _ o _ g.result x.result g.ensures x.ensures) ∙ e)
          (l.ensures.lists _ (orderly _ _ _ _ _ w _ _ _ o _ g.result x.result g.ensures x.ensures e));
    }
