use mathlib.Core.Path.{sym, ◌∙◌}
use Rattle.answers.specs.TellingLaws.{too_long, wrong_limit, no_room, all-fit}
use Rattle.answers.proofs.refused_early.Goals as goal

pub returns-then-size-gt-SHEET : goal.returns-then-size-gt-SHEET
returns-then-size-gt-SHEET c = too_long _ _ _ c.if-size-gt-SHEET.true

pub returns-then-is_bad_limit : goal.returns-then-is_bad_limit
returns-then-is_bad_limit c = wrong_limit _ _ _ c.if-size-gt-SHEET.false (sym c.is_bad_limit.ensures ∙ c.if-is_bad_limit.true)

pub returns-then-room-settings : goal.returns-then-room-settings
returns-then-room-settings c =
    no_room _ _ _ c.if-size-gt-SHEET.false (sym c.is_bad_limit.ensures ∙ c.if-is_bad_limit.false) c.if-room-settings.true

pub returns : goal.returns
returns c =
    all-fit _ _ _ c.if-size-gt-SHEET.false (sym c.is_bad_limit.ensures ∙ c.if-is_bad_limit.false) c.if-room-settings.false
