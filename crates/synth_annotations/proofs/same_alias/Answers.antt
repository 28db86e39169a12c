use mathlib.Core.Bool.{not}
use mathlib.Core.Path.{ap, ◌∙◌}
use Rattle.synth_annotations.specs.Laws.{alias-none, alias-right, alias-left, alias-both}
use Rattle.synth_annotations.proofs.same_alias.Goals as goal
use Rattle.synth_annotations.proofs.same_alias.Goals.{in-Alias-matches, in_default-matches}

pub returns-in-Alias-kind : goal.returns-in-Alias-kind
returns-in-Alias-kind c = alias-both c.args.x c.args.y c.in-Alias.is c.in-Alias-kind.is

pub returns-in_default-kind : goal.returns-in_default-kind
returns-in_default-kind c = alias-left c.args.x c.args.y c.in-Alias.is c.in_default-kind.not-Alias

pub returns-after-matches : goal.returns-after-matches
returns-after-matches c =
    let a = c.args in
    let n = c.in_default.not-Alias in
    elim c.match-matches.branch [
      | in-Alias-matches w ↦ ap not w.matches-is ∙ alias-right a.x a.y n w.in-Alias-matches.is
      | in_default-matches w ↦ ap not w.matches-is ∙ alias-none a.x a.y n w.in_default-matches.not-Alias
    ]
