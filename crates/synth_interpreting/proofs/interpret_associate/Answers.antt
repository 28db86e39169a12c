use mathlib.Core.Bool.{true, false}
use mathlib.Core.Path.{◌≡◌, ap, ◌∙◌}
use Rattle.std.proofs.Common.{rules}
use Rattle.synth_associates.specs.Step.{ended_in}
use Rattle.synth_classes.specs.Numbers.{numbers_left}
use Rattle.synth_interpreting.specs.EntryLaws.{going_start, going_taken, going_ended, going_last}
use Rattle.synth_interpreting.proofs.interpret_associate.Goals as goal

pub loop-word-init : goal.loop-word-init
loop-word-init c = going_start _ _ _ _ _ _ _ (ap (numbers_left _) c.into_iter-word-iterator.ensures.into_iter_gives ∙ c.of-word-items.ensures)

pub returns-then-eq : goal.returns-then-eq
returns-then-eq c = let e : ended_in c.loop-word.standing ≡ true = search rules in going_ended _ _ _ _ _ _ _ _ _ c.loop-word.invariant e

pub loop-word-preserved : goal.loop-word-preserved
loop-word-preserved c =
    let e : ended_in c.loop-word.standing ≡ false = search rules in
    going_taken _ _ _ _ _ _ _ _ _ c.loop-word.invariant _ _ _ _ c.in-Some.ensures.steps e c.interpret_word-standing.ensures

pub returns : goal.returns
returns c = going_last _ _ _ _ _ _ _ _ _ c.loop-word.invariant c.in-None.ensures.steps.0
