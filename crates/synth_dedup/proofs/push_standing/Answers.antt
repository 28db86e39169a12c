use Rattle.std.proofs.Common.{sym, ◌∙◌}
use Rattle.bounded.specs.Items.{items_of}
use Rattle.synth_dedup.specs.Entries.{entries_of}
use Rattle.synth_dedup.specs.MergeLaws.{pushed, not-pushed}
use Rattle.synth_dedup.proofs.push_standing.Goals as goal

pub returns-then-stands : goal.returns-then-stands
unfolding entries_of
returns-then-stands c = c.push.ensures.0 ∙ pushed (items_of c.args.l.now) c.args.e (sym c.stands.ensures ∙ c.if-stands.true)

pub returns-else-stands : goal.returns-else-stands
returns-else-stands c = not-pushed (entries_of c.args.l.now) c.args.e (sym c.stands.ensures ∙ c.if-stands.false)
