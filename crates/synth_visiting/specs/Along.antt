-- The rows of the synthesis are those of the types along the code's trail.
use Rattle.std.specs.Prelude.{List, ◌≡◌}
use Rattle.std.proofs.Common.{ap, ◌∙◌}
use Rattle.definitions.specs.Map.{TypeMap}
use Rattle.definitions.specs.Synthesis.{synthesis}
use Rattle.law_visit.specs.Trail.{Reached, play_all, nothing_played, played_rows}
use Rattle.law_visit.specs.TwoSteps.{rows-in-two-steps}
use Rattle.order_form.specs.Lists.{tab}
use Rattle.order_form.specs.Reading.{Reads}
use Rattle.order_form.specs.declared.Parents.{Parents}
use Rattle.synth_visiting.specs.Trails.{reached_at, TrailOf}
use Rattle.synth_visiting.specs.declared.Trail.{Trail}

pub rows-along : (p : Parents) (r : Trail) → TrailOf p r → (m : TypeMap) → Reads p m
    → (synthesis m).rows ≡ (play_all m nothing_played (tab (reached_at p m r) r.arrivals.count)).rows
unfolding played_rows
rows-along p r d m h = rows-in-two-steps m ∙ ap (λ (l : List Reached). (play_all m nothing_played l).rows) (d.reached m h)
