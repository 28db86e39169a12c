use Rattle.synth_handing.specs.Steps.{none-is, takes-nothing}
use Rattle.synth_handing.proofs.inherit_any.Goals as goal

pub returns-then-saved-eq0 : goal.returns-then-saved-eq0
returns-then-saved-eq0 c = takes-nothing _ _ _ _ _ (none-is _ c.if-is_none.ensures) c.if-saved-eq0.true
