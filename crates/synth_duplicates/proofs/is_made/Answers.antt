use Rattle.std.proofs.Common.{true, false, rules}
use Rattle.std.proofs.lemmas.Iterator.{cases_from_any, YieldsList-from_slice}
use Rattle.bounded.specs.Items.{items_of}
use Rattle.synth_duplicates.specs.declared.Making.{Making}
use Rattle.synth_duplicates.specs.Held.{SameAs}
use Rattle.synth_duplicates.specs.HeldLaws.{made-any}
use Rattle.synth_duplicates.proofs.is_made.Goals as goal

pub returns : goal.returns
returns c =
    let a = c.args in
    made-any a.t.now a.site a.origin a.made.now c.any.result
    (cases_from_any _ _ _ (λ (x : Making). SameAs a.t.now a.site a.origin x true) (λ (x : Making). SameAs a.t.now a.site a.origin x false) c.any.ensures.ran
    (YieldsList-from_slice (items_of a.made.now) cc) (λ x q k. search rules) (λ x q k. search rules))
