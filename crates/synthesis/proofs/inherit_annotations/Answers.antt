use Rattle.synthesis.specs.PlayLaws.{turn_below, turn-fits, plays}
use Rattle.synthesis.proofs.inherit_annotations.Goals as goal

pub flags_of-flags-requires : goal.flags_of-flags-requires
flags_of-flags-requires c = let u = c.requires in (u.low, turn_below _ _ _ _ _ _ u)

pub own_associates-own-requires-clause-own_fit : goal.own_associates-own-requires-clause-own_fit
own_associates-own-requires-clause-own_fit c = turn-fits _ _ _ _ _ _ c.requires

pub returns : goal.returns
returns c =
    let v = c.args.v in
    plays _ _ _ _ _ _ c.requires _ _ _ c.receive-got.ensures _ c.own_associates-own.ensures v.fresh v.ok _ _ _ _
    c.flags_of-flags.ensures c.interpret_inherited_annotations-clean.ensures c.with_ok.ensures
