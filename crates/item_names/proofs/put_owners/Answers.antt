use Rattle.std.proofs.Common.{◌<◌, refl, ap, ◌∙◌, arith, rules}
use Rattle.catalogue.specs.Layout.{key_at}
use Rattle.item_names.specs.Names.{owner_of}
use Rattle.item_names.specs.NamesLaws.{owner-turn, owners-more}
use Rattle.item_names.proofs.put_owners.Goals as goal

pub loop-a-preserved : goal.loop-a-preserved
loop-a-preserved c =
    let l = c.loop-a in
    let n : l.a < 64 = omega (arith, c.requires.few) in
    owners-more l.a c.args.t.now l.t _ n (search rules)
    (c.owner_of.ensures ∙ ap (owner_of (key_at l.t l.a)) c.type_of-owner.ensures ∙ owner-turn c.args.t.now l.t l.a l.invariant) refl l.invariant
