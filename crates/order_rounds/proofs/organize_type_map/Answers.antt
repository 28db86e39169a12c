use Rattle.order_rounds.specs.OrganizedLaws.{none_found, any-sets, organized}
use Rattle.order_rounds.proofs.organize_type_map.Goals as goal

pub returns-then-not-whole : goal.returns-then-not-whole
returns-then-not-whole c = none_found _ _ _ _ (c.if-not-whole.true)

pub place_all-requires : goal.place_all-requires
place_all-requires c = any-sets _ _ _ (c.if-not-whole.false) c.requires

pub returns : goal.returns
returns c = organized _ _ _ _ (c.if-not-whole.false) c.requires c.place_all.ensures
