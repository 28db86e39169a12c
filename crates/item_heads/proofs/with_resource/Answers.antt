use Rattle.item_heads.specs.HeadLaws.{resource-joins, resource-not}
use Rattle.item_heads.proofs.with_resource.Goals as goal

pub returns-then-variant-eq1 : goal.returns-then-variant-eq1
returns-then-variant-eq1 c = rw c.with_one.ensures (resource-joins c.args.set c.args.a c.args.variant c.if-variant-eq1.true)

pub returns : goal.returns
returns c = let s = c in resource-not s.args.set s.args.a s.args.variant c.if-variant-eq1.false
