use Rattle.std.specs.Prelude.{refl}
use Rattle.std.proofs.Common.{rules}
use Rattle.order_compact.specs.ReadingLaws.{stands_alike, stands_reads}
use Rattle.order_compact.proofs.fill.Goals as goal

pub returns : goal.returns
returns c = stands_reads _ _ _ _ _ _ _ (stands_alike _ _ _ _ _ _ c.loop-a.l _ refl refl refl refl c.loop-a.invariant) (search rules) (search rules) c.requires
