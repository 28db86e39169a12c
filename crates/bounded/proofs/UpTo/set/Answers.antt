use Rattle.std.proofs.Common.{refl}
use Rattle.std.proofs.Math.Seq.{take-set-lt}
use Rattle.bounded.proofs.UpTo.set.Goals as goal

pub returns : goal.returns
returns g c = let l = c.args.self.now in (take-set-lt l.count l.items c.args.i c.args.item c.requires, refl)
