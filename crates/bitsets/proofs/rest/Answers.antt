use Rattle.bitsets.specs.BitLaws.{rest-is}
use Rattle.bitsets.proofs.rest.Goals as goal

pub returns : goal.returns
returns c = rest-is c.args.set c.requires
