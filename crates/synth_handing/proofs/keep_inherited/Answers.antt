use Rattle.std.specs.Prelude.{◌<◌, length}
use native.Mathlib.Omega.{arith}
use Rattle.synth_handing.specs.Keeping.{keeps-by}
use Rattle.synth_store.specs.StoreLaws.{stores-by}
use Rattle.synth_handing.proofs.keep_inherited.Goals as goal

pub returns : goal.returns
returns c =
    let r = c.requires.ready in
    let low : c.args.t < length c.args.store.now = omega (arith, r.low, r.held.reads.most) in
    keeps-by _ _ _ _ _ _ _ r.low c.gather-all.ensures (stores-by _ _ _ _ low c.of.ensures)
