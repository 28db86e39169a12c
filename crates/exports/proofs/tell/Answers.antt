use native.Mathlib.Omega.{arith}
use lib.ListN.{length-set}
use mathlib.Core.List.{[], ◌∷◌}
use mathlib.Core.Path.{refl, ap, ◌∙◌}
use Prim.Native.Nat.{ℕ}
use Rattle.definitions.specs.Answer.{overwrite}
use Rattle.exports.specs.ExportLaws.{from-bool, three}
use Rattle.exports.proofs.tell.Goals as goal

pub bounds-parts-1 : goal.bounds-parts-1
bounds-parts-1 c = omega (arith, length-set c.args.parts.now 0 c.args.p.size, c.requires.lent)

pub returns : goal.returns
returns c =
    let p = c.args.p in
    let parts = c.args.parts.now in
    (refl, three parts p.size p.rows _ c.requires.lent ∙ ap (λ (n : ℕ). overwrite (p.size ∷ p.rows ∷ n ∷ []) parts) (c.from.ensures ∙ from-bool p.more))
