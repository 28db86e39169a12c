use mathlib.Core.List.{List}
use mathlib.Core.Path.{ap, ◌∙◌}
use Prim.Native.Nat.{ℕ, ◌+◌, ◌*◌, ◌-◌}
use Rattle.definitions.specs.Bits.{to_bits}
use Rattle.bits.specs.Writing.{put}
use Rattle.bits.specs.WriteLaws.{put_on}
use native.Mathlib.Omega.{arith}
use Rattle.bits.proofs.put_rest.Goals as goal

pub returns : goal.returns
returns c =
    let a = c.args in
    c.put_start-3.ensures
    ∙ ap (λ (b : List ℕ). put b (8 * (a.i + 1)) (to_bits (a.k - 8) a.v)) c.put_start-2.ensures
    ∙ put_on a.buf.now (8 * a.i) a.k 8 (a.i + 1) a.v (omega arith) (omega arith)
