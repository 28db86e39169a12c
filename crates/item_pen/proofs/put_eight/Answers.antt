use mathlib.Core.Path.{◌≡◌}
use Prim.Native.Nat.{◌+◌, ◌-◌}
use native.Mathlib.Omega.{arith}
use Rattle.item_pen.specs.WideLaws.{put-be}
use Rattle.item_pen.proofs.put_eight.Goals as goal

pub returns : goal.returns
returns c =
    let a = c.args in
    let e : a.i + 8 - a.i ≡ 8 = omega arith in
    rw (e, c.copy_from_slice.ensures.after, c.to_be_bytes.ensures) (put-be a.buf.now a.i a.x c.requires)
