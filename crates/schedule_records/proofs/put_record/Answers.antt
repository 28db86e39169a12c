use mathlib.Core.Path.{◌≡◌}
use Prim.Native.Nat.{◌+◌, ◌-◌}
use native.Mathlib.Omega.{arith}
use Rattle.item_pen.specs.WideLaws.{put-two}
use Rattle.schedule_records.proofs.put_record.Goals as goal

pub returns : goal.returns
returns c =
    let a = c.args in
    let e : a.i + 2 - a.i ≡ 2 = omega arith in
    rw (e, c.copy_from_slice.ensures.after, c.to_be_bytes.ensures) (put-two a.target.now a.i a.v c.requires)
