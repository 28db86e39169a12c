use mathlib.Core.Path.{subst}
use Prim.Native.Nat.{ℕ, ◌<◌, ◌^◌}
use native.Mathlib.Omega.{arith}
use Rattle.schedule_records.specs.TurningLaws.{laid-up, laid-packed, laid-down}
use Rattle.schedule_records.proofs.lay.Goals as goal

pub returns-then-not-down : goal.returns-then-not-down
returns-then-not-down c =
    let a = c.args in
    laid-up a.down a.target.now a.at a.f.width a.f.value (c.if-not-down.true)

pub put_bits-requires : goal.put_bits-requires
put_bits-requires c =
    let r = c.requires in
    (r.room.fits (c.if-not-down.false), r.room.small)

pub returns-then-packed : goal.returns-then-packed
returns-then-packed c =
    let a = c.args in
    laid-packed a.down a.target.now _ a.at a.f.width a.f.value (c.if-not-down.false) c.put_bits.ensures

pub overflow_cast-f : goal.overflow_cast-f
overflow_cast-f c =
    let f = c.args.f in
    record { fits = subst (λ (n : ℕ). f.value < 2 ^ n) (c.requires.aligned.wide c.if-packed.false) f.most }

pub put_record-requires : goal.put_record-requires
put_record-requires c =
    let r = c.requires in
    omega (arith, r.room.fits (c.if-not-down.false), r.aligned.wide c.if-packed.false, r.aligned.even c.if-packed.false)

pub returns : goal.returns
returns c =
    let a = c.args in
    let r = c.requires in
    laid-down a.down a.packed a.target.now a.at a.f.width a.f.value r.aligned c.if-packed.false _ (c.if-not-down.false) c.put_record.ensures
