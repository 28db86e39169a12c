use native.Mathlib.Omega.{arith}
use Rattle.item_heads.specs.HeadLaws.{mark-room, derive-room}
use Rattle.item_heads.proofs.with_mark.Goals as goal

pub overflow_mul-result : goal.overflow_mul-result
overflow_mul-result c = omega (arith, mark-room c.args.p c.if-p-eq7.false)

pub overflow_add-result : goal.overflow_add-result
overflow_add-result c = omega (arith, mark-room c.args.p c.if-p-eq7.false)

pub overflow_add-result-then-derive-eq1 : goal.overflow_add-result-then-derive-eq1
overflow_add-result-then-derive-eq1 c = omega (arith, mark-room c.args.p c.if-p-eq7.false)

pub invariant_of-result : goal.invariant_of-result
invariant_of-result c =
    record { few = omega (arith, c.if-p-eq7.false, c.args.p.few); narrow = omega (arith, c.args.p.narrow); less = omega (arith, derive-room c.args.p) }
