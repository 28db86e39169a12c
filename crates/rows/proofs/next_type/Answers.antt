use Rattle.std.proofs.Common.{◌≡◌, ◌+◌, ◌/◌, ◌^◌, arith, rules, ltb-true, ltb-false}
use Rattle.std.proofs.Math.Dec.{ltb}
use Rattle.std.specs.Int.Count.{count_trailing_zeros}
use lib.Count.{trailing_le}
use Rattle.lists.specs.Tests.{by}
use Rattle.rows.specs.NextLaws.{next-zeros, next-none, next-end}
use Rattle.rows.proofs.next_type.Goals as goal

pub returns-then-from-eq64 : goal.returns-then-from-eq64
returns-then-from-eq64 c =
    let e : c.args.from ≡ 64 = search rules in
    rw e (next-end c.args.types)

pub overflow_cast-zeros : goal.overflow_cast-zeros
overflow_cast-zeros c = omega (arith, trailing_le 64 (c.args.types / 2 ^ c.args.from))

pub overflow_add-k : goal.overflow_add-k
overflow_add-k c = omega (arith, trailing_le 64 (c.args.types / 2 ^ c.args.from))

pub returns : goal.returns
returns c =
    let a = c.args in
    let k = a.from + count_trailing_zeros 64 (a.types / 2 ^ a.from) in
    rw c.then_some.ensures
    (by (ltb k 64)
    (λ e. let l = ltb-true k 64 e in rw e (next-zeros a.types a.from (omega arith), l))
    (λ e. rw e (next-none a.types a.from (omega arith) (ltb-false k 64 e))))
