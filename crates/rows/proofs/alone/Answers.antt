use Rattle.std.proofs.Common.{◌≡◌, ℕ, ◌*◌, ◌/◌, ◌%◌, ◌^◌, ap, arith}
use Rattle.rows.specs.Rows.{lone, single}
use Rattle.rows.specs.RowLaws.{one_shifted}
use Rattle.rows.proofs.alone.Goals as goal

-- w in the part i
part : (w i : ℕ) → w / 64 ≡ i → lone i (1 * 2 ^ (w % 64) % 18446744073709551616) ≡ single w
unfolding single
part w i e = rw e (ap (lone i) (one_shifted (w % 64) (omega arith)))

pub returns-in-0 : goal.returns-in-0
returns-in-0 c = rw c.empty_row-none.ensures (part c.args.w 0 (omega arith))

pub returns-in-1 : goal.returns-in-1
returns-in-1 c = rw c.empty_row-none.ensures (part c.args.w 1 (omega arith))

pub returns-in-2 : goal.returns-in-2
returns-in-2 c = rw c.empty_row-none.ensures (part c.args.w 2 (omega arith))

pub returns-in_default : goal.returns-in_default
returns-in_default c = rw c.empty_row-none.ensures (part c.args.w 3 (omega arith))
