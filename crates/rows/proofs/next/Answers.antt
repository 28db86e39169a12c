use Rattle.std.proofs.Common.{sym, arith}
use Rattle.rows.specs.NextLaws.{passed-part, found_part}
use Rattle.rows.proofs.next.Goals as goal

pub returns-in-Some : goal.returns-in-Some
returns-in-Some c =
    let l = c.loop-i in
    found_part c.args.r c.args.from l.i l.j c.in-Some.k l.invariant.0 (omega arith) l.invariant.2 (rw (sym c.quarter.ensures) c.in-Some.ensures.0) c.in-Some.ensures.1

pub loop-i-preserved : goal.loop-i-preserved
loop-i-preserved c =
    let l = c.loop-i in
    (omega arith, omega arith, passed-part c.args.r c.args.from l.i l.j l.invariant.2 (rw (sym c.quarter.ensures) c.in_default.ensures))
