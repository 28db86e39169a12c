use Rattle.std.proofs.Common.{rules, [], ◌≡◌, ◌<◌, length, get_or, arith}
use borrow.Author.Rules.{Below-row}
use Rattle.lists.specs.Tabulating.{length-mapped}
use Rattle.order_table.proofs.put_parent.Goals as goal

pub returns-clause-room : goal.returns-clause-room
returns-clause-room c =
    let long : length c.args.l.now.parents ≡ 64 = search (rules, length-mapped) in
    let row : c.args.i < length (get_or c.args.l.now.parents c.args.t []) = search (rules, length-mapped, Below-row) in
    (omega (arith, long), row)
