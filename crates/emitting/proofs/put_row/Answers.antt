use borrow.Author.Tests.{lt-ltb, le-ltb}
use Rattle.emitting.proofs.put_row.Goals as goal

pub returns-then-n-limit : goal.returns-then-n-limit
returns-then-n-limit c = rw (lt-ltb _ _ c.if-n-limit.true, c.write_row.ensures)

pub returns : goal.returns
returns c = rw (le-ltb _ _ c.if-n-limit.false)
