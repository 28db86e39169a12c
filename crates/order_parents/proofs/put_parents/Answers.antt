use Rattle.std.proofs.Common.{rules}
use Rattle.order_parents.specs.PutLaws.{put-none, put-more}
use Rattle.order_parents.proofs.put_parents.Goals as goal

pub loop-a-init : goal.loop-a-init
loop-a-init c = put-none _ _ _ _

pub loop-a-preserved : goal.loop-a-preserved
loop-a-preserved c =
    let s = c.args in
    let l = c.loop-a in
    let f = c.parents_of-found in
    put-more s.x.draft.now s.x.entries.now s.own l.a s.t.now l.t _ f.result (search rules) (search rules) f.ensures l.invariant
