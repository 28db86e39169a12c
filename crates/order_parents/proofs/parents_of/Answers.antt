use Rattle.std.proofs.Common.{arith}
use Rattle.order_parents.specs.PutLaws.{parents-none, parents-more, parents-all}
use Rattle.order_parents.proofs.parents_of.Goals as goal

pub loop-k-init : goal.loop-k-init
loop-k-init c = parents-none _ _ _ _

pub loop-k-preserved : goal.loop-k-preserved
loop-k-preserved c =
    let s = c.args in
    let l = c.loop-k in
    parents-more s.t.now s.d.now s.row s.own l.k l.set _ l.whole _ _ c.parent-key.ensures c.type_of-named.ensures c.is_known-whole.ensures l.invariant

pub returns : goal.returns
returns c =
    let s = c.args in
    let l = c.loop-k in
    parents-all s.t.now s.d.now s.row s.own l.k _ (omega (arith, c.parent_count-k-end.ensures.0)) l.invariant
