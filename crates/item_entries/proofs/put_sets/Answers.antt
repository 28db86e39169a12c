use Rattle.std.proofs.Common.{◌<◌, ap, ◌∙◌, arith}
use Rattle.fields.specs.declared.Name.{Name}
use Rattle.item_names.specs.Names.{name_marked}
use Rattle.item_names.specs.NamesLaws.{sets-none, sets_more}
use Rattle.item_entries.specs.EntryLaws.{first-at, named-at}
use Rattle.item_entries.proofs.put_sets.Goals as goal

pub loop-a-init : goal.loop-a-init
loop-a-init c = sets-none _ _ _ c.requires.no_sets

pub loop-a-preserved : goal.loop-a-preserved
loop-a-preserved c =
    let l = c.loop-a in
    let h = c.requires.keys_fit in
    let k : l.a < 64 = omega (arith, h.few) in
    let small = h.small l.a c.loop-a-test.true in
    let f = first-at c.args.x.entries.now l.a k in
    let r = c.from-name.result in
    let second = ap (λ (n : Name). n.second) c.from-name.ensures in
    let marked = c.mark_name.ensures.sets ∙ ap (name_marked l.t l.a r.first) (omega (arith, second)) in
    sets_more _ _ l.a _ l.t k (omega (arith, f, small)) c.mark_name.ensures.long l.invariant
    (named-at c.args.x.entries.now l.a k l.t r small c.from-name.ensures marked)
