use Rattle.std.proofs.Common.{◌<◌, refl, arith, rules}
use Rattle.item_names.specs.NamesLaws.{keys-more}
use Rattle.item_entries.specs.EntryLaws.{key-at}
use Rattle.item_entries.proofs.put_keys.Goals as goal

pub loop-a-preserved : goal.loop-a-preserved
loop-a-preserved c =
    let l = c.loop-a in
    let h = c.requires.keys_fit in
    let k : l.a < 64 = omega (arith, h.few) in
    keys-more _ _ l.a _ l.t _ k (search rules) (key-at c.args.x.entries.now l.a k, h.small l.a c.loop-a-test.true) refl l.invariant
