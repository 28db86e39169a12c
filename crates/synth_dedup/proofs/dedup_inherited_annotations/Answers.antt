use Rattle.std.proofs.Common.{◌≡◌, length, arith, rules}
use Rattle.synth_dedup.specs.JoinLaws.{joins-all-good, joins-all-by}
use Rattle.synth_dedup.proofs.dedup_inherited_annotations.Goals as goal

pub invariant_of-h : goal.invariant_of-h
invariant_of-h c =
    let a = c.args in
    let e = c.joined_entries.ensures in
    let long : length c.joined_entries.new.l.items ≡ 201 = search rules in
    record { good = joins-all-good a.h.now a.p.now _ _ a.parent e.0 e.1 c.united-h.ensures (omega (arith, long, e.0.room)) }

pub returns : goal.returns
returns c =
    let a = c.args in
    let e = c.joined_entries.ensures in
    joins-all-by a.h.now a.p.now _ _ a.parent e.0 e.1 c.united-h.ensures _
