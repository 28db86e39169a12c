use Rattle.std.proofs.Common.{length}
use Rattle.synth_inheritance.specs.OwnLaws.{joins-parent-by}
use Rattle.synth_inheritance.proofs.inherit_parent.Goals as goal

pub returns : goal.returns
returns c =
    let s = c in
    joins-parent-by s.args.h.now c.inherit_owns.new.h c.dedup_inherited_annotations.new.h s.args.own.now (length s.args.own.now) s.args.p.now s.args.parent c.inherit_owns.ensures c.dedup_inherited_annotations.ensures
