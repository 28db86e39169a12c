use mathlib.Core.Path.{sym, ◌∙◌}
use native.Mathlib.Omega.{arith}
use Rattle.synth_dedup.specs.JoinLaws.{joins-by, join-none, join-merged}
use Rattle.synth_dedup.proofs.dedup_inherited_annotations_one.Goals as goal

-- src/lib.rt:203:9
pub returns-then-l-eq0 : goal.returns-then-l-eq0
returns-then-l-eq0 c =
    let s = c in
    let e = c.alone.ensures in
    joins-by s.args.l.now c.alone.result s.args.newcomer s.requires.kept s.requires.sound (e.0 ∙ sym (join-none s.args.l.now s.args.newcomer c.if-l-eq0.true)) (omega (arith, e.1))

-- src/lib.rt:197:1
pub returns : goal.returns
returns c =
    let s = c in
    let e = c.merged.ensures in
    joins-by s.args.l.now c.merged.result s.args.newcomer s.requires.kept s.requires.sound
    (e.0 ∙ sym (join-merged s.args.l.now s.args.newcomer c.if-l-eq0.false)) e.1
