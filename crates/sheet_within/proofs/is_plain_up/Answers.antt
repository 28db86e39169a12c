use Rattle.sheet_within.specs.UpLaws.{apart_none, apart_more, each-plain}
use Rattle.fields.specs.ParseLaws.{repeat-none, repeat-next}
use Rattle.definitions.specs.Reading.{annotation}
use Rattle.definitions.specs.Bits.{bits_of}
use lib.ListN.{drop}
use mathlib.Core.Path.{refl, ◌∙◌}
use mathlib.Core.List.{[], ◌∷◌, ◌++◌}
use native.Mathlib.Omega.{arith}
use native.Mathlib.Nat.{sub-zero}
use Rattle.sheet_within.proofs.is_plain_up.Goals as goal

pub loop-init : goal.loop-init
loop-init c = ([], rw (sub-zero c.args.n) refl, apart_none)

pub loop-preserved : goal.loop-preserved
loop-preserved c =
    let l = c.loop in
    let a = c.args in
    let bs = bits_of a.s.bytes.now in
    let r = c.in-Some.up in
    let u = (rw c.in-Some.is at c.associate_up.ensures).associate in (
      l.invariant.0 ++ (u.x ∷ []),
      l.invariant.1 ∙ repeat-next l.invariant.0 (annotation a.s.words a.single) a.n l.counter (drop l.p bs) u.x (drop r.at bs) (omega arith) u.read,
      apart_more a.s.words a.single bs l.p l.top r l.invariant.0 u l.invariant.2,
    )

pub returns : goal.returns
returns c =
    let l = c.loop in
    let a = c.args in
    let bs = bits_of a.s.bytes.now in
    each-plain a.s.words a.single bs a.at a.n l.invariant.0 (drop l.p bs)
    (l.invariant.1 ∙ repeat-none l.invariant.0 (annotation a.s.words a.single) _ (drop l.p bs) (omega arith)) l.invariant.2.plain
