use Rattle.sheet_within.specs.OnceLaws.{unlike-none, unlike-more}
use Rattle.sheet_within.specs.UpLaws.{each-plain}
use Rattle.fields.specs.ParseLaws.{repeat-none, repeat-next}
use Rattle.definitions.specs.Reading.{annotation}
use Rattle.definitions.specs.Bits.{bits_of}
use lib.ListN.{drop}
use mathlib.Core.Path.{refl, ◌∙◌}
use mathlib.Core.List.{[], ◌∷◌, ◌++◌}
use native.Mathlib.Omega.{arith}
use native.Mathlib.Nat.{sub-zero}
use Rattle.sheet_within.proofs.is_plain_once.Goals as goal

pub loop-i-init : goal.loop-i-init
loop-i-init c = ([], rw (sub-zero c.args.n) refl, unlike-none _ refl)

pub loop-i-preserved : goal.loop-i-preserved
loop-i-preserved c =
    let l = c.loop-i in
    let a = c.args in
    let bs = bits_of a.s.bytes.now in
    let r = c.in-Some.once in
    let u = (rw c.in-Some.is at c.associate_once.ensures).associate in (
      l.invariant.0 ++ (u.x ∷ []),
      l.invariant.1 ∙ repeat-next l.invariant.0 (annotation a.s.words a.single) a.n l.i (drop l.p bs) u.x (drop r.at bs) (omega arith) u.read,
      unlike-more a.s.words a.single bs l.p l.i r l.invariant.0 l.sets u (omega arith) l.invariant.2 (c.has_set.ensures.none c.if-has_set.false),
    )

pub returns : goal.returns
returns c =
    let l = c.loop-i in
    let a = c.args in
    let bs = bits_of a.s.bytes.now in
    each-plain a.s.words a.single bs a.at a.n l.invariant.0 (drop l.p bs)
    (l.invariant.1 ∙ repeat-none l.invariant.0 (annotation a.s.words a.single) _ (drop l.p bs) (omega arith)) l.invariant.2.plain
