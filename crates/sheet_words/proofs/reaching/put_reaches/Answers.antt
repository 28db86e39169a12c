use native.Mathlib.Omega.{arith}
use mathlib.Core.Bool.{true, false}
use mathlib.Core.Path.{◌≡◌, refl, sym, ap, ◌∙◌}
use Prim.Native.Nat.{◌+◌, ◌-◌, ◌*◌, ◌<◌}
use lib.ListN.{length, drop, length-set}
use Rattle.std.proofs.Math.Seq
use Rattle.std.proofs.Math.Dec.{eqb}
use borrow.Author.Tests.{eqb-true, eqb-false}
use Rattle.lists.specs.Tests.{by}
use Rattle.definitions.specs.Reading.{word}
use Rattle.sheet_words.specs.Words.{bits_in}
use Rattle.sheet_words.specs.ReachingLaws.{repeat-first, repeat-not, drop-next, reach-is}
use Rattle.sheet_words.proofs.reaching.put_reaches.Goals as goal

pub returns-in_default-clause-each : goal.returns-in_default-clause-each
returns-in_default-clause-each c ws rest e w h =
    let a = c.args in
    let l = c.loop-a in
    let r = l.invariant.2 ws rest e in
    repeat-not word (a.n - l.a) (drop l.at (bits_in a.s)) _ (drop l.a ws) rest (omega arith) (sym c.in_default.ensures) r.0

pub loop-a-preserved : goal.loop-a-preserved
loop-a-preserved c =
    let a = c.args in
    let l = c.loop-a in
    let long : l.a < length l.reach.last = omega (arith, l.invariant.0) in
    let n = c.reach_of.result in (
      length-set l.reach.last l.a n ∙ l.invariant.0,
      l.invariant.1,
      λ ws rest e.
          let r = l.invariant.2 ws rest e in
          let f = repeat-first word (a.n - l.a) (drop l.at (bits_in a.s)) _ _ (drop l.a ws) rest (omega arith) (sym c.in-Ok.ensures) r.0 in
          let k : a.n - l.a - 1 ≡ a.n - (l.a + 1) = omega arith in
          let d = drop-next ws l.a _ f.0 f.1 in
          let p = rw k at f.2 in (
            rw d p,
            λ w h.
                by (eqb w l.a)
                (λ q. let z : w ≡ l.a = eqb-true w l.a q in
                rw z (Seq.get_or-set_same l.reach.last l.a n 0 long ∙ c.reach_of.ensures.reached f.0 rest p ∙ sym (reach-is ws l.a _ f.0 f.1)))
                (λ q. let z = eqb-false w l.a q in Seq.get_or-set_other l.reach.last l.a w n 0 z ∙ r.1 w (omega arith)),
          ),
    )

pub returns-clause-each : goal.returns-clause-each
returns-clause-each c ws rest e w h =
    let l = c.loop-a in
    (l.invariant.2 ws rest e).1 w (omega arith)
