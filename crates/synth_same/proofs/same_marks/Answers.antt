use mathlib.Core.Bool.{false}
use mathlib.Core.Path.{◌≡◌, refl}
use lib.ListN.{get_or}
use native.Mathlib.Omega.{arith}
use Rattle.std.proofs.Common.{rules, tests}
use Rattle.std.proofs.lemmas.Iterator.{cases_from_all, YieldsList-from_range}
use Rattle.synth_same.specs.Same.{bits_in}
use Rattle.synth_same.specs.SameLaws.{marks-all}
use Rattle.synth_same.proofs.same_marks.Goals as goal

pub returns : goal.returns
returns c =
    let a = c.args in
    let d = bits_in a.t.now a.d a.site.word in
    let e = bits_in a.t.now a.e a.site.word in
    marks-all a.t.now a.site.word a.d a.e _ _ c.all.result c.marks_width-n.ensures c.marks_width.ensures c.if-n-marks_width.false
    (cases_from_all _ _ _ (λ i. get_or d i false ≡ get_or e i false) (λ i. get_or d i false ≡ get_or e i false → ⊥) c.all.ensures.ran
    (YieldsList-from_range 0 _ _ refl (omega arith)) (λ x q k. search (rules, tests)) (λ x q k. search (rules, tests)))
