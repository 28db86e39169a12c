use native.Mathlib.Omega.{arith}
use mathlib.Core.Path.{refl, sym, ◌∙◌}
use borrow.Author.Tests.{lt-ltb, le-ltb, eq-eqb, ne_eqb, ltb-true, ltb-false}
use mathlib.Core.Bool.{or-false}
use lib.Dec.{ltb}
use Rattle.lists.specs.Tests.{by, same_test}
use Rattle.sheet_words.specs.Words.{bits_in}
use Rattle.sheet_words.specs.WordLaws.{rest-step, rest-right, rest-left}
use Rattle.sheet_words.proofs.rest_before.Goals as goal

pub returns-then-x-y : goal.returns-then-x-y
returns-then-x-y c =
    let l = c.loop-i in
    let bs = bits_in c.args.a.source in
    let cs = bits_in c.args.b.source in
    let p = c.args.a in
    let q = c.args.b in
    sym
    (l.invariant.1
    ∙ rest-step bs cs p.at q.at p.count q.count l.i (omega arith) (omega arith) _ _ c.wide-x.ensures c.wide-y.ensures
    ∙ rw (ne_eqb c.wide-x.result c.wide-y.result c.if-x-y.true) (or-false (ltb c.wide-x.result c.wide-y.result)))

pub loop-i-preserved : goal.loop-i-preserved
loop-i-preserved c =
    let l = c.loop-i in
    let bs = bits_in c.args.a.source in
    let cs = bits_in c.args.b.source in
    let p = c.args.a in
    let q = c.args.b in
    (omega arith, l.invariant.1 ∙ rest-step bs cs p.at q.at p.count q.count l.i (omega arith) (omega arith) _ _ c.wide-x.ensures c.wide-y.ensures ∙ rw (le-ltb c.wide-x.result c.wide-y.result (omega arith), eq-eqb c.wide-x.result c.wide-y.result (omega arith)) refl)

pub returns-then-n-m : goal.returns-then-n-m
returns-then-n-m c =
    let l = c.loop-i in
    let p = c.args.a in
    let q = c.args.b in
    sym
    (l.invariant.1
    ∙ rest-left (bits_in p.source) (bits_in q.source) p.at q.at p.count q.count l.i (omega arith)
    ∙ same_test
    (λ h. lt-ltb 6 q.count (omega (arith, ltb-true l.i q.count h)))
    (λ h. lt-ltb l.i q.count (omega (arith, ltb-true 6 q.count h))))

pub returns-else-n-m : goal.returns-else-n-m
returns-else-n-m c =
    let l = c.loop-i in
    let p = c.args.a in
    let q = c.args.b in
    let bs = bits_in c.args.a.source in
    let cs = bits_in c.args.b.source in
    rw (le-ltb p.count q.count c.if-n-m.false)
    (sym
    (l.invariant.1
    ∙ by (ltb l.i p.count)
    (λ h. rest-right bs cs p.at q.at p.count q.count l.i (ltb-true l.i p.count h) (omega arith))
    (λ h. rest-left bs cs p.at q.at p.count q.count l.i (ltb-false l.i p.count h) ∙ le-ltb l.i q.count (omega arith))))
