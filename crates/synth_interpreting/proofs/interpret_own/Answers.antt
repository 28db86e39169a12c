use borrow.Author.Rules.{rules}
use mathlib.Core.Path.{◌≡◌, subst}
use native.Mathlib.Omega.{arith}
use Rattle.std.proofs.Common.{⊎_elim}
use Rattle.lists.specs.Tests.{never}
use Rattle.sheet_records.specs.declared.Kind.TheVariants.{Associate, NestAssociate}
use Rattle.synth_inheritance.specs.Kinds.{handed_on-which}
use Rattle.synth_inheritance.specs.Own.{DomsWith}
use Rattle.synth_interpreting.specs.Annotations.{as_own}
use Rattle.synth_interpreting.specs.AnnotationsLaws.{all_none, all-as, all-entry}
use Rattle.synth_interpreting.specs.OwnLaws.{own-resources, own-size, plain-one, plain-none, names-none}
use Rattle.synth_interpreting.proofs.interpret_own.Goals as goal
use Rattle.synth_interpreting.proofs.interpret_own.Goals.{After-ne}

-- it is the one or the other
nested : (c : After-ne) → c.ne.result ≡ mathlib.Core.Bool.true → c.args.a.info.kind ≡ NestAssociate
nested c t =
    let a = c.args.a in
    ⊎_elim
    (λ (e : a.info.kind ≡ Associate). never t (rw e at c.ne.ensures))
    (λ (e : a.info.kind ≡ NestAssociate). e)
    (handed_on-which a.info.kind a.associate)

plain : (c : After-ne) → c.ne.result ≡ mathlib.Core.Bool.false → c.args.a.info.kind ≡ Associate
plain c t = search rules

pub returns-then-ne : goal.returns-then-ne
returns-then-ne c =
    let a = c.args in
    let s = a.p.now in
    all-as a.t.now a.place _ _ 0 15 s a.out.now s a.out.now (λ ns. plain-none a.a (nested (goal.at.returns-then-ne c).After-ne c.if-ne.true)) (omega arith) (all_none a.t.now a.place s a.out.now)

pub with_entry-requires : goal.with_entry-requires
with_entry-requires c =
    let a = c.args in
    let w = c.words_of-words in
    let E = c.doms_with-doms in
    let d = subst (λ D. DomsWith D a.a.info E.result) c.no_doms-none.ensures E.ensures in
    record { place = c.requires.place_bound; room = omega (arith, c.requires.room, own-size a.a w.result E.result w.ensures d) }

pub returns : goal.returns
returns c =
    let a = c.args in
    let s = a.p.now in
    let w = c.words_of-words in
    let k = plain (goal.at.returns c).After-ne c.if-ne.false in
    let E = c.doms_with-doms in
    let d = subst (λ D. DomsWith D a.a.info E.result) c.no_doms-none.ensures E.ensures in
    all-as a.t.now a.place _ _ _ 15 s a.out.now _ _ (λ ns. plain-one a.a k) (own-size a.a w.result E.result w.ensures d)
    (all-entry a.t.now a.place (λ ns. as_own a.a) _ _ s a.out.now _ _ (λ ns. own-resources a.a w.result E.result w.ensures d k) names-none c.with_entry.ensures)
