use mathlib.Core.Path.{refl, ap, ◌∙◌}
use native.Mathlib.Omega.{arith}
use lib.ListN.{get_or}
use lib.Seq.{take_all}
use Rattle.synth_dedup.specs.Entries.{entries_of, Apart}
use Rattle.synth_dedup.specs.EntryLaws.{apart-at, zeros}
use Rattle.synth_dedup.specs.Reading.{read, read_all, table_of, inherited_of}
use Rattle.synth_interpreting.specs.AnnotationsLaws.{all_none, all_then, all-as, all-entry}
use Rattle.synth_interpreting.specs.InheritedLaws.{read-resources, read-parents, total, total-none, total-most, total-more, total-room, read_step}
use Rattle.synth_interpreting.proofs.interpret_extra.Goals as goal
use Rattle.synth_interpreting.proofs.interpret_extra.Goals.{After-as_slice-e-items}

-- no two entries share a word
apart : (c : After-as_slice-e-items) → Apart c.as_slice-e-items.result.now
unfolding entries_of
apart c = rw c.as_slice-e-items.ensures c.args.h.now.good.kept.apart

pub loop-e-init : goal.loop-e-init
loop-e-init c = all-as _ _ _ _ _ _ _ _ _ _ (λ ns. refl) (omega (arith, total-none)) (all_none _ _ _ _)

pub with_entry-requires : goal.with_entry-requires
with_entry-requires c =
    let l = c.loop-e in
    let r = total-room c.as_slice-e-items.result.now l.e-index (apart (goal.at.with_entry-requires c).After-as_slice-e-items) c.loop-e-test.true in
    record { place = c.requires.place_bound; room = omega (arith, l.invariant.count, r, c.requires.room) }

pub loop-e-preserved : goal.loop-e-preserved
loop-e-preserved c =
    let a = c.args in
    let l = c.loop-e in
    let k = c.as_slice-e-items.result.now in
    let e = get_or k l.e-index zeros in
    let D = table_of a.h.now.doms in
    let h = c.loop-e-test.true in
    let z = apart-at k l.e-index zeros (apart (goal.at.loop-e-preserved c).After-as_slice-e-items) h in
    all-as a.t.now a.place _ _ _ _ a.p.now a.out.now _ _ (λ ns. read_step ns D k l.e-index h) (omega (arith, total-more k l.e-index h))
    (all_then a.t.now a.place _ _ _ _ a.p.now l.p _ a.out.now l.out _ l.invariant
    (all-entry a.t.now a.place (λ ns. read ns D e) _ _ _ _ _ _ (λ ns. read-resources ns D e z) (λ ns. read-parents ns D e) c.with_entry.ensures))

pub returns : goal.returns
unfolding inherited_of entries_of
returns c =
    let a = c.args in
    let l = c.loop-e in
    let h = a.h.now in
    let k = c.as_slice-e-items.result.now in
    let q = take_all l.e-index k c.loop-e-test.false in
    all-as a.t.now a.place _ _ _ 200 a.p.now a.out.now l.p l.out (λ ns. ap (read_all ns (table_of h.doms)) (q ∙ c.as_slice-e-items.ensures))
    (omega (arith, ap total q, total-most k (apart (goal.at.returns c).After-as_slice-e-items))) l.invariant
