use mathlib.Core.Path.{◌≡◌, sym, ap, ◌∙◌}
use mathlib.Core.List.{List, map}
use Prim.Native.Nat.{◌+◌}
use native.Mathlib.Omega.{arith}
use lib.ListN.{drop, get_or, set}
use Rattle.bounded.specs.Items.{items_of}
use Rattle.synth_dedup.specs.declared.Entry.{Entry}
use Rattle.synth_dedup.specs.Entries.{Entries, entries_of, join_all, Sound}
use Rattle.synth_dedup.specs.EntryLaws.{zeros}
use Rattle.synth_dedup.specs.Reading.{under_place, Joins}
use Rattle.synth_dedup.specs.JoinLaws.{sound-at, all-step, all_done, joins-shared}
use Rattle.synth_dedup.proofs.joined_entries.Goals as goal
use Rattle.synth_dedup.proofs.joined_entries.Goals.{In-loop-e, in-Some, in-None}

-- the entry of the round, under the parent
sound : (c : In-loop-e) → Sound (under_place c.args.parent (get_or c.as_slice-e-items.result.now c.loop-e.e-index zeros))
unfolding entries_of
sound c = sound-at _ _ c.args.parent zeros (rw c.as_slice-e-items.ensures c.requires.kept_2.apart) c.loop-e-test.true

-- the entry joins, and the rest follows
next : (c : In-loop-e) (r : Entries) →
    let i = c.loop-e in
    let k = c.as_slice-e-items.result.now in
    Joins i.l (under_place c.args.parent (get_or k i.e-index zeros)) r
    → join_all (entries_of r) (map (under_place c.args.parent) (drop (i.e-index + 1) k)) ≡ join_all (entries_of c.args.l.now) (map (under_place c.args.parent) (entries_of c.args.p.now))
next c r e =
    let i = c.loop-e in
    let k = c.as_slice-e-items.result.now in
    ap (λ z. join_all z (map (under_place c.args.parent) (drop (i.e-index + 1) k))) e.joins
    ∙ sym (all-step k i.e-index c.args.parent zeros (entries_of i.l) c.loop-e-test.true)
    ∙ i.invariant.1

pub loop-e-init : goal.loop-e-init
unfolding entries_of
loop-e-init c = (c.requires.kept, ap (λ (k : List Entry). join_all (entries_of c.args.l.now) (map (under_place c.args.parent) k)) c.as_slice-e-items.ensures)

pub dedup_inherited_annotations_one-requires-clause-sound : goal.dedup_inherited_annotations_one-requires-clause-sound
dedup_inherited_annotations_one-requires-clause-sound c = sound (goal.at.dedup_inherited_annotations_one-requires-clause-sound c).In-loop-e

pub loop-e-preserved : goal.loop-e-preserved
loop-e-preserved c =
    let i = c.loop-e in
    let s = sound (goal.at.loop-e-preserved c).In-loop-e in
    elim c.match-place_of.branch [
      | in-Some w ↦
          let j = joins-shared i.l c.match-place_of.l _ w.in-Some.at i.invariant.0 s w.in-Some.ensures
          (ap (λ (z : Entries). items_of z) w.l-is ∙ w.set.ensures.0 ∙ ap (λ (e : Entry). set (items_of i.l) w.in-Some.at e) w.intersection-both.ensures)
          (ap (λ (z : Entries). z.count) w.l-is ∙ w.set.ensures.1) in
          (j.kept, next (goal.at.loop-e-preserved c).In-loop-e c.match-place_of.l j)
      | in-None w ↦
          let j = w.dedup_inherited_annotations_one.ensures in
          rw w.l-is (j.kept, next (goal.at.loop-e-preserved c).In-loop-e _ j)
    ]

pub returns : goal.returns
returns c =
    let i = c.loop-e in
    (i.invariant.0, sym (all_done c.as_slice-e-items.result.now i.e-index c.args.parent (entries_of i.l) (omega arith)) ∙ i.invariant.1)
