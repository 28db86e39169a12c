use Rattle.std.proofs.Common.{◌≡◌, ◌≤◌, List, [], ◌∷◌, ◌++◌, ap, sym, ◌∙◌, append-nil, get_or, length, arith}
use Rattle.bounded.specs.Items.{items_of}
use Rattle.rows.specs.Rows.{common, none}
use Rattle.synth_dedup.specs.declared.Entry.{Entry}
use Rattle.synth_dedup.specs.Entries.{unless_empty, merge, entries_of, Sound}
use Rattle.synth_dedup.specs.EntryLaws.{sound-diff, apart-at, merge-length, zeros}
use Rattle.synth_dedup.specs.MergeLaws.{begins-room, passed, rest-left, both-left, last}
use Rattle.synth_dedup.proofs.merged.Goals as goal
use Rattle.synth_dedup.proofs.merged.Goals.{Start, In-loop-a, After-is_none, then-is_none, else-is_none}

-- how many the result has
most : (c : Start) → length (merge (entries_of c.args.l.now) c.args.newcomer) ≤ 200
most c = merge-length _ _ c.requires.apart c.requires.count_bound.1

-- the entry of the round
sound : (c : In-loop-a) → Sound (get_or c.as_slice-a-items.result.now c.loop-a.a-index zeros)
unfolding entries_of
sound c = apart-at _ _ zeros (rw c.as_slice-a-items.ensures c.requires.apart) c.loop-a-test.true

pub loop-a-init : goal.loop-a-init
unfolding entries_of
loop-a-init c =
    let s = c.args in
    (ap (λ (o : List Entry). o ++ merge c.as_slice-a-items.result.now s.newcomer) c.no_entries-out.ensures.0 ∙ ap (λ (k : List Entry). merge k s.newcomer) c.as_slice-a-items.ensures, c.requires.count_bound.1)

pub push_standing-requires : goal.push_standing-requires
push_standing-requires c = begins-room _ _ _ c.loop-a.invariant.0 (most (goal.at.push_standing-requires c).Start)

pub push_standing-requires-else-is_none : goal.push_standing-requires-else-is_none
push_standing-requires-else-is_none c = begins-room _ _ _ c.loop-a.invariant.0 (most (goal.at.push_standing-requires-else-is_none c).Start)

-- what is left of the entry stands there, and there is room for what it shares
pub push-requires : goal.push-requires
push-requires c =
    let i = c.loop-a in
    let r =
    begins-room _ _ _
    (rest-left _ _ _ _ _ zeros c.loop-a-test.true i.invariant.0 (sound (goal.at.push-requires c).In-loop-a) i.invariant.1 _
    (c.push_standing-else-is_none.ensures ∙ ap (λ (e : Entry). entries_of i.out ++ unless_empty e) c.difference.ensures))
    (most (goal.at.push-requires c).Start) in
    (omega arith, omega (arith, r))

-- what the test asks
tested : (c : After-is_none) → none (common (get_or c.as_slice-a-items.result.now c.loop-a.a-index zeros).words c.loop-a.n.words) ≡ c.is_none.result
tested c = ap none (sym c.in_both.ensures) ∙ sym c.is_none.ensures

pub loop-a-preserved : goal.loop-a-preserved
unfolding entries_of
loop-a-preserved c =
    let i = c.loop-a in
    let a = get_or c.as_slice-a-items.result.now i.a-index zeros in
    let sa = sound (goal.at.loop-a-preserved c).In-loop-a in
    let t = tested (goal.at.loop-a-preserved c).After-is_none in
    let h = c.loop-a-test.true in
    elim c.if-is_none.branch [
      | then-is_none w ↦
          rw (w.out-is, w.n-is) (passed _ _ _ _ i.n zeros h i.invariant.0 sa i.invariant.1 _ w.push_standing.ensures (t ∙ w.if-is_none.true), i.invariant.1)
      | else-is_none w ↦
          let o = w.push_standing-else-is_none.ensures ∙ ap (λ (e : Entry). items_of i.out ++ unless_empty e) w.difference.ensures in
          let p = w.push.ensures.0 ∙ ap (λ (e : Entry). items_of w.push_standing-else-is_none.new.l ++ (e ∷ [])) w.intersection.ensures in
          rw (w.out-is, w.n-is, w.difference-n.ensures)
          (both-left _ _ _ _ i.n zeros h i.invariant.0 sa i.invariant.1 _ _ o p (t ∙ w.if-is_none.false), sound-diff i.n a i.invariant.1 sa)
    ]

pub push_standing-requires-2 : goal.push_standing-requires-2
push_standing-requires-2 c = begins-room _ _ _ c.loop-a.invariant.0 (most (goal.at.push_standing-requires-2 c).Start)

pub returns : goal.returns
returns c =
    let i = c.loop-a in
    let e = c.push_standing-2.ensures ∙ last _ _ _ _ i.n c.loop-a-test.false i.invariant.0 in
    (e, begins-room _ [] _ (append-nil _ ∙ e) (most (goal.at.returns c).Start))
