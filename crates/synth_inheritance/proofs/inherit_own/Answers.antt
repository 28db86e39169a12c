use Rattle.std.proofs.Common.{◌≡◌, length, subst, arith, rules}
use Rattle.sheet_records.specs.declared.Kind.{Kind}
use Rattle.synth_dedup.specs.Reading.{Joins}
use Rattle.synth_inheritance.specs.OwnLaws.{own-is, own-sound, joins-own-good, joins-own-by}
use Rattle.synth_inheritance.proofs.inherit_own.Goals as goal

pub dedup_inherited_annotations_one-h-requires-clause-sound : goal.dedup_inherited_annotations_one-h-requires-clause-sound
dedup_inherited_annotations_one-h-requires-clause-sound c =
    let a = c.args in
    rw c.inherited_kind-kind.ensures (own-sound a.a.info c.words_of-words.result a.parent (own-is a.a) c.words_of-words.ensures)

pub invariant_of-h : goal.invariant_of-h
invariant_of-h c =
    let a = c.args in
    let w = c.words_of-words in
    let l = c.dedup_inherited_annotations_one-h in
    let long : length l.result.items ≡ 201 = search rules in
    record {
      good = joins-own-good a.h.now a.a.info a.parent w.result _ _ (own-is a.a) w.ensures
          (subst (λ (k : Kind). Joins a.h.now.list (record { kind = k; words = w.result; parents = a.parent }) l.result) c.inherited_kind-kind.ensures l.ensures)
          c.doms_with-h.ensures (omega (arith, long, l.ensures.kept.room));
    }

pub returns : goal.returns
returns c =
    let a = c.args in
    let w = c.words_of-words in
    let l = c.dedup_inherited_annotations_one-h in
    joins-own-by a.h.now a.a.info a.parent w.result _ _ (own-is a.a) w.ensures
    (subst (λ (k : Kind). Joins a.h.now.list (record { kind = k; words = w.result; parents = a.parent }) l.result) c.inherited_kind-kind.ensures l.ensures)
    c.doms_with-h.ensures _
