use mathlib.Core.Path.{◌≡◌, refl, sym, ap, ◌∙◌}
use Prim.Native.Nat.{◌<◌}
use native.Mathlib.Omega.{arith}
use borrow.Author.Rules.{rules}
use lib.ListN.{length, get_or, length-set}
use Rattle.lists.specs.Tabulating.{length-mapped}
use Rattle.synth_annotations.specs.Reading.{resources_in}
use Rattle.definitions.specs.Annotations.{shared}
use Rattle.synth_annotations.specs.Laws.{upto, upto-length, shared_kept, shared-dropped}
use Rattle.synth_annotations.proofs.shared_resources.Goals as goal
use Rattle.synth_annotations.proofs.shared_resources.Goals.{then-has_word, else-has_word, Start}

long : (s : Start) → length s.args.x.doms ≡ 15
long s = search length-mapped

pub loop-i-init : goal.loop-i-init
unfolding shared
loop-i-init c =
    let l : length c.args.x.words ≡ 15 = search rules in
    let m : length c.args.x.doms ≡ 15 = search length-mapped in
    (omega arith, l, m, refl)

pub loop-i-preserved : goal.loop-i-preserved
loop-i-preserved c =
    let s = c in
    let i = c.loop-i in
    let x = s.args.x in
    let vs = resources_in s.args.y in
    let d = c.united-e.result in
    let l : length x.words ≡ 15 = search rules in
    let m : length x.doms ≡ 15 = long (goal.at.loop-i-preserved c).Start in
    let a : i.i < length x.words = omega arith in
    let b : i.i < length x.doms = omega arith in
    let p : i.k < length i.out = omega (arith, i.invariant.1) in
    let q : i.k < length i.sets = omega (arith, i.invariant.2) in
    let e = length-set i.out i.k (get_or x.words i.i 0) ∙ i.invariant.1 in
    let f = length-set i.sets i.k d ∙ i.invariant.2 in
    elim c.if-has_word.branch [
      | then-has_word w ↦ rw w.k-is (omega arith, e, f, shared_kept x.words i.out x.doms i.sets i.k i.i a b p q vs d c.united-e.ensures (sym c.has_word.ensures ∙ w.if-has_word.true) i.invariant.3)
      | else-has_word w ↦ rw w.k-is (omega arith, e, f, shared-dropped x.words i.out x.doms i.sets i.k i.i a b p q vs d (sym c.has_word.ensures ∙ w.if-has_word.false) i.invariant.3)
    ]

pub returns : goal.returns
unfolding resources_in
returns c =
    let x = c.args.x in
    let e : c.loop-i.i ≡ x.count = omega arith in
    let q : upto c.loop-i.k c.loop-i.out c.loop-i.sets ≡ shared (upto x.count x.words x.doms) (resources_in c.args.y) = rw e at c.loop-i.invariant.3 in
    record {
      resources = q;
      kind = refl;
      tag = refl;
      count = upto-length c.loop-i.k c.loop-i.out c.loop-i.sets (omega (arith, c.loop-i.invariant.1)) (omega (arith, c.loop-i.invariant.2)) ∙ ap length q;
    }
