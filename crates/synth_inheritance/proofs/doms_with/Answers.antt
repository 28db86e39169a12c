use mathlib.Core.Path.{◌≡◌, ◌∙◌}
use mathlib.Core.List.{[], ◌∷◌, ◌++◌}
use Prim.Native.Nat.{◌<◌, ◌+◌}
use native.Mathlib.Omega.{arith}
use borrow.Author.Rules.{rules}
use lib.ListN.{length, get_or, take, length-set, length-append}
use lib.Seq.{get_or-take, length-take-le}
use Rattle.std.proofs.lemmas.Slice.Zip.{zip_turn, zip_end}
use Rattle.lists.specs.Tabulating.{length-mapped}
use Rattle.rows.specs.Rows.{empty}
use Rattle.synth_inheritance.specs.OwnLaws.{first_step}
use Rattle.synth_inheritance.proofs.doms_with.Goals as goal

pub loop-w-preserved : goal.loop-w-preserved
loop-w-preserved c =
    let i = c.loop-w in
    let s = c.args.a in
    let a = s.info in
    let k = take a.count a.words in
    let n = length i.yielded in
    let t = zip_turn k a.doms i.yielded c.into_iter-w-iterator.result i.w-iterator c.next.new.self c.next.result (search rules) (search rules) i.yielded_by (c.in-Some.w, c.in-Some.given) c.in-Some.is c.next.ensures.steps in
    let l : length a.words ≡ 15 = search rules in
    let m : length a.doms ≡ 15 = search length-mapped in
    let p : n < a.count = omega (arith, t.0, length-take-le a.count a.words (omega (arith, a.few))) in
    let v : c.from-w.result ≡ get_or a.words n 0 = c.from-w.ensures ∙ t.2 0 ∙ get_or-take a.count a.words n 0 p in
    let j : length (i.yielded ++ (c.in-Some.w, c.in-Some.given) ∷ []) ≡ n + 1 = length-append i.yielded ((c.in-Some.w, c.in-Some.given) ∷ []) in
    rw (j, c.in_either.ensures, v, t.3 empty) (
      length-set i.out (get_or a.words n 0) _ ∙ i.invariant.0,
      first_step c.args.doms.now a.words a.doms i.out a.count n i.invariant.0 p (omega (arith, a.few)) (omega (arith, a.few)) s.ascending (s.below n p) i.invariant.1,
    )

pub returns : goal.returns
returns c =
    let i = c.loop-w in
    let a = c.args.a.info in
    let k = take a.count a.words in
    let l : length a.words ≡ 15 = search rules in
    let m : length a.doms ≡ 15 = search length-mapped in
    let t = zip_end k a.doms i.yielded c.into_iter-w-iterator.result i.w-iterator c.next.new.self c.next.result (search rules) (search rules) i.yielded_by c.in-None.is c.next.ensures.steps in
    let e : length i.yielded ≡ a.count = omega (arith, t, a.few, length-take-le a.count a.words (omega (arith, a.few))) in
    record { words = omega (arith, a.few); doms = omega (arith, a.few); at = rw e at i.invariant.1 }
