use mathlib.Core.Path.{◌≡◌, ◌∙◌, sym}
use mathlib.Core.List.{[], ◌∷◌}
use Prim.Native.Nat.{◌<◌}
use native.Mathlib.Omega.{arith}
use borrow.Author.Rules.{rules}
use lib.ListN.{length, get_or, take, length-append}
use lib.Seq.{get_or-take, length-take-le}
use Rattle.std.proofs.lemmas.Slice.Zip.{zip_turn, zip_end}
use Rattle.lists.specs.Tabulating.{length-mapped}
use Rattle.rows.specs.Rows.{empty}
use Rattle.synth_annotations.specs.Reading.{resources_in}
use Rattle.synth_annotations.specs.Laws.{unites-none, unites-yes, unites-no, unites-all}
use Rattle.synth_annotations.proofs.united.Goals as goal
use Rattle.synth_annotations.proofs.united.Goals.{In-Some}

pub loop-v-init : goal.loop-v-init
loop-v-init c = unites-none c.args.d c.args.w c.args.y.words c.args.y.doms

-- the resource of the round
turn : (c : In-Some) → let n = length c.loop-v.yielded in
    (n < length c.args.y.words) × (n < length c.args.y.doms) × (c.in-Some.v.now ≡ get_or c.args.y.words n 0) × (c.in-Some.e.now ≡ get_or c.args.y.doms n empty)
turn c =
    let i = c.loop-v in
    let y = c.args.y in
    let n = length i.yielded in
    let t = zip_turn (take y.count y.words) y.doms i.yielded c.into_iter-v-iterator.result i.v-iterator c.next.new.self c.next.result (search rules) (search rules) i.yielded_by (c.in-Some.v, c.in-Some.e) c.in-Some.is c.next.ensures.steps in
    let l : length y.words ≡ 15 = search rules in
    let p : n < y.count = omega (arith, t.0, length-take-le y.count y.words (omega (arith, y.few))) in
    (omega (arith, y.few), t.1, t.2 0 ∙ get_or-take y.count y.words n 0 p, t.3 empty)

pub loop-v-preserved : goal.loop-v-preserved
loop-v-preserved c =
    let i = c.loop-v in
    let y = c.args.y in
    let t = turn (goal.at.loop-v-preserved c).In-Some in
    rw (length-append i.yielded ((c.in-Some.v, c.in-Some.e) ∷ [])) (unites-no c.args.d c.args.w y.words y.doms i.out (length i.yielded) t.0 t.1 (λ h. c.if-v-w.false (t.2 ∙ h)) i.invariant)

pub loop-v-preserved-then-v-w : goal.loop-v-preserved-then-v-w
loop-v-preserved-then-v-w c =
    let i = c.loop-v in
    let y = c.args.y in
    let t = turn (goal.at.loop-v-preserved-then-v-w c).In-Some in
    rw (length-append i.yielded ((c.in-Some.v, c.in-Some.e) ∷ []), c.in_either-out.ensures, t.3) (unites-yes c.args.d c.args.w y.words y.doms i.out (length i.yielded) t.0 t.1 (sym t.2 ∙ c.if-v-w.true) i.invariant)

pub returns : goal.returns
unfolding resources_in
returns c =
    let i = c.loop-v in
    let y = c.args.y in
    let k = take y.count y.words in
    let l : length y.words ≡ 15 = search rules in
    let m : length y.doms ≡ 15 = search length-mapped in
    let t = zip_end k y.doms i.yielded c.into_iter-v-iterator.result i.v-iterator c.next.new.self c.next.result (search rules) (search rules) i.yielded_by c.in-None.is c.next.ensures.steps in
    let e : length i.yielded ≡ y.count = omega (arith, t, y.few, length-take-le y.count y.words (omega (arith, y.few))) in
    rw e at (unites-all c.args.d c.args.w y.words y.doms i.out (length i.yielded) i.invariant)
