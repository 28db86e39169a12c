use native.Mathlib.Omega.{arith}
use mathlib.Core.Bool.{not}
use mathlib.Core.List.{[]}
use mathlib.Core.Path.{◌≡◌, refl, sym, ap, ◌∙◌}
use Prim.Native.Nat.{◌+◌, ◌-◌, ◌*◌}
use lib.ListN.{drop}
use Rattle.lists.specs.Lists.{place_of}
use Rattle.definitions.specs.Reading.{word}
use Rattle.law_orders.specs.Reach.{goes_on}
use Rattle.sheet_words.specs.Words.{bits_in, bytes_of}
use Rattle.sheet_words.specs.ReachingLaws.{repeat-first, repeat-not, repeat-end, place-on, place-off}
use Rattle.sheet_words.proofs.reaching.reach_of.Goals as goal

pub returns-in_default-clause-reached : goal.returns-in_default-clause-reached
returns-in_default-clause-reached c ws rest e =
    let a = c.args in
    let l = c.loop-i in
    let r = l.invariant ws rest e in
    repeat-not word (a.n - l.i) (drop l.at (bits_in a.s)) _ r.0 rest (omega arith) (sym c.in_default.ensures) r.1

pub returns-then-not-is_going_on-clause-reached : goal.returns-then-not-is_going_on-clause-reached
returns-then-not-is_going_on-clause-reached c ws rest e =
    let a = c.args in
    let l = c.loop-i in
    let r = l.invariant ws rest e in
    let f = repeat-first word (a.n - l.i) (drop l.at (bits_in a.s)) _ _ r.0 rest (omega arith) (sym c.in-Ok.ensures) r.1 in
    let p : place_of (λ v. not (goes_on (bytes_of a.w) v)) r.0 ≡ 0 =
    ap (place_of (λ v. not (goes_on (bytes_of a.w) v))) f.1
    ∙ place-off (bytes_of a.w) (bytes_of c.in-Ok.v) f.0 (sym c.is_going_on.ensures ∙ c.if-not-is_going_on.true) in
    omega (arith, r.2, p)

pub loop-i-preserved : goal.loop-i-preserved
loop-i-preserved c ws rest e =
    let a = c.args in
    let l = c.loop-i in
    let r = l.invariant ws rest e in
    let f = repeat-first word (a.n - l.i) (drop l.at (bits_in a.s)) _ _ r.0 rest (omega arith) (sym c.in-Ok.ensures) r.1 in
    let p : place_of (λ v. not (goes_on (bytes_of a.w) v)) r.0 ≡ 1 + place_of (λ v. not (goes_on (bytes_of a.w) v)) f.0 =
    ap (place_of (λ v. not (goes_on (bytes_of a.w) v))) f.1
    ∙ place-on (bytes_of a.w) (bytes_of c.in-Ok.v) f.0 (sym c.is_going_on.ensures ∙ c.if-not-is_going_on.false)
    ∙ omega arith in
    let k : a.n - l.i - 1 ≡ a.n - (l.i + 1) = omega arith in
    (f.0, rw k at f.2, omega (arith, r.2, p))

pub returns-clause-reached : goal.returns-clause-reached
returns-clause-reached c ws rest e =
    let a = c.args in
    let l = c.loop-i in
    let r = l.invariant ws rest e in
    let z : l.i ≡ a.n = omega arith in
    let q : place_of (λ v. not (goes_on (bytes_of a.w) v)) r.0 ≡ 0 =
    ap (place_of (λ v. not (goes_on (bytes_of a.w) v))) (repeat-end word (a.n - l.i) (drop l.at (bits_in a.s)) r.0 rest (omega arith) r.1) in
    omega (arith, r.2, q, z)
