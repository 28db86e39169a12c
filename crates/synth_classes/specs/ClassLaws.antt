-- Laws of the keys and the names of classes.
use Rattle.std.specs.Prelude.{Bool, false, ◌&&◌, is_some, Some, None, ◌≡◌, refl, ℕ, zero, suc, ◌+◌, ◌*◌, ◌-◌, ◌/◌, ◌%◌, ◌≤◌, ◌<◌, eqb, ltb}
use Rattle.std.proofs.Common.{sym, ap, sub-one, arith, ne_eqb, eqb-true, le-ltb, lt-ltb, ltb-true, ltb-false}
use Rattle.std.proofs.lemmas.Option.{none-some, same_Some}
use Rattle.std.proofs.lemmas.Bool.{eqb-false}
use Rattle.std.specs.Int.Count.{count_trailing_zeros}
use Rattle.lists.specs.Tests.{by}
use Rattle.definitions.specs.Comparisons.{dotted}
use Rattle.synth_annotations.specs.Reading.{dom_at}
use Rattle.fields.specs.Fields.{two_words}
use Rattle.sheet_keys.specs.Keys.{name_of_key}
use Rattle.catalogue.specs.Layout.{looked}
use Rattle.catalogue.specs.declared.Catalogue.{Catalogue}
use Rattle.synth_classes.specs.Classes.{place_if, place_of, class_key, place_in}

-- the name of a class's key
pub class-key : (w dom : ℕ) → w < 255 → name_of_key (class_key w dom) ≡ dotted (dom_at dom) w
unfolding name_of_key
class-key w zero h =
    let a : (w * 256 + 0) / 256 ≡ w = omega arith in
    let b : (w * 256 + 0) % 256 ≡ 0 = omega arith in
    rw (a, b) refl
class-key w (suc d) h =
    let a : (d * 256 + (w + 1)) / 256 ≡ d = omega arith in
    let b : (d * 256 + (w + 1)) % 256 ≡ w + 1 = omega arith in
    let c : w + 1 - 1 ≡ w = omega arith in
    rw (a, b, ne_eqb (w + 1) 0 (λ q. omega arith), c) refl

-- a name that has a word past those of the sheet has no place
pub place_first : (t : Catalogue) (a b : ℕ) → b < 256 → t.width ≤ a → 64 ≡ place_of t (a * 256 + b)
unfolding place_of
place_first t a b l h =
    let q : (a * 256 + b) / 256 ≡ a = omega arith in
    rw (q, le-ltb a t.width h)

pub place_second : (t : Catalogue) (a b : ℕ) → b < 256 → t.width < b → 64 ≡ place_of t (a * 256 + b)
unfolding place_of
place_second t a b l h =
    let q : (a * 256 + b) % 256 ≡ b = omega arith in
    rw (q, lt-ltb t.width b h, mathlib.Core.Bool.and-false (ltb ((a * 256 + b) / 256) t.width))

pub place_there : (t : Catalogue) (a b set : ℕ) → b < 256 → a < t.width → b ≤ t.width → set ≡ looked t (a * 256 + b) → count_trailing_zeros 64 set ≡ place_of t (a * 256 + b)
unfolding place_of
place_there t a b set l h g e =
    let p : (a * 256 + b) / 256 ≡ a = omega arith in
    let q : (a * 256 + b) % 256 ≡ b = omega arith in
    rw (p, q, lt-ltb a t.width h, le-ltb t.width b g) (ap (count_trailing_zeros 64) e)

-- the words of a key
pub key_words : (k : ℕ) → two_words (k / 256 % 256) ((k % 256 + 255) % 256) ≡ name_of_key (k % 65536)
unfolding name_of_key
key_words k =
    let a : k % 65536 / 256 ≡ k / 256 % 256 = omega arith in
    let b : k % 65536 % 256 ≡ k % 256 = omega arith in
    rw (a, b)
    (by (eqb (k % 256) 0)
    (λ e. let q : (k % 256 + 255) % 256 ≡ 255 = omega (arith, eqb-true (k % 256) 0 e) in rw (e, q))
    (λ e. let q : (k % 256 + 255) % 256 ≡ k % 256 - 1 = omega (arith, eqb-false (k % 256) 0 e) in rw (e, q, ne_eqb (k % 256 - 1) 255 (λ z. omega arith))))

-- the place of a class: of no dom, and of a word as its dom
pub dom_none : (t : Catalogue) (word dom : ℕ) → dom ≡ 0 → place_of t (word * 256 + 0) ≡ place_in t word dom
unfolding place_in
dom_none t word dom e = rw e

pub dom_word : (t : Catalogue) (word dom : ℕ) → (dom ≡ 0 → ⊥) → place_of t ((dom - 1) * 256 + (word + 1)) ≡ place_in t word dom
unfolding place_in
dom_word t word zero h = absurd (h refl)
dom_word t word (suc d) h = rw (sub-one (suc d))

-- what a place that code has tells
pub place-low : (x : ℕ) → is_some (place_if x) ≡ ltb x 64
place-low x = by (ltb x 64) (λ e. rw e) (λ e. rw e)

pub place-some : (x p : ℕ) → place_if x ≡ Some p → (x ≡ p) × (p < 64)
place-some x p e =
    by (ltb x 64)
    (λ q. let z : x ≡ p = same_Some x p (rw q at e) in (z, omega (arith, ltb-true x 64 q)))
    (λ q. absurd (none-some p (rw q at e)))

pub place-none : (x : ℕ) → place_if x ≡ None → 64 ≤ x
place-none x e = by (ltb x 64) (λ q. absurd (none-some x (sym (rw q at e)))) (λ q. ltb-false x 64 q)

-- what is asked of the type at a place, where a place may be missing
pub asked-some : (f : ℕ → Bool) (x p : ℕ) → place_if x ≡ Some p → f p ≡ (ltb x 64 && f x)
asked-some f x p e = let z = place-some x p e in rw (z.0, lt-ltb p 64 z.1)

pub asked-none : (f : ℕ → Bool) (x : ℕ) → place_if x ≡ None → false ≡ (ltb x 64 && f x)
asked-none f x e = rw (le-ltb x 64 (place-none x e))
