-- Each type that is not placed has a row, from every path that leads to it. So each step of the search belongs to a row: the
-- search enters such types alone, goes at most as deep as there are types, and ends at the row past the limit.
use Rattle.std.proofs.Math.Bool.{false}
use Rattle.std.specs.Prelude.{not, ◌≡◌, refl, ltb}
use mathlib.Core.List.{List, [], ◌∷◌, cons≢nil}
use Rattle.std.proofs.Common.{ap, arith, ltb-true}
use Prim.Native.Nat.{ℕ, zero, suc, ◌<◌}
use Rattle.std.proofs.lemmas.Bool.{not-false}
use Rattle.lists.specs.Lists.{all, each, first_of}
use Rattle.lists.specs.Tests.{by, never, or-false-left, or-false-right}
use Rattle.rows.specs.Rows.{has_bit}
use Rattle.bitsets.specs.Bitsets.{more}
use Rattle.order_form.specs.Lists.{first_of-nil, tab, all-tab-not, any-tab-out, each-tab-nil, elem, below_in}
use Rattle.order_form.specs.Reading.{parent_at, how_many, listed, self_in}
use Rattle.order_form.specs.declared.Parent.{Parent}
use Rattle.order_form.specs.Rounds.{settled, is_ready, free, next, final, final-rests}
use Rattle.order_form.specs.declared.Parents.{Parents}
use Rattle.order_placed.specs.Placing.{off}
use Rattle.order_placed.specs.PlacingLaws.{off-step}
use Rattle.emitting.specs.declared.Row.{Row}
use Rattle.order_diagnosis.specs.Rows.{bad, answer, rows}

answered : (p : Parents) (t : ℕ) (qs : List Parent) (later : List Row) → answer p t qs later ≡ [] → (qs ≡ []) × (later ≡ [])
answered p t [] later e = (refl, e)
answered p t (q ∷ qs) later e = absurd (cons≢nil e)

module _ (p : Parents) where
  -- a type that is not placed waits for a parent that is not placed
  waits : (t : ℕ) → t < p.count → elem t (final p) ≡ false → (i : ℕ) × (i < how_many p t) × (elem (parent_at p t i).place (final p) ≡ false)
  unfolding next free is_ready listed
  waits t h e =
      by (all (settled p (final p)) (tab (λ j. parent_at p t j) (how_many p t)))
      (λ r. never (below_in (free p (final p)) p.count t h (rw (e, r))) (ap (elem t) (final-rests p)))
      (λ r.
      let w = all-tab-not (λ j. parent_at p t j) (settled p (final p)) (how_many p t) r in
      (w.0, w.1, or-false-right (self_in p (parent_at p t w.0)) (elem (parent_at p t w.0).place (final p)) w.2))

  pub loud : (d path t : ℕ) → t < p.count → elem t (final p) ≡ false → has_bit path t ≡ false
      → off p.count path ≡ d → rows d p path t ≡ [] → ⊥
  unfolding rows listed
  loud zero path t h e o f r = omega (arith, off-step p.count t path h o)
  loud (suc d) path t h e o f r =
      let on : ℕ = more path t in
      let qs : List Parent = tab (λ j. parent_at p t j) (how_many p t) in
      let a = answered p t (first_of (bad p on) qs) (each (λ (q : Parent). rows d p on q.place) qs) r in
      let w = waits t h e in
      let x : ℕ = (parent_at p t w.0).place in
      let b : bad p on (parent_at p t w.0) ≡ false = any-tab-out (λ j. parent_at p t j) (bad p on) (how_many p t) w.0 (first_of-nil (bad p on) qs a.0) w.1 in
      loud d on x
      (ltb-true x p.count (not-false (ltb x p.count) (or-false-left (not (ltb x p.count)) (has_bit on x) b)))
      w.2
      (or-false-right (not (ltb x p.count)) (has_bit on x) b)
      (omega (arith, off-step p.count t path h o))
      (each-tab-nil (λ j. parent_at p t j) (λ (q : Parent). rows d p on q.place) (how_many p t) w.0 a.1 w.1)
