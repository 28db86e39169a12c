-- Placed types have no rows, where none of them lists `self`.
use Rattle.std.specs.Prelude.{true, [], ◌≡◌, eqb}
use Rattle.std.proofs.Math.Bool.{false, not}
use Rattle.std.proofs.Math.Path.{refl, ap}
use Rattle.std.proofs.Common.{sym, ◌∙◌, subst, eqb-true, lt-ltb}
use Prim.Native.Nat.{ℕ, zero, suc}
use Rattle.std.proofs.lemmas.Bool.{eqb-false}
use Rattle.lists.specs.Lists.{any}
use Rattle.lists.specs.Tests.{by, never, or-false-both}
use Rattle.rows.specs.Rows.{has_bit}
use Rattle.bitsets.specs.Bitsets.{more}
use Rattle.order_form.specs.Lists.{any_none, first_of-none, tab, all-tab-of, elem, each-tab-none}
use Rattle.order_form.specs.Reading.{parent_at, how_many, listed}
use Rattle.order_form.specs.declared.Parent.{Parent}
use Rattle.order_form.specs.Rounds.{placed, stays, earlier}
use Rattle.order_form.specs.declared.Parents.{Parents}
use Rattle.order_placed.specs.Placing.{Plain}
use Rattle.order_placed.specs.PlacingLaws.{on-other, plain-less, parent_in}
use Rattle.order_diagnosis.specs.Rows.{bad, rows}

-- the types of the path, and t, satisfy what each does
pub on-all : (P : ℕ → Type 0) (path t : ℕ) → P t → ((x : ℕ) → has_bit path x ≡ true → P x) → (x : ℕ) → has_bit (more path t) x ≡ true → P x
on-all P path t p h x e =
    by (eqb x t)
    (λ q. subst P (sym (eqb-true x t q)) p)
    (λ q. h x (sym (on-other path t x (eqb-false x t q)) ∙ e))

module _ (p : Parents) where
  -- no type of the path is placed after k rounds
  abbrev pub Clear : ℕ → ℕ → Type 0
  Clear k path = (x : ℕ) → has_bit path x ≡ true → elem x (placed p k) ≡ false

  clear-less : (k : ℕ) (path : ℕ) → Clear (suc k) path → Clear k path
  clear-less k path h x e = by (elem x (placed p k)) (λ t. never (stays p k x t) (h x e)) (λ t. t)

  Quiet : ℕ → Type 0
  Quiet k = (d path t : ℕ) → elem t (placed p k) ≡ true → Clear k path → rows d p path t ≡ []

  quiet_step : (k : ℕ) → Plain p (suc k) → Quiet k → (d path t : ℕ) → elem t (placed p (suc k)) ≡ true → elem t (placed p k) ≡ false → Clear k path → rows d p path t ≡ []
  unfolding rows Quiet listed
  quiet_step k n ih zero path t e q h = refl
  quiet_step k n ih (suc d) path t e q h =
      let on : ℕ = more path t in
      let c : Clear k on = on-all (λ x. elem x (placed p k) ≡ false) path t q h in
      let f : any (bad p on) (tab (λ j. parent_at p t j) (how_many p t)) ≡ false =
      any_none (bad p on) (tab (λ j. parent_at p t j) (how_many p t))
      (all-tab-of (λ j. parent_at p t j) (λ x. not (bad p on x)) (how_many p t)
      (λ i l.
      let r = parent_in p k t i n e l in
      ap not
      (or-false-both (ap not (lt-ltb _ _ (earlier p k (parent_at p t i).place r).0))
      (by (has_bit on (parent_at p t i).place) (λ u. never r (c _ u)) (λ u. u))))) in
      rw (first_of-none (bad p on) (tab (λ j. parent_at p t j) (how_many p t)) f)
      (each-tab-none (λ j. parent_at p t j) (λ (x : Parent). rows d p on x.place) (how_many p t)
      (λ i l. ih d on (parent_at p t i).place (parent_in p k t i n e l) c))

  -- what is placed has no rows, whatever path leads to it over types that are not
  pub quiet : (k d path t : ℕ) → Plain p k → elem t (placed p k) ≡ true → Clear k path → rows d p path t ≡ []
  unfolding placed Quiet
  quiet zero d path t n e h = never e refl
  quiet (suc k) d path t n e h =
      by (elem t (placed p k))
      (λ q. quiet k d path t (plain-less p k n) q (clear-less k path h))
      (λ q. quiet_step k n (λ d path t. quiet k d path t (plain-less p k n)) d path t e q (clear-less k path h))
