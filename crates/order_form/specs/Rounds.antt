-- The rounds over places: what is placed after k of them, how many types that is, and when a further round adds none.
use Rattle.std.specs.Prelude.{Bool, true, false, ◌&&◌, ◌||◌, not, List, [], ◌∷◌, ◌++◌, ◌⊎◌, ◌≡◌, eqb, ltb}
use Rattle.std.proofs.Common.{append-nil, inl, inr, ◌∙◌, le_of_suc-le-suc, not-suc-le-zero, eq-or-lt_of_le, arith, lt-ltb}
use Rattle.std.proofs.Math.Logic.{⊎_elim}
use Rattle.std.proofs.Math.Path.{refl, sym, ap}
use Prim.Native.Nat.{ℕ, zero, suc, ◌+◌, ◌≤◌, ◌<◌}
use Rattle.std.proofs.Math.ListN.{length, length-append}
use Rattle.lists.specs.Lists.{any, all}
use Rattle.lists.specs.Tests.{never, same_test, and_left, and_right, or_elim, or_left, or_right}
use Rattle.lists.specs.Appending.{any_append}
use Rattle.order_form.specs.Lists.{all-imp, elem, elem-left, elem-cases, all_of, tab, below, below_in, below-is, below-most, below_none, below-full, below_split}
use Rattle.order_form.specs.Reading.{listed, self_in}
use Rattle.order_form.specs.declared.Parent.{Parent}
use Rattle.order_form.specs.declared.Parents.{Parents}

-- a parent that holds its child back no longer: it is `self`, or placed
abbrev pub settled : Parents → List ℕ → Parent → Bool
settled p out q = self_in p q || elem q.place out

-- whether each parent of a type is settled
unfoldable pub is_ready : Parents → List ℕ → ℕ → Bool
is_ready p out t = all (settled p out) (listed p t)

-- type t is not placed yet, and is ready
unfoldable pub free : Parents → List ℕ → ℕ → Bool
free p out t = not (elem t out) && is_ready p out t

-- one round: the types that are free now go behind those placed, in name order
unfoldable pub next : Parents → List ℕ → List ℕ
next p out = below (free p out) p.count

unfoldable pub round : Parents → List ℕ → List ℕ
round p out = out ++ next p out

unfoldable pub placed : Parents → ℕ → List ℕ
placed p zero = []
placed p (suc k) = round p (placed p k)

-- what is placed after as many rounds as there are types
unfoldable pub final : Parents → List ℕ
final p = placed p p.count

-- whether a parent is listed as `self`
unfoldable pub lists_self : Parents → Bool
lists_self p = any (λ (l : List Parent). any (self_in p) l) (tab (listed p) p.count)

by_length : {C : Type 0} (l : List ℕ) → (l ≡ [] → C) → (0 < length l → C) → C
by_length [] f g = f refl
by_length (x ∷ l) f g = g (omega arith)

module _ (p : Parents) where
  -- what was placed stays
  pub stays : (k x : ℕ) → elem x (placed p k) ≡ true → elem x (placed p (suc k)) ≡ true
  unfolding placed round
  stays k x e = elem-left x (placed p k) (next p (placed p k)) e

  -- the type is declared, and ready for what k rounds placed
  abbrev pub Ready : ℕ → ℕ → Type 0
  Ready k x = (x < p.count) × (is_ready p (placed p k) x ≡ true)

  round_is : (k x : ℕ) → (elem x (placed p k) ≡ true → Ready k x) → elem x (placed p (suc k)) ≡ true → Ready k x
  unfolding placed round next free
  round_is k x f e =
      elem-cases x (placed p k) (next p (placed p k)) e f
      (λ q.
      let r = below-is (free p (placed p k)) p.count x q in
      (r.0, and_right (not (elem x (placed p k))) (is_ready p (placed p k) x) r.1))

  settled-stays : (k : ℕ) (q : Parent) → settled p (placed p k) q ≡ true → settled p (placed p (suc k)) q ≡ true
  settled-stays k q e =
      or_elim (self_in p q) (elem q.place (placed p k)) e
      (λ h. or_left (elem q.place (placed p (suc k))) h)
      (λ h. or_right (self_in p q) (stays k q.place h))

  pub earlier : (k x : ℕ) → elem x (placed p k) ≡ true → Ready k x
  unfolding placed is_ready
  earlier zero x e = never e refl
  earlier (suc k) x e =
      let r = round_is k x (earlier k x) e in
      (r.0, all-imp (settled p (placed p k)) (settled p (placed p (suc k))) (listed p x) (settled-stays k) r.1)

  -- what a round placed was ready before it
  pub was : (k x : ℕ) → elem x (placed p (suc k)) ≡ true → Ready k x
  was k x e = round_is k x (earlier k x) e

  pub next-is : (out : List ℕ) (x : ℕ) → x < p.count → elem x (next p out) ≡ free p out x
  unfolding next
  next-is out x h = same_test (λ q. (below-is (free p out) p.count x q).1) (λ q. below_in (free p out) p.count x h q)

  -- how many are placed
  pub count : (k : ℕ) → length (placed p k) ≡ length (below (λ x. elem x (placed p k)) p.count)
  unfolding placed round next free
  count zero = sym (ap length (below_none (λ x. false) p.count (λ x h. refl)))
  count (suc k) =
      length-append (placed p k) (next p (placed p k))
      ∙ ap (λ (n : ℕ). n + length (next p (placed p k))) (count k)
      ∙ sym
      (below_split (λ x. elem x (placed p k)) (free p (placed p k)) (λ x. elem x (placed p (suc k))) p.count
      (λ x h. any_append (eqb x) (placed p k) (next p (placed p k)) ∙ ap (λ (b : Bool). elem x (placed p k) || b) (next-is (placed p k) x h))
      (λ x q r. never (and_left (not (elem x (placed p k))) (is_ready p (placed p k) x) r) (rw q)))

  pub count_most : (k : ℕ) → length (placed p k) ≤ p.count
  count_most k = rw (count k) (below-most (λ x. elem x (placed p k)) p.count)

  pub count-full : (k : ℕ) → length (placed p k) ≡ p.count → (x : ℕ) → x < p.count → elem x (placed p k) ≡ true
  count-full k e = below-full (λ x. elem x (placed p k)) p.count (sym (count k) ∙ e)

  -- where a round adds nothing, no later one does
  pub rests : (k n : ℕ) → k ≤ n → next p (placed p k) ≡ [] → placed p n ≡ placed p k
  unfolding placed round
  rests zero zero h e = refl
  rests (suc k) zero h e = absurd (not-suc-le-zero h)
  rests k (suc n) h e =
      ⊎_elim
      (λ (q : k ≡ suc n). ap (placed p) (sym q))
      (λ (l : k < suc n). ap (round p) (rests k n (le_of_suc-le-suc l) e) ∙ rw (e, append-nil))
      (eq-or-lt_of_le h)

-- ---- after as many rounds as there are types no further round places one

grows-or-rests : (p : Parents) (k : ℕ) → (next p (placed p k) ≡ []) ⊎ (k < length (placed p (suc k)))
unfolding placed round
grows-or-rests p zero = by_length (next p []) (λ e. inl e) (λ h. inr h)
grows-or-rests p (suc k) =
    ⊎_elim
    (λ (e : next p (placed p k) ≡ []). inl (ap (next p) (rests p k (suc k) (omega arith) e) ∙ e))
    (λ (h : k < length (placed p (suc k))).
    by_length (next p (placed p (suc k))) (λ e. inl e)
    (λ l. inr (rw (length-append (placed p (suc k)) (next p (placed p (suc k)))) (omega arith))))
    (grows-or-rests p k)

pub final-rests : (p : Parents) → next p (final p) ≡ []
unfolding final
final-rests p = ⊎_elim (λ (e : next p (placed p p.count) ≡ []). e) (λ (h : p.count < length (placed p (suc p.count))). absurd (omega (arith, count_most p (suc p.count)))) (grows-or-rests p p.count)

-- what is placed is a type
pub placed_below : (p : Parents) (k : ℕ) → all (λ x. ltb x p.count) (placed p k) ≡ true
placed_below p k = all_of (λ x. ltb x p.count) (placed p k) (λ x e. lt-ltb x p.count (earlier p k x e).0)
