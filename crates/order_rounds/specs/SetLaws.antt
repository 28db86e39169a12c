-- The rounds over sets: how many types are placed, when a further round adds none, and that they are those of each compact form
-- that the sets are of.
use Rattle.std.specs.Prelude.{Bool, true, false, ◌&&◌, ◌||◌, not, List, [], ◌++◌, ◌≡◌, ℕ, zero, suc, ◌+◌, ◌≤◌, ◌<◌, eqb, ltb, length}
use Rattle.std.proofs.Common.{append-nil, ◌∙◌, le_of_suc-le-suc, not-suc-le-zero, eq-or-lt_of_le, arith, length-append}
use Rattle.std.proofs.Math.Logic.{⊎_elim}
use Rattle.std.proofs.Math.Path.{refl, sym, ap, subst}
use borrow.Author.Tests.{eq-eqb, eqb-true, ltb-true, ltb-false}
use Rattle.lists.specs.Lists.{any}
use Rattle.lists.specs.Tests.{by, never, same_test, and_left, or_elim, or_right, any-in, any_of, any-not, all_in, all_of}
use Rattle.lists.specs.Appending.{any_append}
use Rattle.rows.specs.Rows.{has_bit}
use Rattle.bitsets.specs.Bitsets.{members}
use Rattle.bitsets.specs.BitLaws.{bit_past, in_members, members-of}
use Rattle.order_form.specs.Lists.{elem, any-tab-out, below, below_in, below-is, below-most, below_none, below_split, below-same}
use Rattle.order_form.specs.Reading.{listed, self_in}
use Rattle.order_form.specs.declared.Parent.{Parent}
use Rattle.order_form.specs.Rounds.{settled, is_ready, free, next, round, placed, final, lists_self}
use Rattle.order_form.specs.declared.Parents.{Parents}
use Rattle.catalogue.specs.Layout.{parents_at}
use Rattle.catalogue.specs.declared.Catalogue.{Catalogue}
use Rattle.order_rounds.specs.Rounds.{all_listed_in, SetsFor, set_free, set_next, set_placed, set_final, AnySets}

module _ (t : Catalogue) (n : ℕ) where
  pub next-is : (out : List ℕ) (x : ℕ) → x < n → elem x (set_next t n out) ≡ set_free t out x
  unfolding set_next
  next-is out x h = same_test (λ q. (below-is (set_free t out) n x q).1) (λ q. below_in (set_free t out) n x h q)

  -- how many are placed
  count : (k : ℕ) → length (set_placed t n k) ≡ length (below (λ x. elem x (set_placed t n k)) n)
  unfolding set_placed set_next set_free
  count zero = sym (ap length (below_none (λ x. false) n (λ x h. refl)))
  count (suc k) =
      length-append (set_placed t n k) (set_next t n (set_placed t n k))
      ∙ ap (λ (m : ℕ). m + length (set_next t n (set_placed t n k))) (count k)
      ∙ sym
      (below_split (λ x. elem x (set_placed t n k)) (set_free t (set_placed t n k)) (λ x. elem x (set_placed t n (suc k))) n
      (λ x h. any_append (eqb x) (set_placed t n k) (set_next t n (set_placed t n k)) ∙ ap (λ (b : Bool). elem x (set_placed t n k) || b) (next-is (set_placed t n k) x h))
      (λ x q r. never (and_left (not (elem x (set_placed t n k))) (all_listed_in (parents_at t x) (set_placed t n k)) r) (rw q)))

  pub count_most : (k : ℕ) → length (set_placed t n k) ≤ n
  count_most k = rw (count k) (below-most (λ x. elem x (set_placed t n k)) n)

  -- where a round adds nothing, no later one does
  pub rests : (k m : ℕ) → k ≤ m → set_next t n (set_placed t n k) ≡ [] → set_placed t n m ≡ set_placed t n k
  unfolding set_placed
  rests zero zero h e = refl
  rests (suc k) zero h e = absurd (not-suc-le-zero h)
  rests k (suc m) h e =
      ⊎_elim
      (λ (q : k ≡ suc m). ap (set_placed t n) (sym q))
      (λ (l : k < suc m). ap (λ (out : List ℕ). out ++ set_next t n out) (rests k m (le_of_suc-le-suc l) e) ∙ rw (e, append-nil))
      (eq-or-lt_of_le h)

-- ---- the rounds over a compact form that the sets are of

module _ (p : Parents) (t : Catalogue) (n : ℕ) (s : SetsFor p t n) where
  self-not : (a : ℕ) → a < n → any (self_in p) (listed p a) ≡ false
  unfolding lists_self
  self-not a h = any-tab-out (listed p) (λ (l : List Parent). any (self_in p) l) p.count a s.no_self (omega (arith, s.count))

  member-bit : (a b : ℕ) → a < n → has_bit (parents_at t a) b ≡ true → b < 64
  member-bit a b h v = by (ltb b 64) (λ z. ltb-true b 64 z) (λ z. never v (bit_past 64 (parents_at t a) b (s.most a h) (ltb-false b 64 z)))

  -- a type is ready exactly if its set of parents is placed
  pub ready-is : (a : ℕ) → a < n → (out : List ℕ) → is_ready p out a ≡ all_listed_in (parents_at t a) out
  unfolding is_ready all_listed_in
  ready-is a h out =
      same_test
      (λ e.
      all_of (λ b. elem b out) (members (parents_at t a))
      (λ b i.
      let x = any_of (λ (q : Parent). eqb q.place b) (listed p a) (sym (s.bits a b h) ∙ (members-of (parents_at t a) i).1) in
      or_elim (self_in p x.0) (elem x.0.place out) (all_in (settled p out) e x.1)
      (λ z. never z (any-not (self_in p) (self-not a h) x.1))
      (λ z. subst (λ (y : ℕ). elem y out ≡ true) (eqb-true x.0.place b x.2) z)))
      (λ e.
      all_of (settled p out) (listed p a)
      (λ q i.
      let v : has_bit (parents_at t a) q.place ≡ true = s.bits a q.place h ∙ any-in (λ (r : Parent). eqb r.place q.place) i (eq-eqb q.place q.place refl) in
      or_right (self_in p q) (all_in (λ b. elem b out) e (in_members (parents_at t a) (member-bit a q.place h v) v))))

  -- they are sets, so what is said of the rounds over sets holds of them
  pub sets-of : AnySets t n
  sets-of = record { few = s.few; most = s.most }

  pub free-is : (out : List ℕ) (a : ℕ) → a < n → free p out a ≡ set_free t out a
  unfolding free set_free
  free-is out a h = ap (λ (b : Bool). not (elem a out) && b) (ready-is a h out)

  pub next-same : (out : List ℕ) → next p out ≡ set_next t n out
  unfolding next set_next
  next-same out = ap (below (free p out)) s.count ∙ below-same (free p out) (set_free t out) n (free-is out)

  pub placed-is : (k : ℕ) → placed p k ≡ set_placed t n k
  unfolding placed round set_placed
  placed-is zero = refl
  placed-is (suc k) = ap (round p) (placed-is k) ∙ ap (λ (l : List ℕ). set_placed t n k ++ l) (next-same (set_placed t n k))

  pub final-is : final p ≡ set_final t n
  unfolding final set_final
  final-is = ap (placed p) s.count ∙ placed-is n
