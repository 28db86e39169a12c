-- The set that free types join one by one is what the rounds place.
use Rattle.std.specs.Prelude.{Bool, false, ◌&&◌, ◌||◌, ◌≡◌, eqb, ltb, length}
use Rattle.std.proofs.Math.Bool.{true, not, or-false, or-true}
use mathlib.Core.List.{List, [], ◌∷◌, ◌++◌}
use Rattle.std.proofs.Common.{inl, inr, ⊎_elim, sym, ◌∙◌, arith}
use Rattle.std.proofs.Math.Path.{refl, ap, subst}
use Prim.Native.Nat.{ℕ, zero, suc, ◌+◌, ◌<◌}
use borrow.Author.Tests.{eq-eqb, ne_eqb, eqb-true, eqb-false, lt-ltb, not-true}
use Rattle.lists.specs.Lists.{any, all, null}
use Rattle.lists.specs.Tests.{by, never, same_test, and_left, and_right, and_both, or_elim, or_right}
use Rattle.lists.specs.Appending.{any_append}
use Rattle.rows.specs.Rows.{has_bit}
use Rattle.rows.specs.RowLaws.{bit-none}
use Rattle.bitsets.specs.Bitsets.{more}
use Rattle.bitsets.specs.BitLaws.{bit-more}
use Rattle.order_form.specs.Lists.{all-imp, tab, all-tab-in, all-tab-of, any-tab-out, elem, only, below, below_in, below_one, below_split, below-same}
use Rattle.order_form.specs.Reading.{parent_at, how_many, listed, self_in}
use Rattle.order_form.specs.declared.Parent.{Parent}
use Rattle.order_form.specs.Rounds.{settled, is_ready, free, next, round, placed, final, stays, was, earlier, final-rests}
use Rattle.order_form.specs.declared.Parents.{Parents}
use Rattle.order_placed.specs.Placing.{settled_in, free_in, off, Plain, Sound, Closed, Joined, Passed, PlacedAll}

-- ---- a set with a type more

pub on_same : (set t : ℕ) → has_bit (more set t) t ≡ true
on_same set t = rw (bit-more, eq-eqb t t refl, or-true)

pub on-other : (set t x : ℕ) → (x ≡ t → ⊥) → has_bit (more set t) x ≡ has_bit set x
on-other set t x h = rw (bit-more, ne_eqb t x (λ e. h (sym e)), or-false)

-- one type fewer is left
pub off-step : (n t set : ℕ) → t < n → has_bit set t ≡ false → off n set ≡ suc (off n (more set t))
unfolding off
off-step n t set h e =
    omega (
      arith,
      ap length (below_one n t h),
      below_split (λ x. not (has_bit (more set t) x)) (λ x. eqb t x) (λ x. not (has_bit set x)) n
          (λ x i.
          by (eqb t x)
          (λ q. let z = sym (eqb-true t x q) in rw (z, e, on_same set t, eq-eqb t t refl))
          (λ q. rw (q, on-other set t x (λ z. eqb-false t x q (sym z)), or-false)))
          (λ x u q. never u (rw (sym (eqb-true t x q), on_same set t))),
    )

-- ---- round one

null-append : (a b : List ℕ) → null (a ++ b) ≡ (null a && null b)
null-append [] b = refl
null-append (x ∷ a) b = refl

some_below : (f : ℕ → Bool) (n : ℕ) → not (null (below f n)) ≡ any f (tab (λ t. t) n)
some_below f zero = refl
some_below f (suc n) =
    ap not (null-append (below f n) (only (f n) n))
    ∙ both (null (below f n)) (f n)
    ∙ ap (λ (b : Bool). b || f n) (some_below f n)
    ∙ sym (any_append f (tab (λ t. t) n) (n ∷ []) ∙ ap (λ (b : Bool). any f (tab (λ t. t) n) || b) (or-false (f n)))
  where
    both : (a b : Bool) → not (a && null (only b n)) ≡ (not a || b)
    both true true = refl
    both true false = refl
    both false true = refl
    both false false = refl

module _ (p : Parents) where
  -- a type is ready in round one where it lists no parent but `self`
  pub first-is : not (null (placed p 1)) ≡ any (λ t. all (self_in p) (listed p t)) (tab (λ t. t) p.count)
  unfolding placed round next free is_ready
  first-is =
      ap (λ (l : List ℕ). not (null l))
      (below-same (λ t. all (settled p []) (listed p t)) (λ t. all (self_in p) (listed p t)) p.count
      (λ t h. all_alike (settled p []) (self_in p) (listed p t) (λ q. or-false (self_in p q))))
      ∙ some_below (λ t. all (self_in p) (listed p t)) p.count
    where
      all_alike : (f g : Parent → Bool) (l : List Parent) → ((q : Parent) → f q ≡ g q) → all f l ≡ all g l
      all_alike f g [] e = refl
      all_alike f g (q ∷ l) e = rw (e q, all_alike f g l e)

  -- ---- the set is what the rounds place

  pub plain-less : (k : ℕ) → Plain p (suc k) → Plain p k
  plain-less k h x e = h x (stays p k x e)

  -- the parents of a placed type were placed before it
  pub parent_in : (k t i : ℕ) → Plain p (suc k) → elem t (placed p (suc k)) ≡ true → i < how_many p t → elem (parent_at p t i).place (placed p k) ≡ true
  unfolding is_ready listed
  parent_in k t i h e l =
      or_elim (self_in p (parent_at p t i)) (elem (parent_at p t i).place (placed p k))
      (all-tab-in (λ j. parent_at p t j) (settled p (placed p k)) (how_many p t) i (was p k t e).1 l)
      (λ q. never q (any-tab-out (λ j. parent_at p t j) (self_in p) (how_many p t) i (h t e) l))
      (λ q. q)

  -- a type whose parents are all placed is placed
  joins : (out t : ℕ) → Sound p out → t < p.count → all (settled_in p out) (listed p t) ≡ true → elem t (final p) ≡ true
  unfolding next free is_ready settled_in
  joins out t s h a =
      by (elem t (final p))
      (λ e. e)
      (λ e.
      let r : all (settled p (final p)) (listed p t) ≡ true =
      all-imp (settled_in p out) (settled p (final p)) (listed p t)
      (λ q i. or_right (self_in p q) (s.there q.place (and_right (ltb q.place p.count) (has_bit out q.place) i))) a in
      never (below_in (free p (final p)) p.count t h (rw (e, r))) (ap (elem t) (final-rests p)))

  sound_more : (out t : ℕ) → Sound p out → t < p.count → free_in p out t ≡ true → Sound p (more out t)
  unfolding free_in
  sound_more out t s h f = record {
    there = λ x e.
        or_elim (has_bit out x) (eqb t x) (sym (bit-more out t x) ∙ e) (s.there x)
        (λ q. subst (λ (y : ℕ). elem y (final p) ≡ true) (eqb-true t x q) (joins out t s h (and_right (not (has_bit out t)) (all (settled_in p out) (listed p t)) f)));
  }

  left_out : (out t : ℕ) → free_in p out t ≡ true → has_bit out t ≡ false
  unfolding free_in
  left_out out t f = not-true _ (and_left (not (has_bit out t)) (all (settled_in p out) (listed p t)) f)

  pub joined-none : (out : ℕ) → Joined p 0 out out
  joined-none out = record { sound = λ s. s; step = inl (record { none = λ t h. absurd (omega arith) }, refl) }

  pub joined-yes : (old now t : ℕ) → Joined p t old now → t < p.count → free_in p now t ≡ true → Joined p (t + 1) old (more now t)
  joined-yes old now t j h f =
      let o = off-step p.count t now h (left_out now t f) in
      record {
        sound = λ s. sound_more now t (j.sound s) h f;
        step =
            ⊎_elim
            (λ (w : Closed p old t × (now ≡ old)). inr (omega (arith, o, ap (off p.count) w.1)))
            (λ (w : off p.count now < off p.count old). inr (omega (arith, o)))
            j.step;
      }

  pub joined-no : (old now t : ℕ) → Joined p t old now → free_in p now t ≡ false → Joined p (t + 1) old now
  joined-no old now t j f = record {
    sound = j.sound;
    step =
        ⊎_elim
        (λ (w : Closed p old t × (now ≡ old)).
        inl
        (record { none = λ x h. by (eqb x t) (λ q. rw (eqb-true x t q, ← w.1) f) (λ q. let y = eqb-false x t q in w.0.none x (omega (arith, y))) }, w.1))
        (λ (w : off p.count now < off p.count old). inr w)
        j.step;
  }

  -- nothing joined: no type is free
  pub closed_is : (out : ℕ) → Passed p out out → Closed p out p.count
  closed_is out j = ⊎_elim (λ (w : Closed p out p.count × (out ≡ out)). w.0) (λ (w : off p.count out < off p.count out). absurd (omega arith)) j.step

  -- some did: fewer are left
  pub fewer-are : (old new : ℕ) → Passed p old new → (new ≡ old → ⊥) → off p.count new < off p.count old
  fewer-are old new j n = ⊎_elim (λ (w : Closed p old p.count × (new ≡ old)). absurd (n w.1)) (λ (w : off p.count new < off p.count old). w) j.step

  pub sound_none : Sound p 0
  sound_none = record { there = λ x e. never e (bit-none x) }

  -- what is placed is in a set that no type can join
  complete : (out : ℕ) → Closed p out p.count → (k : ℕ) → Plain p k → (x : ℕ) → elem x (placed p k) ≡ true → has_bit out x ≡ true
  unfolding free_in settled_in listed placed
  complete out c zero n x e = never e refl
  complete out c (suc k) n x e =
      by (has_bit out x)
      (λ f. f)
      (λ f.
      let a : all (settled_in p out) (tab (λ j. parent_at p x j) (how_many p x)) ≡ true =
      all-tab-of (λ j. parent_at p x j) (settled_in p out) (how_many p x)
      (λ i l.
      let r = parent_in k x i n e l in
      and_both (lt-ltb _ _ (earlier p k (parent_at p x i).place r).0) (complete out c k (plain-less k n) (parent_at p x i).place r)) in
      never (rw (f, a)) (c.none x (earlier p (suc k) x e).0))

  pub placed-all : (out : ℕ) → Sound p out → Closed p out p.count → PlacedAll p out
  unfolding final
  placed-all out s c = record { places = λ n x. same_test (s.there x) (complete out c p.count n x) }
