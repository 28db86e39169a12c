-- A walk over a set by dom: its first member, then the others; and the walk to the member with the least key.
use Rattle.std.specs.Prelude.{Bool, true, false, ◌&&◌, ◌||◌, not, ◌≡◌, ℕ, ◌≤◌, ◌<◌, eqb, ltb, length}
use mathlib.Core.List.Memᴰ
use mathlib.Core.List.{[], ◌∷◌, Permᴰ}
use Rattle.std.proofs.Common.{refl, sym, ap, ap₂, ◌∙◌, subst, arith, eqb-true, eq-eqb, lt-ltb, ltb-true}
use Rattle.std.proofs.lemmas.Bool.{eqb-false, not-true}
use Rattle.lists.specs.Lists.{In, Sorted, insert, sort}
use Rattle.lists.specs.Tests.{by, never, and_left, and_right, and_both, cons-elim}
use Rattle.lists.specs.Strict.{asymmetric, number-strict}
use Rattle.lists.specs.Sorting.{sorted-imp, sorted-unique, sort-is, sort-perm, sort_sorted}
use Rattle.rows.specs.Rows.{has_bit}
use Rattle.rows.specs.RowLaws.{bit-none}
use Rattle.bitsets.specs.Bitsets.{members, more, Lowest, Rest}
use Rattle.bitsets.specs.BitLaws.{bit-less, bit-more, members-of, in_members, members-none}
use Rattle.law_classes.proofs.ClassOrder.{members-ascend}
use Rattle.catalogue.specs.Layout.{key_at}
use Rattle.catalogue.specs.ByDom.{key_rank, rank, by_dom, but, LeastKey, FirstByDom}
use Rattle.catalogue.specs.declared.Catalogue.{Catalogue}

pub bit-but : (set k j : ℕ) → has_bit (but set k) j ≡ (has_bit set j && not (eqb k j))
bit-but set k j =
    bit-less set (more 0 k) j
    ∙ ap (λ b. has_bit set j && not b) (bit-more 0 k j ∙ ap (λ (b : Bool). b || eqb k j) (bit-none j))

module _ (t : Catalogue) where
  -- no two places have one rank
  pub rank-apart : (a b : ℕ) → a < 64 → b < 64 → rank t a ≡ rank t b → a ≡ b
  unfolding rank
  rank-apart a b h k e =
      by (t.hyphens)
      (λ p. let q : key_rank t a ≡ key_rank t b = rw p at e in omega (arith, q))
      (λ p. rw p at e)

  -- ---- the member with the least key

  -- what is found of a set, `left` being left to look at
  pub record Found (set left k : ℕ) : Type 0 where
    pub place : k < 64
    pub there : has_bit set k ≡ true
    pub least : (j : ℕ) → j < 64 → has_bit set j ≡ true → has_bit left j ≡ false → key_rank t k ≤ key_rank t j
    pub ahead : (j : ℕ) → has_bit left j ≡ true → k ≤ j
    pub within : (j : ℕ) → has_bit left j ≡ true → has_bit set j ≡ true

  at-least : (x k : ℕ) → Lowest x k → (j : ℕ) → has_bit x j ≡ true → k ≤ j
  at-least x k l j h = by (ltb j k) (λ e. never h (l.none j (ltb-true j k e))) (λ e. borrow.Author.Tests.ltb-false j k e)

  pub found_first : (set k : ℕ) → Lowest set k → Found set set k
  found_first set k l = record {
    place = l.place;
    there = l.there;
    least = λ j h i n. never i n;
    ahead = at-least set k l;
    within = λ j h. h;
  }

  -- of those left behind the next one stands the rest
  past : (left c r j : ℕ) → Lowest left c → Rest left r → has_bit r j ≡ false → (j ≡ c → ⊥) → has_bit left j ≡ false
  past left c r j l d e n =
      by (has_bit left j)
      (λ h. never (d.bits c l j ∙ and_both h (ap not (Rattle.std.proofs.Common.ne_eqb j c n))) e)
      (λ h. h)

  kept : (left c r j : ℕ) → Lowest left c → Rest left r → has_bit r j ≡ true → has_bit left j ≡ true
  kept left c r j l d h = and_left (has_bit left j) (not (eqb j c)) (sym (d.bits c l j) ∙ h)

  module _ (set left k c r : ℕ) (f : Found set left k) (l : Lowest left c) (d : Rest left r) where
    pub found_less : key_at t c < key_at t k → Found set r c
    found_less h = record {
      place = l.place;
      there = f.within c l.there;
      least = λ j g i n.
          by (eqb j c)
          (λ e. let q = eqb-true j c e in omega (arith, ap (key_rank t) q))
          (λ e. omega (arith, f.least j g i (past left c r j l d n (eqb-false j c e)), f.place, l.place));
      ahead = λ j i. at-least left c l j (kept left c r j l d i);
      within = λ j i. f.within j (kept left c r j l d i);
    }

    pub found_more : key_at t k ≤ key_at t c → Found set r k
    found_more h = record {
      place = f.place;
      there = f.there;
      least = λ j g i n.
          by (eqb j c)
          (λ e. let q = eqb-true j c e in omega (arith, ap (key_rank t) q, f.ahead c l.there))
          (λ e. f.least j g i (past left c r j l d n (eqb-false j c e)));
      ahead = λ j i. f.ahead j (kept left c r j l d i);
      within = λ j i. f.within j (kept left c r j l d i);
    }

  pub found_all : (set left k : ℕ) → Found set left k → left ≡ 0 → LeastKey t set k
  found_all set left k f e = record {
    place = f.place;
    there = f.there;
    least = λ j h i. f.least j h i (ap (λ (x : ℕ). has_bit x j) e ∙ bit-none j);
  }

  -- ---- the first by dom

  pub first_place : (set k : ℕ) → t.hyphens ≡ false → Lowest set k → FirstByDom t set k
  unfolding rank
  first_place set k p l = record { place = l.place; there = l.there; first = λ j h i. rw p (at-least set k l j i) }

  pub first_key : (set k : ℕ) → t.hyphens ≡ true → LeastKey t set k → FirstByDom t set k
  unfolding rank
  first_key set k p l = record { place = l.place; there = l.there; first = λ j h i. rw p (l.least j h i) }

  -- ---- the walk

  by_dom-ascends : (x : ℕ) → Sorted (λ a b. ltb (rank t a) (rank t b) ≡ true) (by_dom t x)
  unfolding by_dom
  by_dom-ascends x =
      sort_sorted number-strict (rank t) (members x)
      (sorted-imp (members x)
      (λ a b i j h e. let q = rank-apart a b (members-of x i).0 (members-of x j).0 e in never h (rw q (number-strict.irreflexive b)))
      (members-ascend x))

  pub by_dom-perm : (x : ℕ) → Permᴰ (members x) (by_dom t x)
  unfolding by_dom
  by_dom-perm x = sort-perm (λ a b. ltb (rank t a) (rank t b)) (members x)

  pub by_dom-of : (x : ℕ) {a : ℕ} → In a (by_dom t x) → In a (members x)
  unfolding by_dom
  by_dom-of x {a} i = (sort-is (λ a b. ltb (rank t a) (rank t b)) (members x) a).0 i

  pub in-by_dom : (x : ℕ) {a : ℕ} → In a (members x) → In a (by_dom t x)
  unfolding by_dom
  in-by_dom x {a} i = (sort-is (λ a b. ltb (rank t a) (rank t b)) (members x) a).1 i

  but-of : (set k : ℕ) {a : ℕ} → In a (by_dom t (but set k)) → (a < 64) × (has_bit set a ≡ true) × (k ≡ a → ⊥)
  but-of set k {a} i =
      let h = members-of (but set k) (by_dom-of (but set k) i) in
      let e = sym (bit-but set k a) ∙ h.1 in
      (h.0, and_left (has_bit set a) (not (eqb k a)) e, eqb-false k a (not-true (eqb k a) (and_right (has_bit set a) (not (eqb k a)) e)))

  -- without hyphens the places are in the order of doms
  pub by_dom-plain : (set : ℕ) → t.hyphens ≡ false → by_dom t set ≡ members set
  unfolding rank
  by_dom-plain set e =
      let place : (a : ℕ) → rank t a ≡ a = λ a. rw e refl in
      sorted-unique (λ a b. ltb (rank t a) (rank t b) ≡ true) (λ a b. asymmetric number-strict (rank t a) (rank t b)) (by_dom t set) (members set) (by_dom-ascends set)
      (sorted-imp (members set) (λ a b i j h. ap₂ ltb (place a) (place b) ∙ h) (members-ascend set))
      (λ a i. by_dom-of set i)
      (λ a i. in-by_dom set i)

  pub by_dom-next : (set k : ℕ) → FirstByDom t set k → by_dom t set ≡ k ∷ by_dom t (but set k)
  by_dom-next set k f =
      let R : ℕ → ℕ → Type 0 = λ a b. ltb (rank t a) (rank t b) ≡ true in
      sorted-unique R (λ a b. asymmetric number-strict (rank t a) (rank t b)) (by_dom t set) (k ∷ by_dom t (but set k)) (by_dom-ascends set) (
        λ a i.
            let b = but-of set k i in
            let n : rank t k ≡ rank t a → ⊥ = λ e. b.2 (rank-apart k a f.place b.0 e) in
            lt-ltb (rank t k) (rank t a) (omega (arith, f.first a b.0 b.1, n)),
        by_dom-ascends (but set k),
      )
      (λ a i.
      let h = members-of set (by_dom-of set i) in
      by (eqb k a)
      (λ e. Memᴰ.head (sym (eqb-true k a e)))
      (λ e. Memᴰ.tail (in-by_dom (but set k) (in_members (but set k) h.0 (bit-but set k a ∙ and_both h.1 (ap not e))))))
      (λ a i.
      cons-elim i
      (λ e. in-by_dom set (in_members set (omega (arith, e, f.place)) (ap (has_bit set) e ∙ f.there)))
      (λ j. let b = but-of set k j in in-by_dom set (in_members set b.0 b.1)))

  -- of one member, and of none
  pub by_dom-one : (set k : ℕ) → members set ≡ k ∷ [] → by_dom t set ≡ k ∷ []
  unfolding by_dom sort insert
  by_dom-one set k e = ap (sort (λ a b. ltb (rank t a) (rank t b))) e

  pub by_dom-empty : (set : ℕ) → members set ≡ [] → by_dom t set ≡ []
  unfolding by_dom sort
  by_dom-empty set e = ap (sort (λ a b. ltb (rank t a) (rank t b))) e

  pub by_dom-none : (set : ℕ) → set ≡ 0 → by_dom t set ≡ []
  by_dom-none set e = by_dom-empty set (members-none set e)

  -- as many as there are
  pub by_dom-less : (set k : ℕ) → FirstByDom t set k → length (by_dom t (but set k)) < length (by_dom t set)
  by_dom-less set k f = omega (arith, ap length (by_dom-next set k f))
