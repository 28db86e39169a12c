-- In the order each parent stands before its children.
use Rattle.std.specs.Prelude.{true, not, List, ◌++◌, ◌≡◌, refl, ltb, take}
use Rattle.std.proofs.Math.Bool.{false}
use Rattle.std.proofs.Common.{sym, take_all}
use Rattle.std.proofs.Math.Path.{subst}
use Prim.Native.Nat.{ℕ, zero, suc, ◌+◌, ◌-◌, ◌≤◌, ◌<◌}
use native.Mathlib.Omega.{arith}
use borrow.Author.Tests.{ltb-true, ltb-false}
use Rattle.std.proofs.Math.ListN.{length, get_or, length-append, get_or-append}
use Rattle.std.proofs.lemmas.List.{take-append-le}
use Rattle.std.proofs.Math.Seq.{take-append-add, get_or-append-add}
use Rattle.lists.specs.Lists.{In, any}
use Rattle.order_form.specs.Lists.{all-imp, elem, elem-left, elem_at, any-tab-out, below-is}
use Rattle.order_form.specs.Reading.{listed, self_in}
use Rattle.order_form.specs.declared.Parent.{Parent}
use Rattle.order_form.specs.Rounds.{settled, is_ready, free, next, round, placed, final, lists_self, earlier, count-full}
use Rattle.order_form.specs.declared.Parents.{Parents}
use Rattle.lists.specs.Tests as tests
use Rattle.lists.specs.Tests.{by, never, and_right, or_elim, or_left, or_right}
use Rattle.law_parents.specs.Placed.{ParentsBelow}

-- a type is ready for what stands before it
module _ (p : Parents) where
  more-ready : (a b : List ℕ) (t : ℕ) → is_ready p a t ≡ true → is_ready p (a ++ b) t ≡ true
  unfolding is_ready
  more-ready a b t e =
      all-imp (settled p a) (settled p (a ++ b)) (listed p t)
      (λ q s.
      or_elim (self_in p q) (elem q.place a) s
      (λ h. or_left (elem q.place (a ++ b)) h)
      (λ h. or_right (self_in p q) (elem-left q.place a b h)))
      e

  get-elem : (l : List ℕ) (i : ℕ) → i < length l → elem (get_or l i 0) l ≡ true
  get-elem l i h = subst (λ k. elem (get_or l i 0) k ≡ true) (take_all (length l) l (omega arith)) (elem_at (get_or l i 0) l (length l) i h h refl)

  next-ready : (k j : ℕ) → j < length (next p (placed p k)) → is_ready p (placed p k) (get_or (next p (placed p k)) j 0) ≡ true
  unfolding next free
  next-ready k j h =
      let t = get_or (next p (placed p k)) j 0 in
      and_right (not (elem t (placed p k))) (is_ready p (placed p k) t) (below-is (free p (placed p k)) p.count t (get-elem (next p (placed p k)) j h)).1

  at_ready : (k i : ℕ) → i < length (placed p k) → is_ready p (take i (placed p k)) (get_or (placed p k) i 0) ≡ true
  unfolding placed round
  at_ready zero i h = absurd (omega arith)
  at_ready (suc k) i h =
      let a = placed p k in
      let b = next p (placed p k) in
      by (ltb i (length a))
      (λ e.
      let l : i < length a = ltb-true i (length a) e in
      rw (take-append-le i a b (omega arith), get_or-append a b 0 i l) (at_ready k i l))
      (λ e.
      let l : length a ≤ i = ltb-false i (length a) e in
      let z : i ≡ length a + (i - length a) = omega arith in
      let j : i - length a < length b = omega (arith, length-append a b) in
      subst (λ (n : ℕ). is_ready p (take n (a ++ b)) (get_or (a ++ b) n 0) ≡ true) (sym z)
      (rw (take-append-add a b (i - length a), get_or-append-add a b (i - length a) 0) (more-ready a (take (i - length a) b) _ (next-ready k (i - length a) j))))

  final-ready : (i : ℕ) → i < length (final p) → is_ready p (take i (final p)) (get_or (final p) i 0) ≡ true
  unfolding final
  final-ready i h = at_ready p.count i h

  final-below : (t : ℕ) → elem t (final p) ≡ true → t < p.count
  unfolding final
  final-below t e = (earlier p p.count t e).0

  pub at-below : (i : ℕ) → i < length (final p) → get_or (final p) i 0 < p.count
  at-below i h = final-below (get_or (final p) i 0) (get-elem (final p) i h)

  -- each parent of the type at i stands before i
  pub parent-earlier : lists_self p ≡ false → (i : ℕ) → i < length (final p) → (q : Parent) → In q (listed p (get_or (final p) i 0)) → elem q.place (take i (final p)) ≡ true
  unfolding is_ready lists_self
  parent-earlier n i h q j =
      let t = get_or (final p) i 0 in
      let s : any (self_in p) (listed p t) ≡ false = any-tab-out (listed p) (λ l. any (self_in p) l) p.count t n (at-below i h) in
      or_elim (self_in p q) (elem q.place (take i (final p))) (tests.all_in (settled p (take i (final p))) (final-ready i h) j)
      (λ e. never e (tests.any-not (self_in p) s j))
      (λ e. e)

  -- so the parents of every type are declared
  pub all-below : length (final p) ≡ p.count → lists_self p ≡ false → (t : ℕ) → t < p.count → ParentsBelow p t
  unfolding final is_ready lists_self
  all-below e n t h =
      let k = p.count in
      let s : any (self_in p) (listed p t) ≡ false = any-tab-out (listed p) (λ l. any (self_in p) l) p.count t n h in
      record {
        lower = λ q j.
            or_elim (self_in p q) (elem q.place (placed p k)) (tests.all_in (settled p (placed p k)) (earlier p k t (count-full p k e t h)).1 j)
            (λ f. never f (tests.any-not (self_in p) s j))
            (λ f. (earlier p k q.place f).0);
      }
