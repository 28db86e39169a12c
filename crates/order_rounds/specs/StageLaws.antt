-- What stands after k rounds, and that each round adds what a round over the sets adds.
use Rattle.std.specs.Prelude.{Bool, ◌&&◌, ◌||◌, ◌≡◌, ℕ, suc, ◌+◌, ◌^◌, ◌≤◌, ◌<◌, min, get_or}
use Rattle.std.proofs.Math.Bool.{true, false, not, and-false}
use mathlib.Core.List.Memᴰ
use mathlib.Core.List.{List, [], ◌∷◌, ◌++◌}
use Rattle.std.proofs.Math.Path.{refl, sym, ap}
use Rattle.std.proofs.Common.{ap₂, ◌∙◌}
use native.Mathlib.Omega.{arith}
use borrow.Author.Tests.{eq-eqb, eqb-true, eqb-false, ltb-true, ltb-false, lt-ltb, le-ltb, not-true}
use Rattle.std.specs.Int.Bits.{bit_and}
use Rattle.std.proofs.lemmas.Nat.{and_le_l}
use Rattle.std.proofs.Math.Dec.{eqb, ltb}
use Rattle.std.proofs.Math.ListN.{length, length-append}
use Rattle.lists.specs.Lists.{In, all}
use Rattle.lists.specs.Tests.{by, never, same_test, not_so, and_left, and_right, any-in, any_of, any_none, all_in, all_of}
use Rattle.lists.specs.Appending.{any_append}
use Rattle.rows.specs.Rows.{has_bit}
use Rattle.rows.specs.RowLaws.{bit-none}
use Rattle.bitsets.specs.Bitsets.{members, less, first_bits}
use Rattle.bitsets.specs.BitLaws.{bit-both, bit-less, bit-first, bit_past, some-bit, below_of, in-below, in_members, members-of, members-none, members-below}
use Rattle.order_form.specs.Lists.{elem, elem-left, elem-right, elem-cases, below, below-is, below-same}
use Rattle.item_spread.specs.Spread.{United}
use Rattle.catalogue.specs.Layout.{parents_at}
use Rattle.catalogue.specs.declared.Catalogue.{Catalogue}
use Rattle.order_rounds.specs.Rounds.{all_listed_in, AllPlaced, ReadyIn, ChildrenPut, set_free, set_next, set_placed, set_final, AnySets}
use Rattle.order_rounds.specs.SetLaws.{next-is, count_most, rests}

-- a set with a number in it has a member
pub some-member : (x : ℕ) → x < 2 ^ 64 → (x ≡ 0 → ⊥) → 0 < length (members x)
unfolding has_bit
some-member x h e =
    let b = some-bit 64 x h e in
    longer (members x) (in_members x b.1 (eq-eqb _ _ b.2))
  where
    longer : {y : ℕ} (l : List ℕ) → In y l → 0 < length l
    longer [] i = absurd (Memᴰ.not-nil i)
    longer (z ∷ l) i = omega arith

-- a number of it
some_of : (x : ℕ) → x < 2 ^ 64 → (x ≡ 0 → ⊥) → (b : ℕ) × (b < 64) × (has_bit x b ≡ true)
unfolding has_bit
some_of x h e = let b = some-bit 64 x h e in (b.0, b.1, eq-eqb _ _ b.2)

and-small : (x y : ℕ) → x < 2 ^ 64 → bit_and x y < 2 ^ 64
and-small x y h = omega (arith, and_le_l x y)

-- the types of a set behind those placed are placed
pub appended-placed : (out new : List ℕ) (types : ℕ) → types < 2 ^ 64 → new ≡ out ++ members types → AllPlaced types new
appended-placed out new types m a = record {
  there = λ b h.
      let l : b < 64 = by (ltb b 64) (λ z. ltb-true b 64 z) (λ z. never h (bit_past 64 types b m (ltb-false b 64 z))) in
      ap (elem b) a ∙ elem-right b out (members types) (any-in (eqb b) (in_members types l h) (eq-eqb b b refl));
}

module _ (t : Catalogue) (n : ℕ) where
  -- after k rounds: the types placed, those that are ready now, and those that wait
  pub record Stage (k : ℕ) (out : List ℕ) (ready waiting : ℕ) : Type 0 where
    pub taken : out ≡ set_placed t n k
    pub frees : (a : ℕ) → has_bit ready a ≡ (ltb a n && set_free t (set_placed t n k) a)
    pub waits : (a : ℕ) → has_bit waiting a ≡ (ltb a n && not (elem a (set_placed t n k)))

  module _ (s : AnySets t n) where
    -- ---- round one

    no-parents : (x : ℕ) → x < 2 ^ 64 → all_listed_in x [] ≡ eqb x 0
    unfolding all_listed_in
    no-parents x h =
        by (eqb x 0)
        (λ e. rw e (ap (all (λ b. elem b [])) (members-none x (eqb-true x 0 e))))
        (λ e. rw e (some-fails (members x) (some-member x h (eqb-false x 0 e))))
      where
        some-fails : (l : List ℕ) → 0 < length l → all (λ b. elem b []) l ≡ false
        some-fails [] q = absurd (omega arith)
        some-fails (y ∷ l) q = refl

    pub stage-none : (out children : List ℕ) (r w : ℕ) → out ≡ [] → ChildrenPut t n children r → w ≡ first_bits n → Stage 0 out r w
    unfolding set_placed set_free
    stage-none out children r w z q e = record {
      taken = z;
      frees = λ a.
          q.free a
          ∙ by (ltb a n)
          (λ l.
          let h = ltb-true a n l in
          ap (λ (b : Bool). ltb a n && b) (sym (no-parents (parents_at t a) (s.most a h))))
          (λ l. rw l);
      waits = λ a.
          ap (λ (x : ℕ). has_bit x a) e
          ∙ bit-first n a
          ∙ ap (ltb a) (less-of n s.few)
          ∙ sym (all-wait (ltb a n));
    }
      where
        less-of : (x : ℕ) → x ≤ 64 → min x 64 ≡ x
        less-of x h = omega arith

        all-wait : (b : Bool) → (b && true) ≡ b
        all-wait true = refl
        all-wait false = refl

    -- ---- a further round

    pub next-members : (k : ℕ) (out : List ℕ) (ready waiting : ℕ) → Stage k out ready waiting → members ready ≡ set_next t n (set_placed t n k)
    unfolding set_next
    next-members k out ready waiting g =
        members-below ready n s.few (λ x h. g.frees x ∙ rw (le-ltb x n h))
        ∙ below-same (has_bit ready) (set_free t (set_placed t n k)) n (λ x h. g.frees x ∙ rw (lt-ltb x n h))

    -- there is room for it
    pub room : (k : ℕ) (out : List ℕ) (ready waiting : ℕ) → Stage k out ready waiting → length out + length (members ready) ≤ n
    unfolding set_placed
    room k out ready waiting g =
        omega (
          arith,
          ap length g.taken,
          ap length (next-members k out ready waiting g),
          length-append (set_placed t n k) (set_next t n (set_placed t n k)),
          count_most t n (suc k),
        )

    next-below : (k b : ℕ) → elem b (set_next t n (set_placed t n k)) ≡ true → b < n
    unfolding set_next
    next-below k b y = (below-is (set_free t (set_placed t n k)) n b y).0

    -- a type that is ready, and was not placed in the last round, has a parent that was
    one-was-last : (k ready : ℕ) → ((a : ℕ) → has_bit ready a ≡ (ltb a n && set_free t (set_placed t n k) a)) → (a : ℕ) → a < n → not (elem a (set_placed t n (suc k))) ≡ true
        → all_listed_in (parents_at t a) (set_placed t n (suc k)) ≡ true → eqb (bit_and (parents_at t a) ready) 0 ≡ false
    unfolding set_placed set_free all_listed_in
    one-was-last k ready f a h w e =
        not_so (λ z.
        let all-before : all (λ b. elem b (set_placed t n k)) (members (parents_at t a)) ≡ true =
        all_of (λ b. elem b (set_placed t n k)) (members (parents_at t a))
        (λ b i.
        elem-cases b (set_placed t n k) (set_next t n (set_placed t n k)) (all_in (λ c. elem c (set_placed t n k ++ set_next t n (set_placed t n k))) e i)
        (λ y. y)
        (λ y.
        let m = members-of (parents_at t a) i in
        let l = next-below k b y in
        let r : has_bit ready b ≡ true = f b ∙ rw (lt-ltb b n l) (sym (next-is t n (set_placed t n k) b l) ∙ y) in
        never (bit-both (parents_at t a) ready b ∙ rw (m.1, r)) (ap (λ (x : ℕ). has_bit x b) (eqb-true _ _ z) ∙ bit-none b))) in
        by (elem a (set_placed t n k))
        (λ y. never (elem-left a (set_placed t n k) (set_next t n (set_placed t n k)) y) (not-true _ w))
        (λ y.
        let c : elem a (set_next t n (set_placed t n k)) ≡ true = next-is t n (set_placed t n k) a h ∙ rw (y, all-before) in
        never (elem-right a (set_placed t n k) (set_next t n (set_placed t n k)) c) (not-true _ w)))

    elem-free : (k a : ℕ) → a < n → elem a (set_placed t n (suc k)) ≡ (elem a (set_placed t n k) || set_free t (set_placed t n k) a)
    unfolding set_placed
    elem-free k a h = any_append (eqb a) (set_placed t n k) (set_next t n (set_placed t n k)) ∙ ap (λ (b : Bool). elem a (set_placed t n k) || b) (next-is t n (set_placed t n k) a h)

    none-waits : (e f : Bool) → (not e && not f) ≡ not (e || f)
    none-waits true f = refl
    none-waits false f = refl

    waits-more : (l e f : Bool) → ((l && not e) && not (l && f)) ≡ (l && (not e && not f))
    waits-more true e f = refl
    waits-more false e f = refl

    kept-apart : (l e z r : Bool) → (e ≡ true → r ≡ true → z ≡ false) → (((l && e) && (l && not z)) && r) ≡ (l && (e && r))
    kept-apart false e z r h = refl
    kept-apart true false z r h = refl
    kept-apart true true z true h = rw (h refl refl)
    kept-apart true true z false h = and-false (not z)

    -- the children of the last round are the types that have a parent in it
    near-is : (children : List ℕ) (c ready x : ℕ) → ChildrenPut t n children c → United ready children x → (a : ℕ) → has_bit x a ≡ (ltb a n && not (eqb (bit_and (parents_at t a) ready) 0))
    near-is children c ready x p u a =
        u.bits a
        ∙ by (ltb a n)
        (λ l.
        let h = ltb-true a n l in
        rw l
        (same_test
        (λ e.
        let q = any_of (λ b. has_bit (get_or children b 0) a) (below (has_bit ready) 64) e in
        let m = below_of (has_bit ready) 64 q.1 in
        let w : has_bit (parents_at t a) q.0 ≡ true = sym (ap (λ (d : Bool). d && has_bit (parents_at t a) q.0) l) ∙ sym (p.bits q.0 a m.0) ∙ q.2 in
        ap not (not_so (λ z. never (bit-both (parents_at t a) ready q.0 ∙ rw (w, m.1)) (ap (λ (y : ℕ). has_bit y q.0) (eqb-true _ _ z) ∙ bit-none q.0))))
        (λ e.
        let z = eqb-false (bit_and (parents_at t a) ready) 0 (not-true _ e) in
        let b = some_of (bit_and (parents_at t a) ready) (and-small (parents_at t a) ready (s.most a h)) z in
        let w = sym (bit-both (parents_at t a) ready b.0) ∙ b.2 in
        any-in (λ d. has_bit (get_or children d 0) a) (in-below (has_bit ready) 64 b.1 (and_right (has_bit (parents_at t a) b.0) (has_bit ready b.0) w))
        (p.bits b.0 a b.1 ∙ rw (l, and_left (has_bit (parents_at t a) b.0) (has_bit ready b.0) w)))))
        (λ l.
        rw l
        (any_none (λ b. has_bit (get_or children b 0) a) (below (has_bit ready) 64)
        (λ b i. p.bits b a (below_of (has_bit ready) 64 i).0 ∙ ap (λ (d : Bool). d && has_bit (parents_at t a) b) l)))

    placed-more : (k : ℕ) → set_placed t n k ++ set_next t n (set_placed t n k) ≡ set_placed t n (suc k)
    unfolding set_placed
    placed-more k = refl

    free-as : (k a : ℕ) → (not (elem a (set_placed t n (suc k))) && all_listed_in (parents_at t a) (set_placed t n (suc k))) ≡ set_free t (set_placed t n (suc k)) a
    unfolding set_free
    free-as k a = refl

    pub stage-more : (k : ℕ) (out new children : List ℕ) (c ready waiting left near r : ℕ) → Stage k out ready waiting → new ≡ out ++ members ready
        → left ≡ less waiting ready → ChildrenPut t n children c → United ready children near → ReadyIn t (bit_and left near) new r → Stage (suc k) new r left
    stage-more k out new children c ready waiting left near r g o e v u q =
        let m = next-members k out ready waiting g in
        let taken : new ≡ set_placed t n (suc k) = o ∙ ap₂ (λ (x y : List ℕ). x ++ y) g.taken m ∙ placed-more k in
        let waits : (a : ℕ) → has_bit left a ≡ (ltb a n && not (elem a (set_placed t n (suc k)))) =
        λ a.
        ap (λ (x : ℕ). has_bit x a) e
        ∙ bit-less waiting ready a
        ∙ ap₂ (λ (x y : Bool). x && not y) (g.waits a) (g.frees a)
        ∙ waits-more (ltb a n) (elem a (set_placed t n k)) (set_free t (set_placed t n k) a)
        ∙ by (ltb a n)
        (λ l. rw l (none-waits (elem a (set_placed t n k)) (set_free t (set_placed t n k) a) ∙ ap not (sym (elem-free k a (ltb-true a n l)))))
        (λ l. rw l) in
        record {
          taken = taken;
          waits = waits;
          frees = λ a.
              q.bits a
              ∙ ap₂ (λ (x : Bool) (y : List ℕ). x && all_listed_in (parents_at t a) y) (bit-both left near a ∙ ap₂ (λ (x y : Bool). x && y) (waits a) (near-is children c ready near v u a)) taken
              ∙ by (ltb a n)
              (λ l.
              let h = ltb-true a n l in
              kept-apart (ltb a n) (not (elem a (set_placed t n (suc k)))) (eqb (bit_and (parents_at t a) ready) 0) (all_listed_in (parents_at t a) (set_placed t n (suc k)))
              (λ w c. one-was-last k ready g.frees a h w c)
              ∙ ap (λ (b : Bool). ltb a n && b) (free-as k a))
              (λ l. rw l);
        }

    -- ---- the last round

    pub stage-end : (k : ℕ) (out : List ℕ) (ready waiting : ℕ) → Stage k out ready waiting → ready ≡ 0 → k ≤ length out → out ≡ set_final t n
    unfolding set_final
    stage-end k out ready waiting g e h =
        let none : set_next t n (set_placed t n k) ≡ [] = sym (next-members k out ready waiting g) ∙ members-none ready e in
        g.taken ∙ sym (rests t n k n (omega (arith, ap length g.taken, count_most t n k)) none)
