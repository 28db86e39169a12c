-- What is held while the parents of a type are tried, when it is pushed, and when all types were tried.
use Rattle.std.specs.Prelude.{Bool, false, ◌&&◌, ◌||◌, ◌≡◌, ℕ, zero, suc, ◌+◌, ◌≤◌, ◌<◌, eqb}
use Rattle.std.proofs.Math.Bool.{true, not, or-false, and-true}
use mathlib.Core.List.Memᴰ
use mathlib.Core.List.{List, [], ◌∷◌, ◌++◌, map}
use Rattle.std.proofs.Common.{⊎_elim, ◌∙◌, add-one, length-append}
use Rattle.std.proofs.Math.Path.{refl, sym, ap, ap₂, subst}
use native.Mathlib.Omega.{arith}
use borrow.Author.Tests.{eqb-true, eqb-false, eq-eqb, ne_eqb}
use Rattle.std.proofs.Math.ListN.{get_or, take}
use Rattle.std.proofs.Math.Seq.{take-append_seam}
use Rattle.bounded.specs.Items.{item-old, item-new}
use Rattle.lists.specs.Lists.{In}
use Rattle.lists.specs.Tests.{by, never, not_so}
use Rattle.rows.specs.Rows.{has_bit}
use Rattle.rows.specs.RowLaws.{bit-none}
use Rattle.order_form.specs.Lists.{tab, tab-length, tab-step, tab-at, tab-split, elem, tab-same, map-tab}
use Rattle.order_form.specs.Reading.{parent_at, how_many, listed}
use Rattle.order_form.specs.declared.Parent.{Parent}
use Rattle.order_form.specs.declared.Parents.{Parents}
use Rattle.law_parents.specs.Earlier.{all-below}
use Rattle.synth_visiting.specs.Walk.{Stop, spots, walk_all, walk, walk_each}
use Rattle.synth_visiting.specs.Trails.{Orderly, zero_arrival, item_at, TrailOf}
use Rattle.synth_visiting.specs.Ranks.{rank_of, rank_below, rank-parent}
use Rattle.synth_visiting.specs.Good.{Standing, Good, good-most, good-all, good_more, elem-more, walk-seen, walk-new, spots-more, WalksAll, walks-all, walks}
use Rattle.synth_visiting.specs.Follows.{as_reached, trail_is}
use Rattle.synth_visiting.specs.Holding.{Marked, Pushed, NothingHeld, stop_at, stops_in, Held, ReachedFrom, spots-are, spots-count, held_none}
use Rattle.synth_visiting.specs.declared.Arrival.{Arrival}
use Rattle.synth_visiting.specs.declared.Trail.{Trail}

-- one parent more
walk_more : (call : ℕ → List Stop → List Stop) (qs : List Parent) (q : Parent) (l : List Stop) (fs : List Bool)
    → walk_all call (qs ++ (q ∷ [])) l fs ≡ walk_all call (q ∷ []) (walk_all call qs l fs).0 (walk_all call qs l fs).1
unfolding walk_all
walk_more call [] q l fs = refl
walk_more call (y ∷ qs) q l fs =
    walk_more call qs q (call y.place l) (fs ++ ((not (elem y.place (spots l)) && elem y.place (spots (call y.place l))) ∷ []))

-- the first i parents of t were tried, from the trail s
pub record Going (p : Parents) (t : ℕ) (s : Trail) (i : ℕ) (now : Trail) (flags : ℕ) : Type 0 where
  pub held : Held p now
  pub clean : (j : ℕ) → i ≤ j → has_bit flags j ≡ false
  pub same : (k : ℕ) → rank_of p t ≤ k → walk_all (walk k p) (tab (λ j. parent_at p t j) i) (stops_in p s) [] ≡ (stops_in p now, tab (has_bit flags) i)

-- the first n types were tried
pub record Trying (p : Parents) (n : ℕ) (s : Trail) : Type 0 where
  pub held : Held p s
  pub has : (t : ℕ) → t < n → elem t (spots (stops_in p s)) ≡ true
  pub same : stops_in p s ≡ walk_each p.count p n

module _ (p : Parents) (o : Orderly p) where
  -- ---- one place more

  stop-of : Arrival → Stop
  stop-of x = record { place = x.place; fresh = tab (has_bit x.fresh) (how_many p x.place) }

  stops-more : (s r : Trail) (t flags : ℕ) → Pushed s t flags r
      → stops_in p r ≡ stops_in p s ++ (record { place = t; fresh = tab (has_bit flags) (how_many p t) } ∷ [])
  unfolding stops_in stop-of
  stops-more s r t flags u =
      let x : Arrival = record { place = t; fresh = flags } in
      ap (tab (stop_at p r)) u.count
      ∙ tab-step (stop_at p r) s.arrivals.count
      ∙ ap₂ (λ (a : List Stop) (y : Stop). a ++ (y ∷ []))
      (tab-same (stop_at p r) (stop_at p s) s.arrivals.count (λ i l. ap stop-of (item-old s.arrivals r.arrivals x zero_arrival u.items i l)))
      (ap stop-of (item-new s.arrivals r.arrivals x zero_arrival u.items))

  pub held_more : (s r : Trail) (t flags : ℕ) → Held p s → Standing p (spots (stops_in p s)) t → Pushed s t flags r → Held p r
  held_more s r t flags g a u =
      let z : spots (stops_in p r) ≡ spots (stops_in p s) ++ (t ∷ []) = ap spots (stops-more s r t flags u) ∙ spots-more (stops_in p s) t (tab (has_bit flags) (how_many p t)) in
      record {
        good = subst (Good p) (sym z) (good_more p (spots (stops_in p s)) t g.good a);
        seen = λ x. u.seen x ∙ ap (λ (b : Bool). b || eqb t x) (g.seen x) ∙ sym (elem-more x t (spots (stops_in p s))) ∙ ap (elem x) (sym z);
      }

  -- a place that may stand behind those held has room
  pub room : (s : Trail) (t : ℕ) → Held p s → Standing p (spots (stops_in p s)) t → s.arrivals.count < p.count
  room s t g a =
      let l = spots (stops_in p s) in
      omega (arith, good-most p (l ++ (t ∷ [])) (good_more p l t g.good a), length-append l (t ∷ []), spots-count p s)

  -- ---- the parents of t, one after the other

  module _ (t : ℕ) (type : t < p.count) (s : Trail) where
    abbrev parent : ℕ → Parent
    parent i = parent_at p t i

    abbrev Goes : ℕ → Trail → ℕ → Type 0
    Goes i now flags = Going p t s i now flags

    pub going-none : Held p s → Goes 0 s 0
    going-none h = record { held = h; clean = λ j l. bit-none j; same = λ k l. unfold walk_all in refl }

    parent_listed : (i : ℕ) → i < how_many p t → In (parent i) (listed p t)
    unfolding listed
    parent_listed i h =
        let a = tab-split parent (how_many p t) i h in
        subst (In (parent i)) (sym a.1) (Memᴰ.append_right (tab parent i) (Memᴰ.head refl))

    -- a parent is a type, and stands before t in the order
    pub parent-rank : (i : ℕ) → i < how_many p t → ((parent i).place < p.count) × (rank_of p (parent i).place < rank_of p t)
    parent-rank i h = rank-parent p o t type (parent i) (parent_listed i h)

    pub going_more : (i : ℕ) (now next : Trail) (flags more : ℕ) → i < how_many p t → Goes i now flags → Marked flags i now.seen (parent i).place more
        → ReachedFrom p (parent i).place now next → Goes (i + 1) next more
    unfolding walk_all
    going_more i now next flags more h g b w =
        let q = (parent i).place in
        record {
          held = w.held;
          clean = λ j l. b.bits j ∙ ap₂ (λ (x y : Bool). x || (y && not (has_bit now.seen q))) (g.clean j (omega arith)) (ne_eqb i j (λ e. omega arith));
          same = λ k l.
              let r = parent-rank i h in
              let z : stops_in p next ≡ walk k p q (stops_in p now) = w.same k (omega (arith, r.1)) in
              let old : tab (has_bit flags) i ≡ tab (has_bit more) i =
              tab-same (has_bit flags) (has_bit more) i
              (λ j m. sym (b.bits j ∙ ap (λ (y : Bool). has_bit flags j || (y && not (has_bit now.seen q))) (ne_eqb i j (λ e. omega arith)) ∙ or-false (has_bit flags j))) in
              let now-seen : has_bit more i ≡ not (elem q (spots (stops_in p now))) =
              b.bits i
              ∙ ap₂ (λ (x y : Bool). x || (y && not (has_bit now.seen q))) (g.clean i (omega arith)) (eq-eqb i i refl)
              ∙ ap not (g.held.seen q) in
              let flag : (not (elem q (spots (stops_in p now))) && elem q (spots (walk k p q (stops_in p now)))) ≡ has_bit more i =
              ap (λ (x : Bool). not (elem q (spots (stops_in p now))) && x) (walks p o k q r.0 (omega (arith, r.1)) (stops_in p now) g.held.good).has
              ∙ and-true (not (elem q (spots (stops_in p now))))
              ∙ sym now-seen in
              ap (λ (qs : List Parent). walk_all (walk k p) qs (stops_in p s) []) (tab-step parent i)
              ∙ walk_more (walk k p) (tab parent i) (parent i) (stops_in p s) []
              ∙ ap (λ (x : List Stop × List Bool). walk_all (walk k p) (parent i ∷ []) x.0 x.1) (g.same k l)
              ∙ ap₂ (λ (x : List Stop) (y : List Bool). (x, y)) (sym z)
              (ap₂ (λ (x : List Bool) (y : Bool). x ++ (y ∷ [])) old flag ∙ sym (tab-step (has_bit more) i));
        }

    -- all parents were tried
    all_same : (i : ℕ) (now : Trail) (flags : ℕ) → i ≡ how_many p t → Goes i now flags → (k : ℕ) → rank_of p t ≤ k
        → walk_all (walk k p) (listed p t) (stops_in p s) [] ≡ (stops_in p now, tab (has_bit flags) (how_many p t))
    unfolding listed
    all_same i now flags e g k l = subst (λ (n : ℕ). walk_all (walk k p) (tab parent n) (stops_in p s) [] ≡ (stops_in p now, tab (has_bit flags) n)) e (g.same k l)

    -- t may stand behind its parents
    pub going-standing : (i : ℕ) (now : Trail) (flags : ℕ) → i ≡ how_many p t → Held p s → has_bit s.seen t ≡ false → Goes i now flags → Standing p (spots (stops_in p now)) t
    going-standing i now flags e h n g =
        let k = rank_of p t in
        let w = walks-all p o (walk k p) k (walks p o k) (listed p t) (rank-parent p o t type) (stops_in p s) [] h.good in
        let z : (walk_all (walk k p) (listed p t) (stops_in p s) []).0 ≡ stops_in p now = ap (λ (x : List Stop × List Bool). x.0) (all_same i now flags e g k (omega arith)) in
        let v : WalksAll p o k (listed p t) (stops_in p s) (stops_in p now) = subst (WalksAll p o k (listed p t) (stops_in p s)) z w in
        record {
          type = type;
          new = not_so (λ q. ⊎_elim (λ f. never f (sym (h.seen t) ∙ n)) (λ (f : rank_of p t < rank_of p t). omega arith) (v.only t q));
          ready = v.has;
        }

    pub reached-new : (i : ℕ) (now r : Trail) (flags : ℕ) → i ≡ how_many p t → Held p s → has_bit s.seen t ≡ false → Goes i now flags → Pushed now t flags r → ReachedFrom p t s r
    reached-new i now r flags e h n g u =
        let a = going-standing i now flags e h n g in
        record { held = held_more now r t flags g.held a u; same = new-same }
      where
        new-same : (k : ℕ) → rank_of p t < k → stops_in p r ≡ walk k p t (stops_in p s)
        new-same zero l = absurd (omega arith)
        new-same (suc k) l =
            stops-more now r t flags u
            ∙ sym
            (walk-new k p t (stops_in p s) (sym (h.seen t) ∙ n)
            ∙ ap (λ (x : List Stop × List Bool). x.0 ++ (record { place = t; fresh = x.1 } ∷ [])) (all_same i now flags e g k (omega arith)))

    pub reached-seen : Held p s → has_bit s.seen t ≡ true → ReachedFrom p t s s
    reached-seen h e = record { held = h; same = seen_same }
      where
        seen_same : (k : ℕ) → rank_of p t < k → stops_in p s ≡ walk k p t (stops_in p s)
        seen_same zero l = absurd (omega arith)
        seen_same (suc k) l = sym (walk-seen k p t (stops_in p s) (sym (h.seen t) ∙ e))

  -- ---- the types in turn

  pub trying-none : (r : Trail) → NothingHeld r → Trying p 0 r
  unfolding walk_each stops_in
  trying-none r n = record { held = held_none p r n; has = λ t l. absurd (omega arith); same = ap (tab (stop_at p r)) n.count }

  pub trying-more : (n : ℕ) (s r : Trail) → n < p.count → Trying p n s → ReachedFrom p n s r → Trying p (n + 1) r
  unfolding walk_each
  trying-more n s r h d w =
      let z : stops_in p r ≡ walk p.count p n (stops_in p s) = w.same p.count (rank_below p o n h) in
      let c = walks p o p.count n h (rank_below p o n h) (stops_in p s) d.held.good in
      record {
        held = w.held;
        has = λ t l.
            ap (λ (k : List Stop). elem t (spots k)) z
            ∙ by (eqb t n)
            (λ e. subst (λ (x : ℕ). elem x (spots (walk p.count p n (stops_in p s))) ≡ true) (sym (eqb-true t n e)) c.has)
            (λ e. c.keeps t (d.has t (omega (arith, eqb-false t n e))));
        same = z ∙ ap (walk p.count p n) d.same ∙ rw (add-one n);
      }

  tab-first : (f : ℕ → ℕ) (n i : ℕ) → i < n → take i (tab f n) ≡ tab f i
  tab-first f n i h =
      let r = tab-split f n i h in
      ap (take i) r.1 ∙ ap (λ (k : ℕ). take k (tab f i ++ f i ∷ r.0)) (sym (tab-length f i)) ∙ take-append_seam (tab f i) (f i ∷ r.0)

  pub tried-all : (count : ℕ) (s : Trail) → count ≡ p.count → Trying p count s → TrailOf p s
  unfolding stops_in
  tried-all count s e d =
      let g = d.held in
      let all : (t : ℕ) → t < p.count → elem t (spots (stops_in p s)) ≡ true = λ t l. d.has t (omega arith) in
      let n = s.arrivals.count in
      let z : spots (stops_in p s) ≡ tab (item_at s) n = spots-are p s in
      let at : (i : ℕ) → i < n → Standing p (tab (item_at s) i) (item_at s i) = λ i l.
      subst (λ (a : List ℕ). Standing p a (item_at s i)) (tab-first (item_at s) n i l)
      (subst (Standing p (take i (tab (item_at s) n))) (tab-at (item_at s) n i 0 l)
      (subst (λ (a : List ℕ). Standing p (take i a) (get_or a i 0)) z (g.good.at i (omega (arith, spots-count p s))))) in
      record {
        count = sym (spots-count p s) ∙ good-all p (spots (stops_in p s)) g.good all;
        below = λ i l. (at i l).type;
        once = λ i l. (at i l).new;
        ready = λ i l. (at i l).ready;
        whole = λ t l. ap (elem t) (sym z) ∙ all t l;
        reached = λ m r.
            trail_is p m r (λ t l. all-below p o.whole o.no_self t l)
            ∙ ap (map (as_reached m)) (ap (walk_each p.count p) (sym e) ∙ sym d.same)
            ∙ map-tab (as_reached m) (stop_at p s) s.arrivals.count;
      }
