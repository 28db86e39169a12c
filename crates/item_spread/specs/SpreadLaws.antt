-- The walk over a set, and the walk down the order.
use Rattle.std.specs.Prelude.{Bool, true, false, ◌&&◌, ◌||◌, not, List, [], map, ◌≡◌, refl, ℕ, ◌+◌, ◌^◌, ◌≤◌, ◌<◌, eqb, ltb, length, get_or, take, set}
use Rattle.std.proofs.Math.Bool.{or-false, or_assoc, and-false, and-true}
use Rattle.std.proofs.Common.{sym, ◌∙◌, subst, arith, eqb-true, ltb-true, ltb-false, lt-ltb, le-ltb, get_or-set_same, get_or-set_other}
use Rattle.std.proofs.Math.Path.{ap, ap₂}
use Rattle.std.proofs.lemmas.Bool.{eqb-false}
use Rattle.std.specs.Int.Bits.{bit_and, bit_or}
use Rattle.lists.specs.Lists.{In, any, filter}
use Rattle.lists.specs.Tests.{by, never, same_test, or_elim, any-in, any_of, filter-in, filter-of}
use Rattle.lists.specs.Places.{get_d-in}
use Rattle.rows.specs.Rows.{has_bit}
use Rattle.rows.specs.RowLaws.{bit-either, bit-none}
use Rattle.rows.specs.Next.{NextBit}
use Rattle.order_form.specs.Lists.{elem, elem-step, below, below_none, below-same}
use Rattle.bitsets.specs.Bitsets.{members, Lowest, Rest, more}
use Rattle.bitsets.specs.BitLaws.{below_of, in-below, members-next, bit-more}
use Rattle.definitions.specs.Records.{Sheet}
use Rattle.definitions.specs.Map.{LineType, LineMap}
use Rattle.definitions.specs.Items.{parents_of}
use Rattle.law_lines.specs.Statements.{Readable, line_map}
use Rattle.law_lines.specs.Declarations.{type-of}
use Rattle.law_classes.specs.Sets.{both, some, masked, above_set, passed_set, no_type, type_at, SetIs}
use Rattle.law_classes.specs.Numbers.{place-of, Fits}
use Rattle.law_classes.specs.Walks.{passing-walked}
use Rattle.law_classes.proofs.ItemLaws.{above-unrolls}
use Rattle.item_spread.specs.Spread.{United, Ordered, Starts, Right, Spread, WithIf, Passing}

-- ---- one set

-- what is united so far and what is left make up the whole
pub record UnitedTo (types : ℕ) (passed : List ℕ) (out left : ℕ) : Type 0 where
  pub most : left < 2 ^ 64
  pub bits : (d : ℕ) → (has_bit out d || any (λ p. has_bit (get_or passed p 0) d) (below (has_bit left) 64)) ≡ any (λ p. has_bit (get_or passed p 0) d) (below (has_bit types) 64)

pub united-none : (types : ℕ) (passed : List ℕ) → types < 2 ^ 64 → UnitedTo types passed 0 types
united-none types passed h = record { most = h; bits = λ d. ap (λ b. b || any (λ p. has_bit (get_or passed p 0) d) (below (has_bit types) 64)) (bit-none d) }

-- a set is its lowest type and the rest
any-rest : (g : ℕ → Bool) (x k r : ℕ) → Lowest x k → Rest x r → any g (below (has_bit x) 64) ≡ (g k || any g (below (has_bit r) 64))
unfolding members
any-rest g x k r w t = ap (any g) (members-next x k r w t)

pub united-more : (types : ℕ) (passed : List ℕ) (out left p r : ℕ) → UnitedTo types passed out left → Lowest left p → Rest left r
    → UnitedTo types passed (bit_or out (get_or passed p 0)) r
united-more types passed out left p r u w t =
    record {
      most = omega (arith, u.most, t.less);
      bits = λ d.
          let g : ℕ → Bool = λ q. has_bit (get_or passed q 0) d in
          ap (λ b. b || any g (below (has_bit r) 64)) (bit-either out (get_or passed p 0) d)
          ∙ or_assoc (has_bit out d) (g p) (any g (below (has_bit r) 64))
          ∙ ap (λ b. has_bit out d || b) (sym (any-rest g left p r w t))
          ∙ u.bits d;
    }

pub united-all : (types : ℕ) (passed : List ℕ) (out left : ℕ) → left ≡ 0 → UnitedTo types passed out left → United types passed out
united-all types passed out left e u =
    record {
      bits = λ d.
          let g : ℕ → Bool = λ q. has_bit (get_or passed q 0) d in
          let z : below (has_bit left) 64 ≡ [] = below_none (has_bit left) 64 (λ x h. ap (λ (y : ℕ). has_bit y x) e ∙ bit-none x) in
          sym (or-false (has_bit out d)) ∙ ap (λ (l : List ℕ). has_bit out d || any g l) (sym z) ∙ u.bits d;
    }

-- ---- one type

module _ (s : Sheet) (ok : Readable s) (parents given : List ℕ) (st : Starts s parents given) where
  abbrev m : LineMap
  m = line_map s

  abbrev n : ℕ
  n = length m.types

  -- a set whose parents have theirs
  module _ (t : ℕ) (h : t < n) (passed : List ℕ) (row : ℕ) (u : United (get_or parents t 0) passed row)
      (ready : (p : ℕ) → p < n → has_bit (get_or parents t 0) p ≡ true → SetIs m (get_or passed p 0) (passed_set m (type_at m p))) where
    abbrev T : LineType
    T = type_at m t

    -- the parents by their places
    direct-in : (p : ℕ) → p < n → has_bit (get_or parents t 0) p ≡ true → In (type_at m p) (parents_of m T)
    unfolding parents_of
    direct-in p k e = filter-in (λ (P : LineType). T.inherits P.name) (get_d-in m.types no_type p k) (sym (st.parents t h p k) ∙ e)

    direct_of : (P : LineType) → In P (parents_of m T) → (p : ℕ) × (p < n) × (has_bit (get_or parents t 0) p ≡ true) × (type_at m p ≡ P)
    unfolding parents_of
    direct_of P i =
        let x = filter-of (λ (P : LineType). T.inherits P.name) m.types i in
        let p = place-of no_type P m.types x.0 in
        (p.0, p.1, st.parents t h p.0 p.1 ∙ ap (λ (P : LineType). T.inherits P.name) p.2 ∙ x.1, p.2)

    unrolled : (D : LineType) → above_set m T D ≡ any (λ P. passed_set m P D) (parents_of m T)
    unrolled D =
        let x = type-of s (get_d-in m.types no_type t h) in
        subst (λ T. above_set m T D ≡ any (λ P. passed_set m P D) (parents_of m T)) x.2 (above-unrolls s ok x.0 D)

    above-right : SetIs m row (above_set m T)
    above-right d k =
        let D = type_at m d in
        let f : ℕ → Bool = has_bit (get_or parents t 0) in
        let g : ℕ → Bool = λ p. has_bit (get_or passed p 0) d in
        u.bits d
        ∙ same_test
        (λ e.
        let x = any_of g (below f 64) e in
        let b = below_of f 64 x.1 in
        by (ltb x.0 n)
        (λ l.
        let q = ltb-true x.0 n l in
        any-in (λ P. passed_set m P D) (direct-in x.0 q b.1) (sym (ready x.0 q b.1 d k) ∙ x.2))
        (λ l. never b.1 (st.within t x.0 h (ltb-false x.0 n l))))
        (λ e.
        let x = any_of (λ P. passed_set m P D) (parents_of m T) e in
        let p = direct_of x.0 x.1 in
        any-in g (in-below f 64 (omega (arith, p.1, st.few)) p.2) (ready p.0 p.1 p.2 d k ∙ ap (λ P. passed_set m P D) p.3 ∙ x.2))
        ∙ sym (unrolled D)

    pub right-one : Right s row (bit_or (get_or given t 0) row) t
    unfolding passed_set
    right-one = record {
      above = above-right;
      passed = λ d k. bit-either (get_or given t 0) row d ∙ ap₂ (λ a b. a || b) (st.given t h d k) (above-right d k);
    }

-- ---- down the order

pub spread_none : (order parents given above passed : List ℕ) → Spread order 0 parents given above passed
spread_none order parents given above passed = record { right = λ s ok st t h e. never e refl }

pub spread-more : (order : List ℕ) (count : ℕ) (parents given above passed : List ℕ) (i t row : ℕ) → Ordered order count parents → 64 ≤ length above → 64 ≤ length passed
    → i < count → t ≡ get_or order i 0 → United (get_or parents t 0) passed row → Spread order i parents given above passed
    → Spread order (i + 1) parents given (set above t row) (set passed t (bit_or (get_or given t 0) row))
spread-more order count parents given above passed i t row o la lp h z u d =
    let small : t < 64 = rw z (o.place i h) in
    record {
      right = λ s ok st x k e.
          by (eqb x t)
          (λ q.
          rw (eqb-true x t q, get_or-set_same above t row 0 (omega arith), get_or-set_same passed t (bit_or (get_or given t 0) row) 0 (omega arith))
          (right-one s ok parents given st t (subst (λ y. y < length (line_map s).types) (eqb-true x t q) k) passed row u
          (λ p l b. (d.right s ok st p l (o.before i p h (omega (arith, st.few)) (subst (λ y. has_bit (get_or parents y 0) p ≡ true) z b))).passed)))
          (λ q.
          rw (get_or-set_other above t x row 0 (eqb-false x t q), get_or-set_other passed t x (bit_or (get_or given t 0) row) 0 (eqb-false x t q))
          (d.right s ok st x k
          (or_elim (elem x (take i order)) (eqb x (get_or order i 0)) (sym (elem-step x order i (omega (arith, o.room))) ∙ e) (λ f. f) (λ f. never f (rw (← z) q)))));
    }

-- ---- the parents that pass a word on

pub with_none : (types p : ℕ) (met : Bool) → met ≡ false → WithIf types p met types
with_none types p met e = record { bits = λ a. sym (rw e (ap (λ b. has_bit types a || b) (and-false (eqb p a)) ∙ or-false (has_bit types a))) }

pub with_one : (types p : ℕ) (met : Bool) → met ≡ true → WithIf types p met (more types p)
with_one types p met e = record { bits = λ a. bit-more types p a ∙ ap (λ b. has_bit types a || b) (sym (rw e (and-true (eqb p a)))) }

-- the parents below p; p is the next
pub record PassingTo (parents : ℕ) (passed : List ℕ) (mask out p : ℕ) : Type 0 where
  pub most : p ≤ 64
  pub live : p < 64 → has_bit parents p ≡ true
  pub bits : (a : ℕ) → has_bit out a ≡ (ltb a p && (has_bit parents a && not (eqb (bit_and (get_or passed a 0) mask) 0)))

module _ (parents : ℕ) (passed : List ℕ) (mask : ℕ) where
  abbrev meets : ℕ → Bool
  meets a = has_bit parents a && not (eqb (bit_and (get_or passed a 0) mask) 0)

  -- from a number to the next nothing is missed
  skip : (from to a : ℕ) → NextBit parents from to → (ltb a from && meets a) ≡ (ltb a to && meets a)
  skip from to a n =
      by (ltb a from)
      (λ e. let l = ltb-true a from e in rw (e, lt-ltb a to (omega (arith, n.least))))
      (λ e.
      let l = ltb-false a from e in
      by (ltb a to)
      (λ t. rw (e, t, n.none a l (ltb-true a to t)))
      (λ t. rw (e, t)))

  pub passing-none : (p : ℕ) → NextBit parents 0 p → PassingTo parents passed mask 0 p
  passing-none p n = record { most = n.most; live = n.some; bits = λ a. bit-none a ∙ sym (ap (λ b. b && meets a) (le-ltb a 0 (omega arith))) ∙ skip 0 p a n }

  pub passing-more : (out p r next : ℕ) → p < 64 → PassingTo parents passed mask out p → WithIf out p (not (eqb (bit_and (get_or passed p 0) mask) 0)) r → NextBit parents (p + 1) next
      → PassingTo parents passed mask r next
  passing-more out p r next h u w n =
      record {
        most = n.most;
        live = n.some;
        bits = λ a. w.bits a ∙ ap (λ b. b || (eqb p a && not (eqb (bit_and (get_or passed p 0) mask) 0))) (u.bits a) ∙ step a ∙ skip (p + 1) next a n;
      }
    where
      step : (a : ℕ) → ((ltb a p && meets a) || (eqb p a && not (eqb (bit_and (get_or passed p 0) mask) 0))) ≡ (ltb a (p + 1) && meets a)
      step a =
          by (eqb p a)
          (λ e.
          let z : p ≡ a = eqb-true p a e in
          let x : ltb a p ≡ false = le-ltb a p (omega arith) in
          let y : ltb a (p + 1) ≡ true = lt-ltb a (p + 1) (omega arith) in
          let g : has_bit parents a ≡ true = subst (λ q. has_bit parents q ≡ true) z (u.live h) in
          rw (e, x, y, g) (ap (λ (q : ℕ). not (eqb (bit_and (get_or passed q 0) mask) 0)) z))
          (λ e.
          let z = eqb-false p a e in
          rw (e, or-false (ltb a p && meets a))
          (by (ltb a p)
          (λ l. let k = ltb-true a p l in rw (l, lt-ltb a (p + 1) (omega arith)))
          (λ l. let k = ltb-false a p l in rw (l, le-ltb a (p + 1) (omega arith)))))

  pub passing-all : (out p : ℕ) → p ≡ 64 → PassingTo parents passed mask out p → Passing parents passed mask out
  passing-all out p e u =
      record {
        bits = λ a h. u.bits a ∙ rw (lt-ltb a p (omega arith));
        within = λ a h. u.bits a ∙ rw (le-ltb a p (omega arith));
      }

-- the first parents of an inherited making are the bits, ascending
pub passing-are : (s : Sheet) (parents given above passed : List ℕ) (t r row mask : ℕ) → Readable s → Starts s parents given → t < length (line_map s).types
    → ((p : ℕ) → p < length (line_map s).types → Right s (get_or above p 0) (get_or passed p 0) p) → Fits (line_map s) mask → SetIs (line_map s) mask (masked r) → Passing (get_or parents t 0) passed mask row
    → filter (λ P. some (line_map s) (both (passed_set (line_map s) P) (masked r))) (parents_of (line_map s) (type_at (line_map s) t))
    ≡ map (type_at (line_map s)) (below (has_bit row) (length (line_map s).types))
passing-are s parents given above passed t r row mask ok st h right fits holds w =
    let m = line_map s in
    passing-walked m (type_at m t) r (get_or parents t 0) mask (λ p. get_or passed p 0) (st.parents t h) (λ p k. (right p k).passed) fits holds
    ∙ ap (map (type_at m)) (below-same _ (has_bit row) (length m.types) (λ p k. sym (w.bits p (omega (arith, st.few)))))
