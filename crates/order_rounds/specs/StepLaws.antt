-- The steps of the loops.
use Rattle.std.specs.Prelude.{Bool, true, false, ◌&&◌, ◌||◌, not, List, [], ◌∷◌, ◌++◌, ◌≡◌, refl, ℕ, zero, suc, ◌+◌, ◌≤◌, ◌<◌, eqb, ltb, length, get_or, set}
use Rattle.std.proofs.Math.Bool.{or-false, or-true, and-true, and-false}
use Rattle.std.proofs.Common.{append-nil, append_assoc, sym, ap, ap₂, ◌∙◌, arith, length-append, length-set, get_or-set_same, get_or-set_other}
use borrow.Author.Tests.{eq-eqb, ne_eqb, eqb-true, eqb-false, lt-ltb, le-ltb}
use Rattle.lists.specs.Tests.{by, same_test, and_left, or-false-both, all_in, all_of}
use Rattle.rows.specs.Rows.{has_bit}
use Rattle.rows.specs.RowLaws.{bit-none}
use Rattle.bitsets.specs.Bitsets.{members, more, less, Lowest, Rest}
use Rattle.bitsets.specs.BitLaws.{bit-more, bit-less, rest-is, in_members, members-of, members-next, members-none}
use Rattle.order_form.specs.Lists.{elem}
use Rattle.catalogue.specs.Layout.{parents_at}
use Rattle.catalogue.specs.declared.Catalogue.{Catalogue}
use Rattle.order_rounds.specs.Rounds.{all_listed_in, AllPlaced, ReadyIn, ChildAdded, Childless, ChildrenPut}

-- a number that stands at no place of a list, and one that stands at a place
pub elem-none : (x : ℕ) (l : List ℕ) → ((i : ℕ) → i < length l → get_or l i 0 ≡ x → ⊥) → elem x l ≡ false
elem-none x [] h = refl
elem-none x (y ∷ l) h = or-false-both (ne_eqb x y (λ e. h 0 (omega arith) (sym e))) (elem-none x l (λ i k. h (suc i) (omega arith)))

pub elem-there : (x : ℕ) (l : List ℕ) (i : ℕ) → i < length l → get_or l i 0 ≡ x → elem x l ≡ true
elem-there x [] i h e = absurd (omega arith)
elem-there x (y ∷ l) zero h e = rw (eq-eqb x y (sym e))
elem-there x (y ∷ l) (suc i) h e = rw (elem-there x l i (omega arith) e, or-true (eqb x y))

-- ---- the types without parents, and the children of each

ltb-step : (a n : ℕ) → ltb a (n + 1) ≡ (ltb a n || eqb n a)
ltb-step a n =
    by (eqb n a)
    (λ e. let z = eqb-true n a e in rw (e, or-true (ltb a n)) (lt-ltb a (n + 1) (omega arith)))
    (λ e.
    let z = eqb-false n a e in
    rw (e, or-false (ltb a n))
    (by (ltb a n)
    (λ l. rw l (lt-ltb a (n + 1) (omega (arith, borrow.Author.Tests.ltb-true a n l))))
    (λ l. rw l (le-ltb a (n + 1) (omega (arith, z, borrow.Author.Tests.ltb-false a n l))))))

one_more : (l e z : Bool) → (e ≡ true → z ≡ true) → ((l && z) || e) ≡ ((l || e) && z)
one_more true true z h = rw (h refl)
one_more true false z h = or-false z
one_more false true z h = sym (h refl)
one_more false false z h = refl

one_less : (l e z : Bool) → (e ≡ true → z ≡ false) → (l && z) ≡ ((l || e) && z)
one_less true e z h = refl
one_less false true z h = sym (h refl)
one_less false false z h = refl

-- one child more, while `left` is left of the parents
module _ (old : List ℕ) (parents a : ℕ) where
  pub record ChildTo (new : List ℕ) (left : ℕ) : Type 0 where
    pub long : length new ≡ length old
    pub bits : (b c : ℕ) → b < 64 → (has_bit (get_or new b 0) c || (has_bit left b && eqb a c)) ≡ (has_bit (get_or old b 0) c || (has_bit parents b && eqb a c))

  pub child-none : ChildTo old parents
  child-none = record { long = refl; bits = λ b c h. refl }

  here : (o l e : Bool) → l ≡ true → ((o || e) || (false && e)) ≡ (o || (l && e))
  here true l e h = refl
  here false l e h = or-false e ∙ sym (ap (λ (x : Bool). x && e) h)

  pub child-more : (new : List ℕ) (left k rest x : ℕ) → length old ≡ 64 → Lowest left k → Rest left rest → x ≡ more (get_or new k 0) a → ChildTo new left → ChildTo (set new k x) rest
  child-more new left k rest x l w r e p = record {
    long = length-set new k x ∙ p.long;
    bits = λ b c h.
        by (eqb b k)
        (λ q.
        let z = eqb-true b k q in
        ap₂ (λ (y : ℕ) (d : Bool). has_bit y c || (d && eqb a c))
        (ap (λ (y : ℕ). get_or (set new k x) y 0) z ∙ get_or-set_same new k x 0 (omega (arith, p.long, w.place)) ∙ e ∙ ap (λ (y : ℕ). more (get_or new y 0) a) (sym z))
        (r.bits k w b ∙ ap (λ (d : Bool). has_bit left b && not d) q ∙ and-false (has_bit left b))
        ∙ ap (λ (d : Bool). d || (false && eqb a c)) (bit-more (get_or new b 0) a c)
        ∙ here (has_bit (get_or new b 0) c) (has_bit left b) (eqb a c) (ap (has_bit left) z ∙ w.there)
        ∙ p.bits b c h)
        (λ q.
        ap₂ (λ (y : ℕ) (d : Bool). has_bit y c || (d && eqb a c))
        (get_or-set_other new k b x 0 (eqb-false b k q))
        (r.bits k w b ∙ ap (λ (d : Bool). has_bit left b && not d) q ∙ and-true (has_bit left b))
        ∙ p.bits b c h);
  }

  pub child-all : (new : List ℕ) (left : ℕ) → left ≡ 0 → ChildTo new left → ChildAdded old new parents a
  child-all new left e p = record {
    long = p.long;
    bits = λ b c h.
        sym (or-false (has_bit (get_or new b 0) c))
        ∙ ap (λ (d : Bool). has_bit (get_or new b 0) c || (d && eqb a c)) (sym (bit-none b) ∙ ap (λ (x : ℕ). has_bit x b) (sym e))
        ∙ p.bits b c h;
  }

module _ (t : Catalogue) where
  pub children-none : (l : List ℕ) → Childless l → ChildrenPut t 0 l 0
  children-none l p = record {
    long = p.long;
    bits = λ b c h. ap (λ (x : ℕ). has_bit x c) (p.none b h) ∙ bit-none c ∙ sym (rw (le-ltb c 0 (omega arith)));
    free = λ a. bit-none a ∙ sym (rw (le-ltb a 0 (omega arith)));
  }

  more-children : (n : ℕ) (l new : List ℕ) (r : ℕ) → ChildAdded l new (parents_at t n) n → ChildrenPut t n l r → (b c : ℕ) → b < 64
      → has_bit (get_or new b 0) c ≡ (ltb c (n + 1) && has_bit (parents_at t c) b)
  more-children n l new r a p b c h =
      a.bits b c h
      ∙ ap (λ (d : Bool). d || (has_bit (parents_at t n) b && eqb n c)) (p.bits b c h)
      ∙ by (eqb n c)
      (λ q.
      let z = eqb-true n c q in
      ap₂ (λ (d y : Bool). (ltb c n && has_bit (parents_at t c) b) || (d && y)) (ap (λ (y : ℕ). has_bit (parents_at t y) b) z) q
      ∙ ap (λ (d : Bool). (d && has_bit (parents_at t c) b) || (has_bit (parents_at t c) b && true)) (le-ltb c n (omega arith))
      ∙ and-true (has_bit (parents_at t c) b)
      ∙ sym (ap (λ (d : Bool). d && has_bit (parents_at t c) b) (lt-ltb c (n + 1) (omega arith))))
      (λ q.
      ap (λ (d : Bool). (ltb c n && has_bit (parents_at t c) b) || (has_bit (parents_at t n) b && d)) q
      ∙ ap (λ (d : Bool). (ltb c n && has_bit (parents_at t c) b) || d) (and-false (has_bit (parents_at t n) b))
      ∙ or-false (ltb c n && has_bit (parents_at t c) b)
      ∙ ap (λ (d : Bool). d && has_bit (parents_at t c) b) (sym (ltb-step c n ∙ ap (λ (d : Bool). ltb c n || d) q ∙ or-false (ltb c n))))

  pub children-yes : (n : ℕ) (l new : List ℕ) (r y : ℕ) → parents_at t n ≡ 0 → ChildAdded l new (parents_at t n) n → y ≡ more r n → ChildrenPut t n l r → ChildrenPut t (n + 1) new y
  children-yes n l new r y z a g p = record {
    long = a.long ∙ p.long;
    bits = more-children n l new r a p;
    free = λ a.
        ap (λ (k : ℕ). has_bit k a) g
        ∙ bit-more r n a
        ∙ ap (λ (b : Bool). b || eqb n a) (p.free a)
        ∙ one_more (ltb a n) (eqb n a) (eqb (parents_at t a) 0) (λ q. ap (λ (k : ℕ). eqb (parents_at t k) 0) (sym (eqb-true n a q)) ∙ eq-eqb _ _ z)
        ∙ ap (λ (b : Bool). b && eqb (parents_at t a) 0) (sym (ltb-step a n));
  }

  pub children-no : (n : ℕ) (l new : List ℕ) (r y : ℕ) → (parents_at t n ≡ 0 → ⊥) → ChildAdded l new (parents_at t n) n → y ≡ r → ChildrenPut t n l r → ChildrenPut t (n + 1) new y
  children-no n l new r y z a g p = record {
    long = a.long ∙ p.long;
    bits = more-children n l new r a p;
    free = λ a.
        ap (λ (k : ℕ). has_bit k a) g
        ∙ p.free a
        ∙ one_less (ltb a n) (eqb n a) (eqb (parents_at t a) 0) (λ q. ap (λ (k : ℕ). eqb (parents_at t k) 0) (sym (eqb-true n a q)) ∙ ne_eqb _ _ z)
        ∙ ap (λ (b : Bool). b && eqb (parents_at t a) 0) (sym (ltb-step a n));
  }

-- ---- the types that are ready

-- those placed in the last round need no look-up
pub others-in : (parents last : ℕ) (out : List ℕ) → AllPlaced last out → all_listed_in (less parents last) out ≡ all_listed_in parents out
unfolding all_listed_in
others-in parents last out h =
    same_test
    (λ e.
    all_of (λ b. elem b out) (members parents)
    (λ b i.
    let m = members-of parents i in
    by (has_bit last b) (h.there b)
    (λ q. all_in (λ c. elem c out) e (in_members (less parents last) m.0 (bit-less parents last b ∙ rw (m.1, q))))))
    (λ e.
    all_of (λ b. elem b out) (members (less parents last))
    (λ b i.
    let m = members-of (less parents last) i in
    all_in (λ c. elem c out) e (in_members parents m.0 (and_left (has_bit parents b) (not (has_bit last b)) (sym (bit-less parents last b) ∙ m.1)))))

module _ (t : Catalogue) (types : ℕ) (out : List ℕ) where
  abbrev is_one : ℕ → Bool
  is_one a = all_listed_in (parents_at t a) out

  -- those passed, while `left` is left
  pub record ReadyTo (left r : ℕ) : Type 0 where
    pub bits : (a : ℕ) → (has_bit r a || (has_bit left a && all_listed_in (parents_at t a) out)) ≡ (has_bit types a && all_listed_in (parents_at t a) out)

  pub ready-none : ReadyTo types 0
  ready-none = record { bits = λ a. rw (bit-none a) }

  taken-one : (r l e f : Bool) → (e ≡ true → (l ≡ true) × (f ≡ true)) → ((r || e) || ((l && not e) && f)) ≡ (r || (l && f))
  taken-one true l e f h = refl
  taken-one false l true f h = sym (rw ((h refl).0, (h refl).1))
  taken-one false true false f h = refl
  taken-one false false false f h = refl

  passed-one : (r l e f : Bool) → (e ≡ true → f ≡ false) → (r || ((l && not e) && f)) ≡ (r || (l && f))
  passed-one r true true f h = rw (h refl)
  passed-one r true false f h = refl
  passed-one r false true f h = refl
  passed-one r false false f h = refl

  flip : (a k : ℕ) → eqb a k ≡ eqb k a
  flip a k = Rattle.lists.specs.Tests.eqb-flip a k

  pub ready-yes : (left r k rest : ℕ) → Lowest left k → Rest left rest → is_one k ≡ true → ReadyTo left r → ReadyTo rest (more r k)
  ready-yes left r k rest l s e p = record {
    bits = λ a.
        ap₂ (λ (x y : Bool). x || (y && is_one a)) (bit-more r k a ∙ ap (λ (z : Bool). has_bit r a || z) (sym (flip a k))) (s.bits k l a)
        ∙ taken-one (has_bit r a) (has_bit left a) (eqb a k) (is_one a)
        (λ q. let z = eqb-true a k q in (ap (has_bit left) z ∙ l.there, ap is_one z ∙ e))
        ∙ p.bits a;
  }

  pub ready-no : (left r k rest : ℕ) → Lowest left k → Rest left rest → is_one k ≡ false → ReadyTo left r → ReadyTo rest r
  ready-no left r k rest l s e p = record {
    bits = λ a.
        ap (λ (y : Bool). has_bit r a || (y && is_one a)) (s.bits k l a)
        ∙ passed-one (has_bit r a) (has_bit left a) (eqb a k) (is_one a) (λ q. ap is_one (eqb-true a k q) ∙ e)
        ∙ p.bits a;
  }

  pub ready-all : (left r : ℕ) → left ≡ 0 → ReadyTo left r → ReadyIn t types out r
  ready-all left r e p = record {
    bits = λ a.
        sym (or-false (has_bit r a))
        ∙ ap (λ (y : Bool). has_bit r a || (y && is_one a)) (sym (bit-none a) ∙ ap (λ (x : ℕ). has_bit x a) (sym e))
        ∙ p.bits a;
  }

-- ---- the types of a set behind those placed: those that are left go behind those there

-- there is room for one more
pub append-room : (there : List ℕ) (left k : ℕ) (all : List ℕ) → Lowest left k → 0 < left → there ++ members left ≡ all → length all ≤ 64 → length there < 64
append-room there left k all l s e h =
    omega (arith, ap length e, length-append there (members left), ap length (members-next left k _ l (rest-is left s)), h)

pub append-more : (there more : List ℕ) (left k rest : ℕ) (all : List ℕ) → Lowest left k → Rest left rest → more ≡ there ++ (k ∷ []) → there ++ members left ≡ all
    → more ++ members rest ≡ all
append-more there more left k rest all l s e p =
    ap (λ (x : List ℕ). x ++ members rest) e
    ∙ append_assoc there (k ∷ []) (members rest)
    ∙ ap (λ (x : List ℕ). there ++ x) (sym (members-next left k rest l s))
    ∙ p

pub append-all : (there : List ℕ) (left : ℕ) (all : List ℕ) → left ≡ 0 → there ++ members left ≡ all → there ≡ all
append-all there left all e p = sym (append-nil there) ∙ ap (λ (x : List ℕ). there ++ x) (sym (members-none left e)) ∙ p
