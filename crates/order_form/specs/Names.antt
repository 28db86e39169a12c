-- A compact form and the map that it reads: what the definitions say of names, it says of places.
use Rattle.std.specs.Prelude.{Bool, true, false, ◌&&◌, ◌||◌, ◌≡◌, refl, length, get_or}
use Rattle.std.proofs.Math.Bool.{not, and-false}
use mathlib.Core.List.{List, [], ◌∷◌, ◌++◌, map}
use Rattle.std.proofs.Math.Path.{sym, ap, ap₂}
use Rattle.std.proofs.Common.{◌∙◌, subst, le_of_suc-le-suc, not-suc-le-zero, arith}
use Prim.Native.Nat.{ℕ, zero, suc, ◌≤◌, ◌<◌}
use Rattle.std.proofs.Math.Dec.{eqb, ltb}
use borrow.Author.Tests.{eq-eqb, ne_eqb, eqb-true, ltb-true, not-true}
use Rattle.lists.specs.Lists.{any, all, null, repeats, filter, place_of}
use Rattle.lists.specs.Tests.{by, never, same_test, and_left, and_right, or-false-left, or-false-right, eqb-suc, null-nil}
use Rattle.lists.specs.Appending.{any-map, all_map, map-append, map-map, null-map, any_append}
use Rattle.lists.specs.Lexicographic.{same_numbers}
use Rattle.definitions.specs.Records.{Name, TypeInfo}
use Rattle.definitions.specs.Comparisons.{same_name, elem_name, look_up}
use Rattle.definitions.specs.Map.{TypeMap}
use Rattle.definitions.specs.Order.{is_self, ready, pass, passes, last_pass, inherits_self, has_order, organize_type_map}
use Rattle.definitions.specs.OrderRows.{type_named}
use Rattle.order_form.specs.Lists.{all_same, any_same, any_at, same-list-sym, tab-get_d, any-tab-same, elem, below, below-same, below_one, below_none, below-full, below_in, below_all, filter-below, map_below}
use Rattle.order_form.specs.Reading.{listed, self_in, no_type, type_at, place_in, parent_in, is_name, Reads}
use Rattle.order_form.specs.declared.Parent.{Parent}
use Rattle.order_form.specs.Rounds.{settled, is_ready, free, next, round, placed, final, lists_self, placed_below, next-is, count}
use Rattle.order_form.specs.declared.Parents.{Parents}

-- where no name stands twice, the place of a name is the one place that has it
place-list : (l : List TypeInfo) (n : Name) (t : ℕ) → repeats (λ (T U : TypeInfo). same_name T.name U.name) l ≡ false → t < length l
    → same_name n (get_or l t no_type).name ≡ eqb (place_of (λ (T : TypeInfo). same_name n T.name) l) t
place-list [] n t d h = absurd (not-suc-le-zero h)
place-list (T ∷ l) n zero d h =
    by (same_name n T.name)
    (λ e. rw e)
    (λ e. rw e (sym (ne_eqb (suc (place_of (λ (U : TypeInfo). same_name n U.name) l)) 0 (λ q. omega arith))))
place-list (T ∷ l) n (suc t) d h =
    let k : t < length l = le_of_suc-le-suc h in
    by (same_name n T.name)
    (λ e.
    rw (e, ne_eqb 0 (suc t) (λ q. omega arith))
    (by (same_name n (get_or l t no_type).name)
    (λ f.
    let z : same_name T.name (get_or l t no_type).name ≡ true =
    subst (λ (x : Name). same_name x (get_or l t no_type).name ≡ true) (same_numbers n T.name e) f in
    never z (any_at (λ (U : TypeInfo). same_name T.name U.name) l no_type t (or-false-left _ _ d) k))
    (λ f. f)))
    (λ e.
    rw (e, eqb-suc) (place-list l n t (or-false-right (any (λ (U : TypeInfo). same_name T.name U.name) l) _ d) k))

-- the types that are not placed, in name order
abbrev pub unplaced : Parents → List ℕ → List ℕ
unplaced p out = below (λ t. not (elem t out)) p.count

module _ (p : Parents) (m : TypeMap) (r : Reads p m) where
  pub place_same : (n : Name) (t : ℕ) → t < p.count → same_name n (type_at m t).name ≡ eqb (place_in m n) t
  unfolding place_in
  place_same n t h = place-list m.types n t r.distinct (omega (arith, r.count))

  pub types_are : m.types ≡ map (type_at m) (below (λ t. true) p.count)
  types_are = sym (tab-get_d m.types no_type) ∙ sym (map_below (type_at m) (length m.types)) ∙ ap (λ (n : ℕ). map (type_at m) (below (λ t. true) n)) (sym r.count)

  named-are : (n : Name) → type_named m n ≡ map (type_at m) (below (λ t. eqb (place_in m n) t) p.count)
  unfolding look_up
  named-are n =
      ap (filter (λ (T : TypeInfo). same_name T.name n)) types_are
      ∙ filter-below (λ (T : TypeInfo). same_name T.name n) (type_at m) (λ t. true) p.count
      ∙ ap (map (type_at m))
      (below-same (λ t. same_name (type_at m t).name n) (λ t. eqb (place_in m n) t) p.count
      (λ t h. same-list-sym (type_at m t).name n ∙ place_same n t h))

  -- the type that has a name, or none
  pub named-yes : (n : Name) → place_in m n < p.count → type_named m n ≡ type_at m (place_in m n) ∷ []
  named-yes n h = named-are n ∙ ap (map (type_at m)) (below_one p.count (place_in m n) h)

  pub named-no : (n : Name) → p.count ≤ place_in m n → type_named m n ≡ []
  named-no n h = named-are n ∙ ap (map (type_at m)) (below_none (λ t. eqb (place_in m n) t) p.count (λ t l. ne_eqb (place_in m n) t (λ q. omega arith)))

  -- `self`, by its words
  pub self-is : (n : Name) → is_name n ≡ true → is_self m n ≡ self_in p (parent_in m n)
  unfolding is_self parent_in
  self-is [] w = sym (rw (ne_eqb 255 p.self_word (λ q. omega (arith, r.self, r.word))))
  self-is (a ∷ []) w = rw r.self
  self-is (a ∷ b ∷ n) w =
      let l : b < 255 = ltb-true b 255 (and_left (ltb b 255) (all (λ x. ltb x 255) n) (and_right (ltb a 255) (all (λ x. ltb x 255) (b ∷ n)) w)) in
      rw (ne_eqb b 255 (λ q. omega arith), and-false (eqb a m.self), and-false (eqb a p.self_word))

  -- a name among those of placed types
  pub elem_is : (n : Name) (out : List ℕ) → all (λ x. ltb x p.count) out ≡ true → elem_name n (map (λ (T : TypeInfo). T.name) (map (type_at m) out)) ≡ elem (place_in m n) out
  elem_is n out h =
      any-map (same_name n) (λ (T : TypeInfo). T.name) (map (type_at m) out)
      ∙ any-map (λ (T : TypeInfo). same_name n T.name) (type_at m) out
      ∙ any_same (λ x. ltb x p.count) (λ x. same_name n (type_at m x).name) (eqb (place_in m n)) out h (λ x l. place_same n x (ltb-true x p.count l))

  place-elem : (n : Name) (out : List ℕ) → all (λ x. ltb x p.count) out ≡ true → elem_name n (map (λ (T : TypeInfo). T.name) (map (type_at m) out)) ≡ elem (parent_in m n).place out
  unfolding parent_in
  place-elem n out h = elem_is n out h

  pub ready-is : (out : List ℕ) (t : ℕ) → all (λ x. ltb x p.count) out ≡ true → t < p.count → ready m (map (type_at m) out) (type_at m t) ≡ is_ready p out t
  unfolding ready is_ready
  ready-is out t h l =
      all_same is_name
      (λ n. is_self m n || elem_name n (map (λ (T : TypeInfo). T.name) (map (type_at m) out)))
      (λ n. settled p out (parent_in m n))
      (type_at m t).parents (r.types t l).names
      (λ n w. ap₂ (λ (a b : Bool). a || b) (self-is n w) (place-elem n out h))
      ∙ sym (all_map (settled p out) (parent_in m) (type_at m t).parents)
      ∙ ap (all (settled p out)) (sym (r.types t l).parents)

  waits-bool : (e f q : Bool) → f ≡ (not e && q) → (not e && not q) ≡ not (e || f)
  waits-bool true f q h = refl
  waits-bool false f q h = rw h

  -- the rounds of the definitions are those over places
  abbrev Same : ℕ → Type 0
  Same k = ((passes m k).placed ≡ map (type_at m) (placed p k)) × ((passes m k).waiting ≡ map (type_at m) (unplaced p (placed p k)))

  turned : (out : List ℕ) → all (λ x. ltb x p.count) out ≡ true → filter (ready m (map (type_at m) out)) (map (type_at m) (unplaced p out)) ≡ map (type_at m) (next p out)
  unfolding next free
  turned out h =
      filter-below (ready m (map (type_at m) out)) (type_at m) (λ t. not (elem t out)) p.count
      ∙ ap (map (type_at m))
      (below-same (λ t. not (elem t out) && ready m (map (type_at m) out) (type_at m t)) (free p out) p.count
      (λ t l. ap (λ (b : Bool). not (elem t out) && b) (ready-is out t h l)))

  waited : (out : List ℕ) → all (λ x. ltb x p.count) out ≡ true
      → filter (λ T. not (ready m (map (type_at m) out) T)) (map (type_at m) (unplaced p out)) ≡ map (type_at m) (unplaced p (out ++ next p out))
  unfolding free
  waited out h =
      filter-below (λ T. not (ready m (map (type_at m) out) T)) (type_at m) (λ t. not (elem t out)) p.count
      ∙ ap (map (type_at m))
      (below-same (λ t. not (elem t out) && not (ready m (map (type_at m) out) (type_at m t))) (λ t. not (elem t (out ++ next p out))) p.count
      (λ t l.
      ap (λ (b : Bool). not (elem t out) && not b) (ready-is out t h l)
      ∙ waits-bool (elem t out) (elem t (next p out)) (is_ready p out t) (next-is p out t l)
      ∙ sym (ap not (any_append (eqb t) out (next p out)))))

  pub passes-are : (k : ℕ) → Same k
  unfolding passes pass placed round
  passes-are zero = (refl, types_are)
  passes-are (suc k) =
      let i = passes-are k in (
        rw (i.0, i.1, turned (placed p k) (placed_below p k)) (sym (map-append (type_at m) (placed p k) (next p (placed p k)))),
        rw (i.0, i.1) (waited (placed p k) (placed_below p k)),
      )

  -- after all rounds
  pub last-placed : (last_pass m).placed ≡ map (type_at m) (final p)
  unfolding last_pass final
  last-placed = rw (← r.count) (passes-are p.count).0

  pub last-waiting : (last_pass m).waiting ≡ map (type_at m) (unplaced p (final p))
  unfolding last_pass final
  last-waiting = rw (← r.count) (passes-are p.count).1

  pub self-listed : (t : ℕ) → t < p.count → any (is_self m) (type_at m t).parents ≡ any (self_in p) (listed p t)
  self-listed t l =
      any_same is_name (is_self m) (λ n. self_in p (parent_in m n)) (type_at m t).parents (r.types t l).names self-is
      ∙ sym (any-map (self_in p) (parent_in m) (type_at m t).parents)
      ∙ ap (any (self_in p)) (sym (r.types t l).parents)

  pub self-lists : inherits_self m ≡ lists_self p
  unfolding inherits_self lists_self
  self-lists =
      ap (any (λ (T : TypeInfo). any (is_self m) T.parents)) (types_are ∙ map_below (type_at m) p.count)
      ∙ any-tab-same (type_at m) (λ (T : TypeInfo). any (is_self m) T.parents) (listed p) (λ (l : List Parent). any (self_in p) l) p.count self-listed

  -- every type is placed exactly if as many are as there are
  null-unplaced : null (unplaced p (final p)) ≡ eqb (length (final p)) p.count
  unfolding final
  null-unplaced =
      same_test
      (λ e.
      eq-eqb _ _
      (count p p.count
      ∙ below_all (λ x. elem x (placed p p.count)) p.count
      (λ x h. by (elem x (placed p p.count)) (λ q. q) (λ q. never (below_in (λ t. not (elem t (placed p p.count))) p.count x h (rw q)) (ap (elem x) (null-nil (unplaced p (placed p p.count)) e))))))
      (λ e.
      ap null
      (below_none (λ t. not (elem t (placed p p.count))) p.count
      (λ x h. rw (below-full (λ t. elem t (placed p p.count)) p.count (sym (count p p.count) ∙ eqb-true _ _ e) x h))))

  pub order-found : has_order m ≡ (not (lists_self p) && eqb (length (final p)) p.count)
  unfolding has_order
  order-found = ap₂ (λ (a b : Bool). not a && b) self-lists (ap null last-waiting ∙ null-map (type_at m) (unplaced p (final p)) ∙ null-unplaced)

  -- where there is an order, each type is placed and none lists itself
  pub whole-order : has_order m ≡ true → length (final p) ≡ p.count
  whole-order e = eqb-true _ _ (and_right (not (lists_self p)) (eqb (length (final p)) p.count) (sym order-found ∙ e))

  pub no_self : has_order m ≡ true → lists_self p ≡ false
  no_self e = not-true (lists_self p) (and_left (not (lists_self p)) (eqb (length (final p)) p.count) (sym order-found ∙ e))

  pub order_is : organize_type_map m ≡ map (λ (t : ℕ). (type_at m t).name) (final p)
  unfolding organize_type_map
  order_is = ap (map (λ (T : TypeInfo). T.name)) last-placed ∙ map-map (λ (T : TypeInfo). T.name) (type_at m) (final p)
