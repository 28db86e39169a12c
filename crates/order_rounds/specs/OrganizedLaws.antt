-- The order over sets is the order of every map that the sets are of.
use Rattle.std.specs.Prelude.{Bool, true, false, ◌&&◌, ◌||◌, cond, List, [], ◌∷◌, map, ◌≡◌, refl, ℕ, zero, suc, ◌<◌, length, get_or, take}
use Rattle.std.proofs.Math.Bool.{not}
use Rattle.std.proofs.Math.Path.{sym, ap, subst}
use Rattle.std.proofs.Common.{ap₂, ◌∙◌, le_of_suc-le-suc, not-suc-le-zero, arith, get_or-take, take-take}
use borrow.Author.Tests.{ne_eqb, eqb-true, ltb-true, ltb-false, lt-ltb, not-true}
use Rattle.std.proofs.Math.Dec.{eqb, ltb}
use Rattle.lists.specs.Lists.{In, any, all, place_of}
use Rattle.lists.specs.Tests.{by, never, not_so, and_left, and_right, and_both, any_of, any-not, any_none, all_in, all_of}
use Rattle.lists.specs.Appending.{any-map, all_map}
use Rattle.lists.specs.Places.{get_d-in}
use Rattle.rows.specs.Rows.{has_bit}
use Rattle.definitions.specs.Records.{Name, TypeInfo}
use Rattle.definitions.specs.Comparisons.{same_name}
use Rattle.definitions.specs.Map.{TypeMap}
use Rattle.definitions.specs.Order.{is_self, inherits_self, has_order, organize_type_map}
use Rattle.order_form.specs.Lists.{elem, same-list-sym}
use Rattle.order_form.specs.Reading.{listed, no_type, type_at, place_in, parent_in, Reads}
use Rattle.order_form.specs.declared.Parent.{Parent}
use Rattle.order_form.specs.Compact.{compact_of, Within, compact-reads}
use Rattle.order_form.specs.Names.{place_same, self-lists, order-found, order_is, whole-order, no_self}
use Rattle.order_form.specs.Rounds.{final, count-full}
use Rattle.order_form.specs.declared.Parents.{Parents}
use Rattle.law_parents.specs.Earlier.{at-below, parent-earlier, all-below}
use Rattle.law_classes.specs.Numbers.{place-of}
use Rattle.item_spread.specs.Spread.{Ordered}
use Rattle.catalogue.specs.Layout.{parents_at}
use Rattle.catalogue.specs.declared.Catalogue.{Catalogue}
use Rattle.order_parents.specs.Known.{known, all_known}
use Rattle.order_rounds.specs.Rounds.{SetsFor, Sets, AnySets, Placed}
use Rattle.order_rounds.specs.SetLaws.{sets-of}
use Rattle.order_rounds.specs.Organized.{Holds, Asked, Organized}
use Rattle.order_rounds.specs.declared.sequence.Order.{Order}

-- ---- lists

place-below : {A : Type 0} (f : A → Bool) (l : List A) → any f l ≡ true → place_of f l < length l
place-below f [] e = never e refl
place-below f (x ∷ l) e = by (f x) (λ q. rw q (omega arith)) (λ q. rw q (le-suc (place-below f l (sym (ap (λ (b : Bool). b || any f l) q) ∙ e))))
  where
    le-suc : {a b : ℕ} → a < b → suc a < suc b
    le-suc h = omega arith

any_below : {A : Type 0} (f : A → Bool) (l : List A) → place_of f l < length l → any f l ≡ true
any_below f [] h = absurd (not-suc-le-zero h)
any_below f (x ∷ l) h =
    by (f x) (λ q. rw q)
    (λ q. rw q (any_below f l (le_of_suc-le-suc (subst (λ (b : Bool). cond b zero (suc (place_of f l)) < suc (length l)) q h))))

any-is : {A : Type 0} (f g : A → Bool) (l : List A) → ((x : A) → f x ≡ g x) → any f l ≡ any g l
any-is f g [] e = refl
any-is f g (x ∷ l) e = ap₂ (λ (a b : Bool). a || b) (e x) (any-is f g l e)

-- ---- known parents

module _ (m : TypeMap) (k : all_known m ≡ true) where
  known_in : (T : TypeInfo) → In T m.types → (x : Name) → In x T.parents → known m x ≡ true
  unfolding all_known
  known_in T i x j = all_in (known m) (all_in (λ (U : TypeInfo). all (known m) U.parents) k i) j

  known-self : inherits_self m ≡ false
  unfolding inherits_self known
  known-self =
      any_none (λ (T : TypeInfo). any (is_self m) T.parents) m.types
      (λ T i. any_none (is_self m) T.parents (λ x j. not-true _ (and_right (any (λ (U : TypeInfo). same_name x U.name) m.types) (not (is_self m x)) (known_in T i x j))))

  known-place : (a : ℕ) → a < length m.types → (x : Name) → In x (type_at m a).parents → place_in m x < length m.types
  unfolding place_in known
  known-place a h x j =
      place-below (λ (T : TypeInfo). same_name x T.name) m.types
      (and_left (any (λ (U : TypeInfo). same_name x U.name) m.types) (not (is_self m x)) (known_in (type_at m a) (get_d-in m.types no_type a h) x j))

-- ---- the sets are those of the compact form

module _ (m : TypeMap) (t : Catalogue) (n : ℕ) (h : Holds m t n true) where
  abbrev p : Parents
  p = compact_of m h.within

  reads : Reads (compact_of m h.within) m
  reads = compact-reads m h.within

  many : (compact_of m h.within).count ≡ n
  many = reads.count ∙ sym h.count

  -- the places of the parents, as a test
  listed-are : (a b : ℕ) → a < n → any (λ (q : Parent). eqb q.place b) (listed (compact_of m h.within) a) ≡ any (λ (x : Name). eqb (place_in m x) b) (type_at m a).parents
  unfolding parent_in
  listed-are a b l =
      ap (any (λ (q : Parent). eqb q.place b)) (reads.types a (omega (arith, many))).parents
      ∙ any-map (λ (q : Parent). eqb q.place b) (parent_in m) (type_at m a).parents

  bits_are : (a b : ℕ) → a < n → has_bit (parents_at t a) b ≡ any (λ (q : Parent). eqb q.place b) (listed (compact_of m h.within) a)
  bits_are a b l =
      by (ltb b n)
      (λ e.
      let k = ltb-true b n e in
      h.sets.bits a b (omega (arith, h.count)) (omega (arith, h.count))
      ∙ any-is (same_name (type_at m b).name) (λ (x : Name). eqb (place_in m x) b) (type_at m a).parents
      (λ x. same-list-sym (type_at m b).name x ∙ place_same (compact_of m h.within) m reads x b (omega (arith, many)))
      ∙ sym (listed-are a b l))
      (λ e.
      let k = ltb-false b n e in
      h.sets.within a b (omega (arith, h.count)) (omega (arith, h.count))
      ∙ sym (any_none (λ (x : Name). eqb (place_in m x) b) (type_at m a).parents
      (λ x j. ne_eqb (place_in m x) b (λ q. omega (arith, h.count, known-place m (sym h.known) a (omega (arith, h.count)) x j))))
      ∙ sym (listed-are a b l))

  pub sets-for : SetsFor (compact_of m h.within) t n
  sets-for = record {
    few = omega (arith, h.count, h.within.most);
    count = many;
    most = λ a l. h.sets.most a (omega (arith, h.count));
    bits = bits_are;
    no_self = sym (self-lists (compact_of m h.within) m reads) ∙ known-self m (sym h.known);
  }

-- ---- where there is an order, each parent is known

module _ (m : TypeMap) (w : Within m) (e : has_order m ≡ true) where
  there : Reads (compact_of m w) m
  there = compact-reads m w

  lower : (a : ℕ) → a < length m.types → all (λ (q : Parent). ltb q.place (length m.types)) (listed (compact_of m w) a) ≡ true
  lower a l =
      let r = there in
      let k : a < (compact_of m w).count = omega (arith, r.count) in
      all_of (λ (q : Parent). ltb q.place (length m.types)) (listed (compact_of m w) a)
      (λ q i. lt-ltb q.place (length m.types) (omega (arith, r.count, (all-below (compact_of m w) (whole-order (compact_of m w) m r e) (no_self (compact_of m w) m r e) a k).lower q i)))

  declared : (a : ℕ) → a < length m.types → (x : Name) → In x (type_at m a).parents → any (λ (T : TypeInfo). same_name x T.name) m.types ≡ true
  unfolding place_in parent_in
  declared a l x j =
      let r = there in
      let k : a < (compact_of m w).count = omega (arith, r.count) in
      let b = sym (all_map (λ (q : Parent). ltb q.place (length m.types)) (parent_in m) (type_at m a).parents) ∙ ap (all (λ (q : Parent). ltb q.place (length m.types))) (sym (r.types a k).parents) ∙ lower a l in
      any_below (λ (T : TypeInfo). same_name x T.name) m.types
      (ltb-true _ _ (all_in (λ (y : Name). ltb (place_in m y) (length m.types)) b j))

  selfless : (a : ℕ) → a < length m.types → (x : Name) → In x (type_at m a).parents → is_self m x ≡ false
  unfolding has_order inherits_self
  selfless a l x j =
      any-not (is_self m)
      (any-not (λ (T : TypeInfo). any (is_self m) T.parents) (not-true _ (and_left (not (inherits_self m)) _ e)) (get_d-in m.types no_type a l)) j

  pub order-known : all_known m ≡ true
  unfolding all_known known
  order-known =
      all_of (λ (T : TypeInfo). all (known m) T.parents) m.types
      (λ T i.
      let a = place-of no_type T m.types i in
      subst (λ (U : TypeInfo). all (known m) U.parents ≡ true) a.2
      (all_of (known m) (type_at m a.0).parents
      (λ x j. and_both (declared a.0 a.1 x j) (ap not (selfless a.0 a.1 x j)))))

-- ---- what the order answers

holds-true : (t : Catalogue) (n : ℕ) (w : Bool) → w ≡ true → (m : TypeMap) → Holds m t n w → Holds m t n true
holds-true t n w z m h = record { within = h.within; count = h.count; sets = h.sets; known = sym z ∙ h.known }

-- a parent that is not known leaves no order
pub none_found : (t : Catalogue) (n : ℕ) (w : Bool) (order : Order) → w ≡ false → Organized t n w order false
none_found t n w order z = record {
  found = λ m h. sym (not_so (λ e. never (order-known m h.within e) (sym h.known ∙ z)));
  counted = λ e. never e refl;
  names = λ m h e. never e refl;
  ordered = λ e. never e refl;
  within = λ e. never e refl;
  has = λ e. never e refl;
}

-- the same of what is asked, where each is
asked-true : (t : Catalogue) (n : ℕ) (w : Bool) → w ≡ true → Asked t n w → Asked t n true
asked-true t n w z a = record { map = a.map; holds = holds-true t n w z a.map a.holds }

-- where each is known, the sets are those of some map
pub some-sets : (t : Catalogue) (n : ℕ) (w : Bool) → w ≡ true → Asked t n w → Sets t n
some-sets t n w z a = let h = holds-true t n w z a.map a.holds in record { compact = compact_of a.map h.within; right = sets-for a.map t n h }

-- and so what the rounds ask of sets holds of them
pub any-sets : (t : Catalogue) (n : ℕ) (w : Bool) → w ≡ true → Asked t n w → AnySets t n
any-sets t n w z a = let s = some-sets t n w z a in sets-of s.compact t n s.right

module _ (t : Catalogue) (n : ℕ) (order : Order) (a : Asked t n true) (q : Placed t n order) where
  -- how many were placed, and the places
  abbrev r : ℕ
  r = order.types.count

  abbrev places : List ℕ
  places = order.types.items

  found-is : (m : TypeMap) → Holds m t n true → eqb order.types.count n ≡ has_order m
  found-is m h =
      let s = sets-for m t n h in
      let c = compact-reads m h.within in
      sym (order-found (compact_of m h.within) m c ∙ ap₂ (λ (x : Bool) (y : ℕ). not x && eqb y (compact_of m h.within).count) s.no_self (sym (q.count (compact_of m h.within) s)) ∙ ap (eqb r) s.count)

  names-are : (m : TypeMap) → Holds m t n true → order.types.count ≡ n → map (λ (b : ℕ). (type_at m b).name) (take n order.types.items) ≡ organize_type_map m
  names-are m h e =
      let s = sets-for m t n h in
      ap (map (λ (b : ℕ). (type_at m b).name)) (ap (λ (k : ℕ). take k places) (sym e) ∙ q.places (compact_of m h.within) s)
      ∙ sym (order_is (compact_of m h.within) m (compact-reads m h.within))

  module _ (e : order.types.count ≡ n) where
    abbrev one : Parents
    one = compact_of a.map a.holds.within

    right : SetsFor (compact_of a.map a.holds.within) t n
    right = sets-for a.map t n a.holds

    whole : take n order.types.items ≡ final one
    whole = ap (λ (k : ℕ). take k places) (sym e) ∙ q.places one right

    size : length (final one) ≡ n
    size = sym (q.count one right) ∙ e

    at : (i : ℕ) → i < n → get_or (final one) i 0 ≡ get_or order.types.items i 0
    at i h = ap (λ (l : List ℕ). get_or l i 0) (sym whole) ∙ get_or-take n places i 0 h

    place-in : (i : ℕ) → i < n → get_or order.types.items i 0 < n
    place-in i h = let s = right in omega (arith, at i h, at-below one i (omega (arith, size)), s.count)

    has_all : (b : ℕ) → b < n → elem b (take n order.types.items) ≡ true
    unfolding final
    has_all b h = let s = right in rw whole (count-full one one.count (size ∙ sym s.count) b (omega (arith, s.count)))

    ordered-is : Ordered order.types.items n t.parents
    ordered-is =
        let s = right in
        record {
          room = omega (arith, order.types.long, s.few);
          few = s.few;
          place = λ i h. omega (arith, place-in i h, s.few);
          before = λ i b h k f.
              let x = any_of (λ (y : Parent). eqb y.place b) (listed one (get_or places i 0)) (sym (s.bits (get_or places i 0) b (place-in i h)) ∙ f) in
              let z = parent-earlier one s.no_self i (omega (arith, size)) x.0 (subst (λ (y : ℕ). In x.0 (listed one y)) (sym (at i h)) x.1) in
              ap₂ elem (sym (eqb-true x.0.place b x.2)) (sym (take-take i n places (omega arith)) ∙ ap (take i) whole) ∙ z;
        }

pub organized : (t : Catalogue) (n : ℕ) (w : Bool) (order : Order) → w ≡ true → Asked t n w → Placed t n order → Organized t n w order (eqb order.types.count n)
organized t n w order z a q =
    let b = asked-true t n w z a in
    record {
      found = λ m h. found-is t n order b q m (holds-true t n w z m h);
      counted = λ e. eqb-true order.types.count n e;
      names = λ m h e. names-are t n order b q m (holds-true t n w z m h) (eqb-true order.types.count n e);
      ordered = λ e. ordered-is t n order b q (eqb-true order.types.count n e);
      within = λ e. place-in t n order b q (eqb-true order.types.count n e);
      has = λ e. has_all t n order b q (eqb-true order.types.count n e);
    }
