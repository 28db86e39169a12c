-- First parents, as the code compares them and as names.
use Rattle.std.specs.Prelude.{Bool, true, false, Option, Some, None, is_none, ◌&&◌, not, cond, ◌≡◌, refl, ℕ, zero, suc, ◌+◌, ◌*◌, ◌-◌, ◌/◌, ◌%◌, ◌^◌, ◌<◌, min, eqb, ltb}
use Rattle.std.proofs.Math.Bool.{and-true, and-false}
use mathlib.Core.List.Memᴰ
use mathlib.Core.List.{List, [], ◌∷◌, ◌++◌, map, append_cancel_right, head-eq_of_cons-eq, tail-eq_of_cons-eq}
use Rattle.std.proofs.Math.Path.{sym, ap, ap₂, subst}
use Rattle.std.proofs.Common.{◌∙◌, arith, eq-eqb, ne_eqb, eqb-true, ltb-true, ltb-false, lt-ltb, le-ltb}
use Rattle.std.proofs.lemmas.Bool.{eqb-false}
use Rattle.std.proofs.lemmas.Nat.{and_le_r}
use Rattle.std.proofs.Math.ListN.{length, get_or, length-map, get_or-map}
use Rattle.lists.specs.Lists.{In, null, same_list}
use Rattle.lists.specs.Tests.{by, never, null-in, same_test, and_left, and_right, and_both}
use Rattle.lists.specs.Lexicographic.{same_numbers, numbers-same}
use Rattle.rows.specs.declared.Row.{Row}
use Rattle.rows.specs.Rows.{has, bit, has_bit}
use Rattle.rows.specs.RowLaws.{bit_is}
use Rattle.rows.specs.Lists.{between, below}
use Rattle.order_form.specs.Lists as ordering
use Rattle.order_form.specs.Lists.{only, below-same}
use Rattle.bitsets.specs.Bitsets.{members, first_bits, Lowest, Rest, Walks}
use Rattle.bitsets.specs.BitLaws.{bit-both, bit-first, bit_past, some-bit, members-of, in_members, members-next, members-none, members-below}
use Rattle.definitions.specs.Records.{Name, Sheet}
use Rattle.definitions.specs.Comparisons.{dotted}
use Rattle.definitions.specs.Map.{LineType, LineMap}
use Rattle.definitions.specs.Synthesis.{first_parents}
use Rattle.law_lines.specs.Statements.{line_map}
use Rattle.law_classes.specs.Sets.{no_type}
use Rattle.synth_dedup.specs.Reading.{names_at}
use Rattle.catalogue.specs.Layout.{key_at}
use Rattle.catalogue.specs.Catalogue.{name_of_key}
use Rattle.catalogue.specs.declared.Catalogue.{Catalogue}
use Rattle.item_refusal.specs.RepeatLaws.{one_place}
use Rattle.synth_annotations.specs.Reading.{dom_at}
use Rattle.synth_classes.specs.Made.{class_name, classes_of, type_names, names_in, firsts_of}
use Rattle.synth_classes.specs.Walks.{class-names}
use Rattle.synth_classes.specs.Known.{Known}
use Rattle.synth_same.specs.Same.{types_in, class_of, same_classes, same_firsts}

-- ---- numbers of bits

-- the numbers from i on of which f holds, one more
between-more : (f : ℕ → Bool) (i n : ℕ) → between f i (suc n) ≡ between f i n ++ only (f (i + n)) (i + n)
unfolding between
between-more f i zero =
    let e : i + 0 ≡ i = omega arith in
    rw e (by (f i) (λ q. rw q refl) (λ q. rw q refl))
between-more f i (suc n) =
    let e : suc i + n ≡ i + suc n = omega arith in
    by (f i)
    (λ q. rw q (ap (λ l. i ∷ l) (rw e at (between-more f (suc i) n))))
    (λ q. rw q (rw e at (between-more f (suc i) n)))

below_is : (f : ℕ → Bool) (n : ℕ) → below f n ≡ ordering.below f n
unfolding between
below_is f zero = refl
below_is f (suc n) =
    let e : 0 + n ≡ n = omega arith in
    (rw e at (between-more f 0 n)) ∙ ap (λ l. l ++ only (f n) n) (below_is f n)

-- numbers of the same bits are the same
same-bits : (n x y : ℕ) → x < 2 ^ n → y < 2 ^ n → ((k : ℕ) → bit x k ≡ bit y k) → x ≡ y
same-bits zero x y h k e = omega arith
same-bits (suc n) x y h k e =
    let p : 2 ^ suc n ≡ 2 * 2 ^ n = omega arith in
    let d : x / 2 ≡ y / 2 = same-bits n (x / 2) (y / 2) (omega arith) (omega arith) (λ k. e (suc k)) in
    let l : x % 2 ≡ y % 2 = e zero in
    omega arith

same-sets : (x y : ℕ) → x < 2 ^ 64 → y < 2 ^ 64 → ((k : ℕ) → has_bit x k ≡ has_bit y k) → x ≡ y
unfolding has_bit
same-sets x y h k e =
    same-bits 64 x y h k
    (λ j.
    by (eqb (bit x j) 1)
    (λ q. eqb-true (bit x j) 1 q ∙ sym (eqb-true (bit y j) 1 (sym (e j) ∙ q)))
    (λ q. omega (arith, eqb-false (bit x j) 1 q, eqb-false (bit y j) 1 (sym (e j) ∙ q), bit_is x j, bit_is y j)))

same_members : (x y : ℕ) → x < 2 ^ 64 → y < 2 ^ 64 → members x ≡ members y → x ≡ y
same_members x y h k e =
    same-sets x y h k
    (λ j.
    by (ltb j 64)
    (λ l.
    let i = ltb-true j 64 l in
    same_test
    (λ q. (members-of y (subst (In j) e (in_members x i q))).1)
    (λ q. (members-of x (subst (In j) (sym e) (in_members y i q))).1))
    (λ l. let i = ltb-false j 64 l in bit_past 64 x j h i ∙ sym (bit_past 64 y j k i)))

some-member : (x : ℕ) → x < 2 ^ 64 → (x ≡ 0 → ⊥) → null (members x) ≡ false
unfolding has_bit
some-member x h z =
    let b = some-bit 64 x h z in
    by (null (members x)) (λ e. absurd (null-in e (in_members x b.1 (eq-eqb (bit x b.0) 1 b.2)))) (λ e. e)

-- ---- the classes of doms and the types of a set, in turn

-- r is what the walk comes to
module _ (test : ℕ → ℕ → Bool) (x : ℕ) (left : List ℕ) (r : Bool) (w : same_list test left (members x) ≡ r) where
  module _ (d k y : ℕ) (rest : List ℕ) (e : left ≡ d ∷ rest) (l : Lowest x k × Rest x y) {b : Bool} (t : b ≡ test d k) where
    turn : (b && same_list test rest (members y)) ≡ r
    turn = ap (λ (z : Bool). z && same_list test rest (members y)) t ∙ sym (ap₂ (same_list test) e (members-next x k y l.0 l.1)) ∙ w

    pub turn-unlike : b ≡ false → false ≡ r
    turn-unlike q = rw q at turn

    pub turn-alike : b ≡ true → same_list test rest (members y) ≡ r
    turn-alike q = rw q at turn

  pub turn-short : (d : ℕ) (rest : List ℕ) → left ≡ d ∷ rest → x ≡ 0 → false ≡ r
  turn-short d rest e z = sym (ap₂ (same_list test) e (members-none x z)) ∙ w

  pub turn-end : (o : Option ℕ) (y : ℕ) → left ≡ [] → Walks x o y → is_none o ≡ r
  turn-end None y e z = sym (ap₂ (same_list test) e (members-none x z.0)) ∙ w
  turn-end (Some k) y e z = sym (ap₂ (same_list test) e (members-next x k y z.0 z.1)) ∙ w

-- ---- two lists of numbers as names

-- names that are each once
map-once : (g : ℕ → Name) (n : ℕ) → ((i j : ℕ) → i < n → j < n → g i ≡ g j → i ≡ j) → (l k : List ℕ) → ((x : ℕ) → In x l → x < n) → ((x : ℕ) → In x k → x < n) → map g l ≡ map g k → l ≡ k
map-once g n once [] [] p q e = refl
map-once g n once [] (y ∷ k) p q e = cc
map-once g n once (x ∷ l) [] p q e = cc
map-once g n once (x ∷ l) (y ∷ k) p q e =
    ap₂ (λ (a : ℕ) (b : List ℕ). a ∷ b)
    (once x y (p x (Memᴰ.head refl)) (q y (Memᴰ.head refl)) (head-eq_of_cons-eq e))
    (map-once g n once l k (λ z i. p z (Memᴰ.tail i)) (λ z i. q z (Memᴰ.tail i)) (tail-eq_of_cons-eq e))

-- a test that says whether the names of two numbers are the same
module _ (test : ℕ → ℕ → Bool) (g h : ℕ → Name) where
  yes-same : (l k : List ℕ) → ((x y : ℕ) → In y k → test x y ≡ true → g x ≡ h y) → same_list test l k ≡ true → map g l ≡ map h k
  yes-same [] [] p e = refl
  yes-same [] (y ∷ k) p e = never e refl
  yes-same (x ∷ l) [] p e = never e refl
  yes-same (x ∷ l) (y ∷ k) p e =
      ap₂ (λ (a : Name) (b : List Name). a ∷ b)
      (p x y (Memᴰ.head refl) (and_left (test x y) (same_list test l k) e))
      (yes-same l k (λ a b i. p a b (Memᴰ.tail i)) (and_right (test x y) (same_list test l k) e))

  same-yes : (l k : List ℕ) → ((x y : ℕ) → In y k → g x ≡ h y → test x y ≡ true) → map g l ≡ map h k → same_list test l k ≡ true
  same-yes [] [] p e = refl
  same-yes [] (y ∷ k) p e = cc
  same-yes (x ∷ l) [] p e = cc
  same-yes (x ∷ l) (y ∷ k) p e = and_both (p x y (Memᴰ.head refl) (head-eq_of_cons-eq e)) (same-yes l k (λ a b i. p a b (Memᴰ.tail i)) (tail-eq_of_cons-eq e))

-- the dom of a class
abbrev dom_back : Name → ℕ
dom_back [] = 0
dom_back (r ∷ []) = 0
dom_back (d ∷ r ∷ l) = suc d

dom-back : (word k : ℕ) → dom_back (class_name word k) ≡ k
dom-back word zero = refl
dom-back word (suc d) = refl

doms-back : (word : ℕ) (l : List ℕ) → map dom_back (map (class_name word) l) ≡ l
doms-back word [] = refl
doms-back word (x ∷ l) = ap₂ (λ (a : ℕ) (b : List ℕ). a ∷ b) (dom-back word x) (doms-back word l)

firsts-inherited : (l cs : List Name) (w : ℕ) → null l ≡ false → first_parents l cs w ≡ map (λ P. dotted P w) l
firsts-inherited [] cs w h = never refl h
firsts-inherited (P ∷ l) cs w h = refl

-- ---- in a map

module _ (s : Sheet) (t : Catalogue) (known : Known s t) where
  abbrev M : LineMap
  M = line_map s

  abbrev n : ℕ
  n = length M.types

  -- the name of the type at a place, and with the word
  abbrev name : ℕ → Name
  name k = get_or (type_names M) k []

  abbrev passed : ℕ → ℕ → Name
  passed word k = dotted (name k) word

  name-key : (k : ℕ) → k < n → name_of_key (key_at t k) ≡ name k
  unfolding type_names
  name-key k h = (known.listed.entry k h).name ∙ sym (get_or-map (λ (D : LineType). D.name) M.types k no_type)

  name_once : (i j : ℕ) → i < n → j < n → name i ≡ name j → i ≡ j
  unfolding type_names
  name_once i j h k e =
      one_place s known.readable known.within i j h k
      (sym (get_or-map (λ (D : LineType). D.name) M.types i no_type) ∙ e ∙ get_or-map (λ (D : LineType). D.name) M.types j no_type)

  types-bit : (ps a : ℕ) → has_bit (types_in t ps) a ≡ (has_bit ps a && ltb a n)
  types-bit ps a =
      let e : min t.count 64 ≡ n = omega (arith, known.listed.count, known.listed.few) in
      bit-both ps (first_bits t.count) a ∙ ap (λ b. has_bit ps a && b) (bit-first t.count a ∙ ap (ltb a) e)

  types-most : (ps : ℕ) → types_in t ps < 2 ^ 64
  unfolding first_bits
  types-most ps = omega (arith, and_le_r ps (first_bits t.count), lib.Pow.pow_mono {i = min t.count 64} {j = 64} (omega arith))

  member-lt : (ps k : ℕ) → In k (members (types_in t ps)) → k < n
  member-lt ps k i = ltb-true k n (and_right (has_bit ps k) (ltb k n) (sym (types-bit ps k) ∙ (members-of (types_in t ps) i).1))

  names-are : (ps : ℕ) → names_in M ps ≡ map name (members (types_in t ps))
  unfolding names_at type_names
  names-are ps =
      let z : length (map (λ (D : LineType). D.name) M.types) ≡ n = length-map M.types (λ (D : LineType). D.name) in
      ap (λ (x : ℕ). map name (below (has_bit ps) x)) z
      ∙ ap (map name)
      (below_is (has_bit ps) n
      ∙ below-same (has_bit ps) (has_bit (types_in t ps)) n (λ a l. sym (types-bit ps a ∙ ap (λ b. has_bit ps a && b) (lt-ltb a n l) ∙ and-true (has_bit ps a)))
      ∙ sym (members-below (types_in t ps) n known.listed.few (λ a l. types-bit ps a ∙ ap (λ b. has_bit ps a && b) (le-ltb a n l) ∙ and-false (has_bit ps a))))

  -- the first parents of an own making, and of an inherited one
  own-firsts : (d : Row) (ps word : ℕ) → types_in t ps ≡ 0 → firsts_of M d ps word ≡ map (class_name word) (below (has d) 201)
  unfolding firsts_of
  own-firsts d ps word z = ap (λ l. first_parents l (classes_of d word) word) (names-are ps ∙ ap (map name) (members-none (types_in t ps) z)) ∙ class-names d word

  null-map : {A B : Type 0} (f : A → B) (l : List A) → null (map f l) ≡ null l
  null-map f [] = refl
  null-map f (x ∷ l) = refl

  passed-firsts : (d : Row) (ps word : ℕ) → (types_in t ps ≡ 0 → ⊥) → firsts_of M d ps word ≡ map (passed word) (members (types_in t ps))
  unfolding firsts_of
  passed-firsts d ps word z =
      let e = names-are ps in
      let m : null (names_in M ps) ≡ false = ap null e ∙ null-map name (members (types_in t ps)) ∙ some-member (types_in t ps) (types-most ps) z in
      firsts-inherited (names_in M ps) (classes_of d word) word m
      ∙ ap (map (λ P. dotted P word)) e
      ∙ Rattle.lists.specs.Appending.map-map (λ P. dotted P word) name (members (types_in t ps))

  -- the class of a dom, and P.r for the type P at a place
  class-yes : (word d k : ℕ) → k < n → class_of t d k ≡ true → class_name word d ≡ passed word k
  unfolding name_of_key
  class-yes word zero k h e = never e refl
  class-yes word (suc d) k h e =
      let x : suc d - 1 ≡ d = omega arith in
      let q : key_at t k ≡ d * 256 = eqb-true (key_at t k) (d * 256) (rw (ne_eqb (suc d) 0 (λ z. omega arith), x) at e) in
      let a : key_at t k / 256 ≡ d = omega arith in
      let b : key_at t k % 256 ≡ 0 = omega arith in
      let c : name_of_key (key_at t k) ≡ d ∷ [] = rw (a, b) refl in
      ap (λ N. dotted N word) (sym c ∙ name-key k h)

  class-same : (word d k : ℕ) → k < n → class_name word d ≡ passed word k → class_of t d k ≡ true
  unfolding name_of_key
  class-same word d k h e =
      let c : dom_at d ≡ name_of_key (key_at t k) = append_cancel_right (dom_at d) (name k) (word ∷ []) e ∙ sym (name-key k h) in
      known-dom d (key_at t k) c
    where
      known-dom : (d key : ℕ) → dom_at d ≡ (key / 256) ∷ cond (eqb (key % 256) 0) [] ((key % 256 - 1) ∷ []) → (not (eqb d 0) && eqb key ((d - 1) * 256)) ≡ true
      known-dom zero key c = cc
      known-dom (suc d) key c =
          let x : suc d - 1 ≡ d = omega arith in
          let a : d ≡ key / 256 = head-eq_of_cons-eq c in
          let b : [] ≡ cond (eqb (key % 256) 0) [] ((key % 256 - 1) ∷ []) = tail-eq_of_cons-eq c in
          by (eqb (key % 256) 0)
          (λ q. rw (ne_eqb (suc d) 0 (λ z. omega arith), x) (eq-eqb key (d * 256) (omega (arith, eqb-true (key % 256) 0 q))))
          (λ q. let z : [] ≡ (key % 256 - 1) ∷ [] = rw q at b in absurd (cc))

  -- ---- both

  module _ (d : Row) (ps : ℕ) (e : Row) (qs word : ℕ) where
    abbrev F : List Name
    F = firsts_of M d ps word

    abbrev G : List Name
    G = firsts_of M e qs word

    -- an own making and an inherited one
    mixed-yes : (c : Row) (x : ℕ) → same_classes t c (types_in t x) ≡ true → map (class_name word) (below (has c) 201) ≡ map (passed word) (members (types_in t x))
    mixed-yes c x q = yes-same (class_of t) (class_name word) (passed word) (below (has c) 201) (members (types_in t x)) (λ a b i. class-yes word a b (member-lt x b i)) q

    mixed-same : (c : Row) (x : ℕ) → map (class_name word) (below (has c) 201) ≡ map (passed word) (members (types_in t x)) → same_classes t c (types_in t x) ≡ true
    mixed-same c x q = same-yes (class_of t) (class_name word) (passed word) (below (has c) 201) (members (types_in t x)) (λ a b i. class-same word a b (member-lt x b i)) q

    pub firsts-yes : same_firsts t d ps e qs ≡ true → F ≡ G
    unfolding same_firsts
    firsts-yes h =
        by (eqb (types_in t ps) 0)
        (λ p.
        by (eqb (types_in t qs) 0)
        (λ q.
        own-firsts d ps word (eqb-true (types_in t ps) 0 p)
        ∙ ap (map (class_name word)) (same_numbers (below (has d) 201) (below (has e) 201) (rw (p, q) at h))
        ∙ sym (own-firsts e qs word (eqb-true (types_in t qs) 0 q)))
        (λ q.
        own-firsts d ps word (eqb-true (types_in t ps) 0 p)
        ∙ mixed-yes d qs (rw (p, q) at h)
        ∙ sym (passed-firsts e qs word (eqb-false (types_in t qs) 0 q))))
        (λ p.
        by (eqb (types_in t qs) 0)
        (λ q.
        passed-firsts d ps word (eqb-false (types_in t ps) 0 p)
        ∙ sym (mixed-yes e ps (rw (p, q) at h))
        ∙ sym (own-firsts e qs word (eqb-true (types_in t qs) 0 q)))
        (λ q.
        passed-firsts d ps word (eqb-false (types_in t ps) 0 p)
        ∙ ap (λ (x : ℕ). map (passed word) (members x)) (eqb-true (types_in t ps) (types_in t qs) (rw (p, q) at h))
        ∙ sym (passed-firsts e qs word (eqb-false (types_in t qs) 0 q))))

    pub firsts-same : F ≡ G → same_firsts t d ps e qs ≡ true
    unfolding same_firsts
    firsts-same h =
        by (eqb (types_in t ps) 0)
        (λ p.
        by (eqb (types_in t qs) 0)
        (λ q.
        let z : map (class_name word) (below (has d) 201) ≡ map (class_name word) (below (has e) 201) =
        sym (own-firsts d ps word (eqb-true (types_in t ps) 0 p)) ∙ h ∙ own-firsts e qs word (eqb-true (types_in t qs) 0 q) in
        rw (p, q) (numbers-same (sym (doms-back word (below (has d) 201)) ∙ ap (map dom_back) z ∙ doms-back word (below (has e) 201))))
        (λ q.
        rw (p, q)
        (mixed-same d qs (sym (own-firsts d ps word (eqb-true (types_in t ps) 0 p)) ∙ h ∙ passed-firsts e qs word (eqb-false (types_in t qs) 0 q)))))
        (λ p.
        by (eqb (types_in t qs) 0)
        (λ q.
        rw (p, q)
        (mixed-same e ps (sym (own-firsts e qs word (eqb-true (types_in t qs) 0 q)) ∙ sym h ∙ passed-firsts d ps word (eqb-false (types_in t ps) 0 p))))
        (λ q.
        let z : map (passed word) (members (types_in t ps)) ≡ map (passed word) (members (types_in t qs)) =
        sym (passed-firsts d ps word (eqb-false (types_in t ps) 0 p)) ∙ h ∙ passed-firsts e qs word (eqb-false (types_in t qs) 0 q) in
        let l : members (types_in t ps) ≡ members (types_in t qs) =
        map-once (passed word) n (λ i j a b c. name_once i j a b (append_cancel_right (name i) (name j) (word ∷ []) c))
        (members (types_in t ps)) (members (types_in t qs)) (member-lt ps) (member-lt qs) z in
        rw (p, q) (eq-eqb (types_in t ps) (types_in t qs) (same_members (types_in t ps) (types_in t qs) (types-most ps) (types-most qs) l))))
