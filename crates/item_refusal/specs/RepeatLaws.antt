-- An own making that is the inherited one again, by numbers, is what the definitions ask of each type and own class.
use Rattle.std.proofs.Math.Bool.{Bool, true, not, beq, and-false, and_assoc}
use Rattle.std.specs.Prelude.{false, ◌&&◌, ◌||◌, ◌↔◌, ◌≡◌, refl, ℕ, ◌≤◌, ◌<◌, ltb, length}
use mathlib.Core.List.Memᴰ
use mathlib.Core.List.{List, [], ◌∷◌, ◌++◌, map, append_cancel_right}
use Rattle.std.proofs.Common.{⊎_elim, ◌∙◌, arith}
use Rattle.std.proofs.Math.Path.{sym, ap, ap₂, subst}
use borrow.Author.Tests.{eq-eqb, ne_eqb, eqb-true, ltb-true, ltb-false, lt-ltb, le-ltb}
use Rattle.std.specs.Int.Bits.{bit_and}
use Rattle.std.proofs.Math.Dec.{eqb}
use Rattle.lists.specs.Lists.{In, any, all, filter, each, same_list}
use Rattle.lists.specs.Tests.{by, never, not_so, same_test, and_left, and_right, and_both, any-not, any_none, all_same, each_of, filter-of}
use Rattle.lists.specs.Appending.{all_map, each-each, each_map, each_same}
use Rattle.lists.specs.Places.{get_d-in}
use Rattle.lists.specs.Lexicographic.{same_self, same_true}
use Rattle.definitions.specs.Records.{Name, Mark, Sheet}
use Rattle.definitions.specs.Bits.{to_bits}
use Rattle.definitions.specs.Packing.{mark_bits}
use Rattle.definitions.specs.Comparisons.{same_name, dotted}
use Rattle.definitions.specs.Map.{LineType, LineMap, line_type_of}
use Rattle.definitions.specs.Making.{same_mark}
use Rattle.definitions.specs.Items.{parents_of}
use Rattle.law_orders.specs.Comparisons.{same-name, name-same}
use Rattle.law_lines.specs.Statements.{Readable, line_map}
use Rattle.law_lines.specs.Declarations.{type-of}
use Rattle.law_lines.specs.Within.{Within}
use Rattle.rows.specs.Rows.{has_bit}
use Rattle.rows.specs.RowLaws.{bit-none}
use Rattle.order_form.specs.Lists.{below, below-same, below_one}
use Rattle.bitsets.specs.Bitsets.{members, more, less}
use Rattle.bitsets.specs.BitLaws.{bit-both, bit-less, bit-more, members-of, in_members, below_of, in-below}
use Rattle.law_classes.specs.Sets.{both, some, word_of, masked, own_set, above_set, passed_set, no_type, type_at, SetIs}
use Rattle.law_classes.specs.Numbers.{place-of, Fits, fits_both, holds-both, holds-some}
use Rattle.law_classes.specs.Walks.{some-walked, passing-walked}
use Rattle.law_classes.proofs.ItemLaws.{plain_map}
use Rattle.law_classes.proofs.ClassOrder
use Rattle.law_classes.specs.Refusal.{firsts, identical, crosses}
use Rattle.catalogue.specs.Layout.{packed_at, marks_at, mark_width, parents_at, own_at, above_at, passed_at, owner_at, second_at}
use Rattle.catalogue.specs.Catalogue.{Catalogued}
use Rattle.catalogue.specs.ByDom.{by_dom}
use Rattle.catalogue.specs.DomLaws.{by_dom-of, in-by_dom}
use Rattle.catalogue.specs.ClassOrder.{classes-by-dom}
use Rattle.catalogue.specs.declared.Catalogue.{Catalogue}
use Rattle.item_refusal.specs.Tests.{same_word, passes, passes_alone, is_virtual, same_virtual, same_marks, repeated, repeated_for, types_in, pairs_in}
use Rattle.item_refusal.specs.TestLaws.{repeated-none}
use Rattle.item_refusal.specs.WordLaws.{WordSet, named-pair, same-word-set, types-bit, pairs-past, pairs-bit}
use Rattle.item_refusal.specs.TakenLaws.{owner-lt, owner-is}
use Rattle.item_refusal.specs.MarkLaws.{AllWithin, follow-is, follow-append}

-- two places with one name are one place
pub one_place : (s : Sheet) → Readable s → Within s → (p q : ℕ) → p < length (line_map s).types → q < length (line_map s).types → (type_at (line_map s) p).name ≡ (type_at (line_map s) q).name → p ≡ q
one_place s ok within p q h i e = ClassOrder.one_place (line_map s) (plain_map s ok within) p q h i e

module _ (s : Sheet) (ok : Readable s) (within : Within s) (t : Catalogue) (k : Catalogued s t) where
  abbrev m : LineMap
  m = line_map s

  abbrev n : ℕ
  n = length m.types

  -- ---- the first parents are the class alone

  -- never, where the class is not named after a type
  firsts-none : (T C : LineType) (r : ℕ) → ((p : ℕ) → p < n → same_name C.name (dotted (type_at m p).name r) ≡ false) → same_list same_name (C.name ∷ []) (firsts m T r) ≡ false
  unfolding firsts parents_of
  firsts-none T C r z =
      not_so
      (λ e.
      let g : LineType → Name = λ P. dotted P.name r in
      let pass : LineType → Bool = λ P. some m (both (passed_set m P) (masked r)) in
      let q = same_true same_name same-name (C.name ∷ []) (firsts m T r) e in
      let x = Memᴰ.of_map g (filter pass (parents_of m T)) (subst (In C.name) q (Memᴰ.head refl)) in
      let i = (filter-of (λ (P : LineType). T.inherits P.name) m.types (filter-of pass (parents_of m T) x.1).0).0 in
      let p = place-of no_type x.0 m.types i in
      never (name-same (sym x.2 ∙ ap g (sym p.2))) (z p.0 p.1))

  module _ (a p r mask : ℕ) (h : a < n) (hp : p < n) (w : WordSet m mask r) where
    abbrev T : LineType
    T = type_at m a

    abbrev parents : ℕ
    parents = parents_at t a

    abbrev c : Name
    c = dotted (type_at m p).name r

    -- a parent that passes the word on
    abbrev f : ℕ → Bool
    f q = has_bit parents q && passes t mask q

    firsts-are : firsts m T r ≡ map (λ (P : LineType). dotted P.name r) (map (type_at m) (below f n))
    unfolding firsts passes
    firsts-are =
        ap (map (λ (P : LineType). dotted P.name r)) (passing-walked m T r parents mask (passed_at t) (k.sets a h).parents (λ q i. (k.sets q i).passed) w.fits w.is)

    -- the others
    abbrev others : ℕ
    others = less parents (more 0 p)

    other-bit : (q : ℕ) → has_bit others q ≡ (has_bit parents q && not (eqb p q))
    other-bit q = bit-less parents (more 0 p) q ∙ ap (λ b. has_bit parents q && not b) (bit-more 0 p q ∙ ap (λ b. b || eqb p q) (bit-none q))

    alone-to : same_list same_name (c ∷ []) (firsts m T r) ≡ true → passes_alone t parents p mask ≡ true
    unfolding passes_alone
    alone-to e =
        let g : LineType → Name = λ D. dotted D.name r in
        let l = below f n in
        let q : c ∷ [] ≡ map g (map (type_at m) l) = same_true same_name same-name (c ∷ []) (firsts m T r) e ∙ firsts-are in
        let alone : (x : ℕ) → x < n → f x ≡ true → x ≡ p =
        λ x i b.
        let y : In (g (type_at m x)) (map g (map (type_at m) l)) = Memᴰ.map g (Memᴰ.map (type_at m) (in-below f n i b)) in
        let z = Memᴰ.eq_of_singleton (subst (In (g (type_at m x))) (sym q) y) in
        one_place s ok within x p i hp (append_cancel_right (type_at m x).name (type_at m p).name (r ∷ []) z) in
        let x = Memᴰ.of_map g (map (type_at m) l) (subst (In c) q (Memᴰ.head refl)) in
        let y = Memᴰ.of_map (type_at m) l x.1 in
        let b = below_of f n y.1 in
        let there : f p ≡ true = subst (λ x. f x ≡ true) (alone y.0 b.0 b.1) b.1 in
        and_both (and_left (has_bit parents p) (passes t mask p) there)
        (and_both (and_right (has_bit parents p) (passes t mask p) there)
        (ap not
        (any_none (passes t mask) (members others)
        (λ x i.
        let o = sym (other-bit x) ∙ (members-of others i).1 in
        let par = and_left (has_bit parents x) (not (eqb p x)) o in
        not_so
        (λ u.
        by (ltb x n)
        (λ j. never (eq-eqb p x (sym (alone x (ltb-true x n j) (and_both par u)))) (borrow.Author.Tests.not-true (eqb p x) (and_right (has_bit parents x) (not (eqb p x)) o)))
        (λ j. never par ((k.sets a h).parents_fit.within x (ltb-false x n j))))))))

    alone-from : passes_alone t parents p mask ≡ true → same_list same_name (c ∷ []) (firsts m T r) ≡ true
    unfolding passes_alone
    alone-from e =
        let par = and_left (has_bit parents p) (passes t mask p && not (any (passes t mask) (members others))) e in
        let e₁ = and_right (has_bit parents p) (passes t mask p && not (any (passes t mask) (members others))) e in
        let pas = and_left (passes t mask p) (not (any (passes t mask) (members others))) e₁ in
        let none = borrow.Author.Tests.not-true (any (passes t mask) (members others)) (and_right (passes t mask p) (not (any (passes t mask) (members others))) e₁) in
        let one : (x : ℕ) → x < n → f x ≡ eqb p x =
        λ x i.
        by (eqb p x)
        (λ q. subst (λ x. f x ≡ true) (eqb-true p x q) (and_both par pas) ∙ sym q)
        (λ q.
        by (has_bit parents x)
        (λ b. rw (b, q) (any-not (passes t mask) none (in_members others (omega (arith, i, k.listed.few)) (other-bit x ∙ and_both b (ap not q)))))
        (λ b. rw (b, q))) in
        let z : below f n ≡ p ∷ [] = below-same f (λ x. eqb p x) n one ∙ below_one n p hp in
        rw (firsts-are, z) (same_self same_name (λ x. name-same {a = x} refl) (c ∷ []))

    pub alone-is : same_list same_name (c ∷ []) (firsts m T r) ≡ passes_alone t parents p mask
    alone-is = same_test alone-to alone-from

  -- ---- the classes of the inherited making, by their places

  module _ (classes : ℕ) (fits : Fits m classes) where
    abbrev ones : ℕ
    ones = second_at t 0

    -- those of one word, then the others
    abbrev places : List ℕ
    places = by_dom t (bit_and classes ones) ++ by_dom t (less classes ones)

    class-lt : (x : ℕ) → has_bit classes x ≡ true → x < n
    class-lt x b = by (ltb x n) (λ l. ltb-true x n l) (λ l. never b (fits.within x (ltb-false x n l)))

    -- they are the places of the set
    places-are : (x : ℕ) → In x places ↔ In x (members classes)
    places-are x = (
      λ i.
          ⊎_elim
          (λ j.
          let b = members-of (bit_and classes ones) (by_dom-of t (bit_and classes ones) j) in
          in_members classes b.0 (and_left (has_bit classes x) (has_bit ones x) (sym (bit-both classes ones x) ∙ b.1)))
          (λ j.
          let b = members-of (less classes ones) (by_dom-of t (less classes ones) j) in
          in_members classes b.0 (and_left (has_bit classes x) (not (has_bit ones x)) (sym (bit-less classes ones x) ∙ b.1)))
          (Memᴰ.append_cases (by_dom t (bit_and classes ones)) i),
      λ i.
          let b = members-of classes i in
          by (has_bit ones x)
          (λ o. Memᴰ.append_left (by_dom t (less classes ones)) (in-by_dom t (bit_and classes ones) (in_members (bit_and classes ones) b.0 (bit-both classes ones x ∙ and_both b.1 o))))
          (λ o. Memᴰ.append_right (by_dom t (bit_and classes ones)) (in-by_dom t (less classes ones) (in_members (less classes ones) b.0 (bit-less classes ones x ∙ and_both b.1 (ap not o))))),
    )

    place-lt : (x : ℕ) → In x places → x < n
    place-lt x i = class-lt x (members-of classes ((places-are x).0 i)).1

    -- ---- virtual

    virtual-at : (x : ℕ) → x < n → is_virtual t x ≡ (type_at m x).virtual
    virtual-at x h = (k.listed.entry x h).is_virtual

    all-agree : (f g : ℕ → Bool) (l : List ℕ) → ((x : ℕ) → In x l → f x ≡ g x) → all f l ≡ all g l
    all-agree f g [] z = refl
    all-agree f g (x ∷ l) z = ap₂ (λ a b. a && b) (z x (Memᴰ.head refl)) (all-agree f g l (λ y i. z y (Memᴰ.tail i)))

    all-is : all (λ (E : LineType). E.virtual) (map (type_at m) places) ≡ all (is_virtual t) (members classes)
    all-is =
        all_map (λ (E : LineType). E.virtual) (type_at m) places
        ∙ all-agree (λ x. (type_at m x).virtual) (is_virtual t) places (λ x i. sym (virtual-at x (place-lt x i)))
        ∙ all_same (is_virtual t) places (members classes) places-are

    -- where T is not virtual, neither making is
    both-flags : (v x y : Bool) → beq (v && x) (v && y) ≡ (not v || beq x y)
    both-flags true x y = refl
    both-flags false x y = refl

    pub virtual_is : (a c : ℕ) → a < n → c < n
        → beq ((type_at m a).virtual && (type_at m c).virtual) ((type_at m a).virtual && all (λ (E : LineType). E.virtual) (map (type_at m) places)) ≡ same_virtual t a c classes
    unfolding same_virtual
    virtual_is a c h i =
        both-flags (type_at m a).virtual (type_at m c).virtual (all (λ (E : LineType). E.virtual) (map (type_at m) places))
        ∙ ap₂ (λ v b. not v || b) (sym (virtual-at a h)) (ap₂ beq (sym (virtual-at c i)) all-is)

    -- ---- marks

    marks-within : (D : LineType) → In D m.types → AllWithin D.marks
    unfolding line_type_of
    marks-within D i = let x = type-of s i in subst (λ (D : LineType). AllWithin D.marks) x.2 (within.type x.0 x.1).mark

    pub marks-is : (c : ℕ) → c < n → same_list same_mark (type_at m c).marks (each (λ (E : LineType). E.marks) (map (type_at m) places)) ≡ same_marks t c classes
    unfolding same_marks
    marks-is c i =
        let marks = marks_at t c in
        let left = mark_width t c in
        let entry = k.listed.entry c i in
        let ms : LineType → List Mark = λ (E : LineType). E.marks in
        let ys = each ms (map (type_at m) places) in
        let q : each (λ e. to_bits (mark_width t e) (marks_at t e)) places ≡ each mark_bits ys =
        each_same (λ e. to_bits (mark_width t e) (marks_at t e)) (λ e. each mark_bits (type_at m e).marks) places (λ e j. (k.listed.entry e (place-lt e j)).mark_bits)
        ∙ sym (each_map (λ (E : LineType). each mark_bits E.marks) (type_at m) places)
        ∙ sym (each-each ms mark_bits (map (type_at m) places)) in
        sym (follow-is t marks places left (type_at m c).marks ys (omega (arith, (packed_at t c).narrow, (packed_at t c).few)) entry.mark_bits q
        (marks-within (type_at m c) (get_d-in m.types no_type c i))
        (λ x j.
        let y = each_of ms (map (type_at m) places) j in
        let z = Memᴰ.of_map (type_at m) places y.1 in
        marks-within y.0 (subst (λ D. In D m.types) z.2 (get_d-in m.types no_type z.0 (place-lt z.0 z.1))) x y.2))
        ∙ ap (λ (x : ℕ). eqb x 0) (follow-append t marks (by_dom t (bit_and classes ones)) (by_dom t (less classes ones)) left)

  -- ---- one own class

  -- the making of an own class is the inherited one of its word again
  abbrev Again : ℕ → ℕ → Bool
  Again a c =
      let T = type_at m a in
      let C = type_at m c in
      some m (both (above_set m T) (masked (word_of C.name))) && identical m T (word_of C.name) C

  -- it is not, where the class has no owner
  again-none : (a c : ℕ) → c < n → 64 ≤ owner_at t c → Again a c ≡ false
  unfolding identical
  again-none a c i h =
      let T = type_at m a in
      let C = type_at m c in
      let r = word_of C.name in
      let z = firsts-none T C r (λ p j. sym (k.owned.owner c p i j) ∙ ne_eqb (owner_at t c) p (λ q. omega (arith, q, h, j, k.listed.few))) in
      rw z (and-false (some m (both (above_set m T) (masked r))))

  module _ (a c : ℕ) (h : a < n) (i : c < n) (l : owner_at t c < 64) where
    abbrev word : ℕ
    word = same_word t c

    abbrev above : ℕ
    above = bit_and (above_at t a) word

    again-some : Again a c ≡ repeated t a c
    unfolding identical repeated
    again-some =
        let T = type_at m a in
        let C = type_at m c in
        let r = word_of C.name in
        let p = owner_at t c in
        let hp = owner-lt s ok within t k c i l in
        let o = owner-is s ok within t k c i l in
        let w = same-word-set s ok within t k c (type_at m p) i (get_d-in m.types no_type p hp) o in
        let S = both (above_set m T) (masked r) in
        let set : SetIs m above S = holds-both m (above_at t a) word (above_set m T) (masked r) (k.sets a h).above w.is in
        let fits : Fits m above = fits_both m (above_at t a) word w.fits in
        let cs = classes-by-dom s (plain_map s ok within) t k.listed above r (above_set m T) fits set in
        let name : C.name ≡ dotted (type_at m p).name r = same-name C.name (dotted (type_at m p).name r) o in
        let first : same_list same_name (C.name ∷ []) (firsts m T r) ≡ passes_alone t (parents_at t a) p word =
        ap (λ (x : Name). same_list same_name (x ∷ []) (firsts m T r)) name ∙ alone-is a p r word h hp w in
        rw (lt-ltb p 64 l)
        (ap₂ (λ x y. x && y) (holds-some m above S fits set)
        (ap₂ (λ x y. x && y) first
        (ap₂ (λ x y. x && y)
        (ap (λ (Cs : List LineType). beq (T.virtual && C.virtual) (T.virtual && all (λ (E : LineType). E.virtual) Cs)) cs ∙ virtual_is above fits a c h i)
        (ap (λ (Cs : List LineType). same_list same_mark C.marks (each (λ (E : LineType). E.marks) Cs)) cs ∙ marks-is above fits c i))))

    two-words : has_bit (pairs_in t) c ≡ true
    two-words =
        let p = owner_at t c in
        let hp = owner-lt s ok within t k c i l in
        pairs-bit s ok within t k c i ∙ ap not (named-pair s ok within t k (type_at m p) (type_at m c) (get_d-in m.types no_type p hp) (owner-is s ok within t k c i l))

  again-is : (a c : ℕ) → a < n → c < n → Again a c ≡ (has_bit (pairs_in t) c && repeated t a c)
  again-is a c h i =
      by (ltb (owner_at t c) 64)
      (λ e. let l = ltb-true (owner_at t c) 64 e in again-some a c h i l ∙ sym (ap (λ b. b && repeated t a c) (two-words a c h i l)))
      (λ e.
      let l = ltb-false (owner_at t c) 64 e in
      again-none a c i l ∙ sym (ap (λ b. has_bit (pairs_in t) c && b) (sym (repeated-none t a c l)) ∙ and-false (has_bit (pairs_in t) c)))

  -- ---- all own classes of a type, and all types

  crosses-at : (a : ℕ) → a < n → crosses m (type_at m a) ≡ repeated_for t (pairs_in t) a
  unfolding crosses repeated_for
  crosses-at a h =
      let T = type_at m a in
      let set = bit_and (own_at t a) (pairs_in t) in
      some-walked m set (λ (C : LineType). own_set T C && (some m (both (above_set m T) (masked (word_of C.name))) && identical m T (word_of C.name) C)) (repeated t a) k.listed.few
      (λ c j. bit-both (own_at t a) (pairs_in t) c ∙ ap (λ b. has_bit (own_at t a) c && b) (pairs-past s ok within t k c j) ∙ and-false (has_bit (own_at t a) c))
      (λ c i.
      ap₂ (λ x y. x && y) (sym ((k.sets a h).own c i)) (again-is a c h i)
      ∙ sym (and_assoc (has_bit (own_at t a) c) (has_bit (pairs_in t) c) (repeated t a c))
      ∙ ap (λ b. b && repeated t a c) (sym (bit-both (own_at t a) (pairs_in t) c)))

  pub crosses-is : any (crosses m) m.types ≡ any (repeated_for t (pairs_in t)) (members (types_in t))
  crosses-is =
      some-walked m (types_in t) (crosses m) (repeated_for t (pairs_in t)) k.listed.few
      (λ a j. types-bit s ok within t k a ∙ le-ltb a n j)
      (λ a h. crosses-at a h ∙ sym (ap (λ b. b && repeated_for t (pairs_in t) a) (types-bit s ok within t k a ∙ lt-ltb a n h)))
