-- Where every class is declared, the lists that the items are made of are the members of sets.
use Rattle.std.specs.Prelude.{Bool, true, false, ◌&&◌, ◌||◌, ◌≡◌, refl, ℕ, zero, suc, ◌<◌, eqb, ltb}
use mathlib.Core.List.Memᴰ
use mathlib.Core.List.{List, [], ◌∷◌, map}
use Rattle.std.proofs.Common.{◌∙◌, subst, eq-eqb, eqb-true, lt-ltb}
use Rattle.std.proofs.Math.Path.{sym, ap, ap₂}
use Rattle.lists.specs.Lists.{In, Sorted, list_before, filter, sort, set_of}
use Rattle.lists.specs.Tests.{never, same_test, and_left, and_right, and_both, cons-elim, any-in, any_of, filter-in, filter-of}
use Rattle.lists.specs.Strict.{asymmetric, number-strict}
use Rattle.lists.specs.Appending.{map-map, map_same}
use Rattle.lists.specs.Members.{sorted-map}
use Rattle.lists.specs.Sorting.{Ascending, sorted-append, sorted_filter, sorted-imp, sorted-unique, sort-is, sort_sorted, set_is, set-sorted}
use Rattle.definitions.specs.Records.{Name, Dom, Resource}
use Rattle.definitions.specs.Comparisons.{same_name, name_before, dom_before, dotted}
use Rattle.definitions.specs.Map.{LineType, LineMap}
use Rattle.definitions.specs.Making.{class_names}
use Rattle.definitions.specs.Items.{of_word, has_word}
use Rattle.law_orders.specs.Comparisons.{name-strict, dom-strict, same-name, name-same}
use Rattle.law_lines.specs.Associating.{word-is, has_word_lem, word-of}
use Rattle.order_form.specs.Lists.{only, below}
pub use Rattle.bitsets.specs.BitLaws.{below_of, in-below}
use Rattle.law_classes.specs.Sets.{Set, both, some, one_word, two_words, word_of, dom_of, class_of, named, masked, classes_in}

-- ---- the numbers below n ascend

only-sorted : (b : Bool) (n : ℕ) → Ascending ltb (only b n)
only-sorted true n = (λ y i. absurd (Memᴰ.not-nil i), tt)
only-sorted false n = tt

only_of : (b : Bool) (n : ℕ) {x : ℕ} → In x (only b n) → x ≡ n
only_of true n i = cons-elim i (λ e. e) (λ j. absurd (Memᴰ.not-nil j))
only_of false n i = absurd (Memᴰ.not-nil i)

pub below-ascends : (f : ℕ → Bool) (n : ℕ) → Ascending ltb (below f n)
below-ascends f zero = tt
below-ascends f (suc n) =
    sorted-append (λ a b. ltb a b ≡ true) (below f n) (only (f n) n) (below-ascends f n) (only-sorted (f n) n)
    (λ x y i j. lt-ltb x y (subst (λ k. x < k) (sym (only_of (f n) n j)) (below_of f n i).0))

-- ---- names of one word or two

abbrev pub Short : Name → Type 0
Short n = (one_word n || two_words n) ≡ true

-- the parts of a class name
pub parts : (d : Dom) (r : ℕ) → Short (dotted d r) → (word_of (dotted d r) ≡ r) × (dom_of (dotted d r) ≡ d)
parts [] r h = (refl, refl)
parts (a ∷ []) r h = (refl, refl)
parts (a ∷ b ∷ []) r h = never h refl
parts (a ∷ b ∷ c ∷ d) r h = never h refl

-- and the name from its parts
pub whole : (n : Name) → Short n → dotted (dom_of n) (word_of n) ≡ n
whole [] h = never h refl
whole (a ∷ []) h = refl
whole (a ∷ b ∷ []) h = refl
whole (a ∷ b ∷ c ∷ l) h = never h refl

-- names of one word, that word, are equal; names of two words with one last word go by the first
pub alone-once : (a b : Name) → one_word a ≡ true → one_word b ≡ true → word_of a ≡ word_of b → a ≡ b
alone-once [] b h k e = never h refl
alone-once (x ∷ y ∷ l) b h k e = never h refl
alone-once (x ∷ []) [] h k e = never k refl
alone-once (x ∷ []) (y ∷ []) h k e = ap (λ z. z ∷ []) e
alone-once (x ∷ []) (y ∷ z ∷ l) h k e = never k refl

first-before : (x y r : ℕ) → (ltb x y || (eqb x y && (ltb r r || (eqb r r && false)))) ≡ true → (ltb x y || (eqb x y && false)) ≡ true
first-before x y r e = rw (number-strict.irreflexive r, eq-eqb r r refl) at e

pub paired-before : (a b : Name) → Short a → Short b → one_word a ≡ false → one_word b ≡ false → word_of a ≡ word_of b → list_before a b ≡ true → dom_before (dom_of a) (dom_of b) ≡ true
unfolding dom_before
paired-before [] b s t h k e l = never s refl
paired-before (x ∷ []) b s t h k e l = never refl h
paired-before (x ∷ y ∷ z ∷ a) b s t h k e l = never s refl
paired-before (x ∷ r ∷ []) [] s t h k e l = never t refl
paired-before (x ∷ r ∷ []) (y ∷ []) s t h k e l = never refl k
paired-before (x ∷ r ∷ []) (y ∷ q ∷ z ∷ b) s t h k e l = never t refl
paired-before (x ∷ r ∷ []) (y ∷ q ∷ []) s t h k e l = first-before x y r (subst (λ w. (ltb x y || (eqb x y && (ltb r w || (eqb r w && false)))) ≡ true) (sym e) l)

pub alone-before : (a b : Name) → Short b → one_word a ≡ true → one_word b ≡ false → dom_before (dom_of a) (dom_of b) ≡ true
unfolding dom_before
alone-before [] b t h k = never h refl
alone-before (x ∷ y ∷ a) b t h k = never h refl
alone-before (x ∷ []) [] t h k = never t refl
alone-before (x ∷ []) (y ∷ []) t h k = never refl k
alone-before (x ∷ []) (y ∷ z ∷ b) t h k = refl

-- ---- a map, and resources whose classes are declared

-- what is asked of the map: names of one word or two, ascending
pub record Plain (m : LineMap) : Type 0 where
  pub short : (D : LineType) → In D m.types → Short D.name
  pub ascend : Sorted (λ (P Q : LineType). name_before m.words P.name Q.name ≡ true) m.types

-- classes of one word with one dom have one name, so that no two of a word have one dom
pub doms-apart : (m : LineMap) → Plain m → (S : Set) (r : ℕ) → Sorted (λ (D E : LineType). dom_of D.name ≡ dom_of E.name → ⊥) (filter (both S (masked r)) m.types)
doms-apart m plain S r =
    let word : (D : LineType) → In D (filter (both S (masked r)) m.types) → In D m.types × (word_of D.name ≡ r) =
    λ D i. let x = filter-of (both S (masked r)) m.types i in (x.0, eqb-true (word_of D.name) r (and_right (S D) (masked r D) x.1)) in
    sorted-imp (filter (both S (masked r)) m.types)
    (λ D E i j b e.
    let x = word D i in
    let y = word E j in
    let n : D.name ≡ E.name = sym (whole D.name (plain.short D x.0)) ∙ ap₂ dotted e (x.1 ∙ sym y.1) ∙ whole E.name (plain.short E y.0) in
    never b (rw n ((name-strict m.words).irreflexive E.name)))
    (sorted_filter (λ (P Q : LineType). name_before m.words P.name Q.name ≡ true) (both S (masked r)) m.types plain.ascend)

-- every class is declared
abbrev pub Known : LineMap → List Resource → Type 0
Known m us = (u : Resource) → In u us → (D : LineType) × In D m.types × (D.name ≡ class_of u)

named_in : {us : List Resource} {u : Resource} (D : LineType) → In u us → D.name ≡ class_of u → named us D ≡ true
unfolding named
named_in D i e = any-in (λ (u : Resource). same_name D.name (class_of u)) i (name-same e)

named-of : (us : List Resource) (D : LineType) → named us D ≡ true → (u : Resource) × In u us × (D.name ≡ class_of u)
unfolding named
named-of us D e = let x = any_of (λ (u : Resource). same_name D.name (class_of u)) us e in (x.0, x.1, same-name D.name (class_of x.0) x.2)

module _ (m : LineMap) (plain : Plain m) (us : List Resource) where
  -- the classes of the word r
  abbrev classes : ℕ → Set
  classes r = both (named us) (masked r)

  -- a member of the set is the class of a resource of that word
  pub class-of : (r : ℕ) (D : LineType) → In D m.types → classes r D ≡ true → (u : Resource) × In u us × (D.name ≡ class_of u) × (u.word ≡ r) × (u.dom ≡ dom_of D.name)
  class-of r D i e =
      let x = named-of us D (and_left (named us D) (masked r D) e) in
      let s : Short (class_of x.0) = subst Short x.2 (plain.short D i) in
      let p = parts x.0.dom x.0.word s in
      let w : word_of D.name ≡ r = eqb-true (word_of D.name) r (and_right (named us D) (masked r D) e) in
      (x.0, x.1, x.2, sym p.0 ∙ ap word_of (sym x.2) ∙ w, sym p.1 ∙ ap dom_of (sym x.2))

  module _ (known : Known m us) where
    -- and the class of a resource is a member
    pub class-in : (u : Resource) → In u us → (D : LineType) × In D m.types × (classes u.word D ≡ true) × (u.dom ≡ dom_of D.name) × (D.name ≡ class_of u)
    class-in u i =
        let k = known u i in
        let p = parts u.dom u.word (subst Short k.2 (plain.short k.0 k.1)) in (
          k.0,
          k.1,
          and_both (named_in k.0 i k.2) (eq-eqb (word_of k.0.name) u.word (ap word_of k.2 ∙ p.0)),
          sym p.1 ∙ ap dom_of (sym k.2),
          k.2,
        )

    -- 'associates r': the set and the mask meet
    pub word-meets : (r : ℕ) → has_word us r ≡ some m (both (named us) (masked r))
    word-meets r =
        same_test
        (λ e.
        let x = word-of us r e in
        let c = class-in x.0 x.1 in
        any-in (classes r) c.1 (subst (λ w. classes w c.0 ≡ true) x.2 c.2))
        (λ e.
        let x = any_of (classes r) m.types e in
        let c = class-of r x.0 x.1 x.2 in
        has_word_lem c.1 c.3)

    -- ---- the doms of a word

    abbrev dom : LineType → Dom
    dom D = dom_of D.name

    abbrev of_set : ℕ → List LineType
    of_set r = filter (classes r) m.types

    abbrev Later : LineType → LineType → Bool
    Later D E = dom_before (dom D) (dom E)

    -- in class order: the doms that the resources give r are those of the members, in their order
    pub doms-in-set : (r : ℕ) → set_of dom_before (map (λ (u : Resource). u.dom) (of_word r us)) ≡ map (λ (D : LineType). dom_of D.name) (classes_in m (both (named us) (masked r)))
    unfolding classes_in
    doms-in-set r =
        let l = map (λ (u : Resource). u.dom) (of_word r us) in
        let k = sort Later (of_set r) in
        sorted-unique (λ d e. dom_before d e ≡ true) (asymmetric dom-strict) (set_of dom_before l) (map dom k) (set-sorted dom-strict l)
        (sorted-map (λ d e. dom_before d e ≡ true) dom k (sort_sorted dom-strict dom (of_set r) (doms-apart m plain (named us) r)))
        (λ d i.
        let x = Memᴰ.of_map (λ (u : Resource). u.dom) (of_word r us) ((set_is dom-strict l d).0 i) in
        let w = (word-is r us x.0).0 x.1 in
        let c = class-in x.0 w.0 in
        Memᴰ.cast (sym x.2 ∙ c.3) (Memᴰ.map dom ((sort-is Later (of_set r) c.0).1 (filter-in (classes r) c.1 (subst (λ q. classes q c.0 ≡ true) w.1 c.2)))))
        (λ d i.
        let x = Memᴰ.of_map dom k i in
        let y = filter-of (classes r) m.types ((sort-is Later (of_set r) x.0).0 x.1) in
        let c = class-of r x.0 y.0 y.1 in
        (set_is dom-strict l d).1 (Memᴰ.cast (sym x.2 ∙ sym c.4) (Memᴰ.map (λ (u : Resource). u.dom) ((word-is r us c.0).1 (c.1, c.3)))))

    -- and the class names are theirs
    pub names-in-set : (r : ℕ) → class_names (set_of dom_before (map (λ (u : Resource). u.dom) (of_word r us))) r ≡ map (λ (D : LineType). D.name) (classes_in m (both (named us) (masked r)))
    unfolding classes_in
    names-in-set r =
        let k = sort Later (of_set r) in
        ap (λ (ds : List Dom). class_names ds r) (doms-in-set r)
        ∙ map-map (λ (d : Dom). dotted d r) dom k
        ∙ map_same (λ (D : LineType). dotted (dom D) r) (λ (D : LineType). D.name) k
        (λ D i.
        let y = filter-of (classes r) m.types ((sort-is Later (of_set r) D).0 i) in
        ap (dotted (dom D)) (sym (eqb-true (word_of D.name) r (and_right (named us D) (masked r D) y.1))) ∙ whole D.name (plain.short D y.0))

    -- the words, ascending: those below W whose mask the set meets
    pub words-in-set : (W : ℕ) → ((u : Resource) → In u us → u.word < W) → set_of ltb (map (λ (u : Resource). u.word) us) ≡ below (λ r. some m (both (named us) (masked r))) W
    words-in-set W fits =
        let l = map (λ (u : Resource). u.word) us in
        sorted-unique (λ a b. ltb a b ≡ true) (asymmetric number-strict) (set_of ltb l) (below (λ r. some m (classes r)) W) (set-sorted number-strict l) (below-ascends (λ r. some m (classes r)) W)
        (λ r i.
        let x = Memᴰ.of_map (λ (u : Resource). u.word) us ((set_is number-strict l r).0 i) in
        in-below (λ r. some m (classes r)) W (subst (λ w. w < W) x.2 (fits x.0 x.1)) (sym (word-meets r) ∙ has_word_lem x.1 x.2))
        (λ r i.
        let b = below_of (λ r. some m (classes r)) W i in
        let x = word-of us r (word-meets r ∙ b.1) in
        (set_is number-strict l r).1 (Memᴰ.cast (sym x.2) (Memᴰ.map (λ (u : Resource). u.word) x.1)))
