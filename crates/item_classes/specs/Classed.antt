-- The sets of classes are those of the map, and what is wrong with them is what refuses a type.
use Rattle.std.specs.Prelude.{Bool, ◌&&◌, ◌||◌, List, [], ◌∷◌, ◌++◌, map, ◌≡◌, ℕ, ◌<◌, eqb, ltb, length}
use Rattle.std.proofs.Math.Bool.{true, false, not}
use mathlib.Core.List.Memᴰ
use Rattle.std.proofs.Math.Path.{refl, sym, ap, ap₂}
use Rattle.std.proofs.Common.{◌∙◌, arith, eq-eqb, ne_eqb, lt-ltb}
use Rattle.std.proofs.lemmas.Bool.{not-false}
use lib.Bits.{bit_and}
use Rattle.lists.specs.Lists.{In, any, repeats}
use Rattle.lists.specs.Tests.{by, never, same_test, and_left, and_right, and_both, any_of, any-not}
use Rattle.lists.specs.Appending.{any-map, repeats-map}
use Rattle.rows.specs.Rows.{has_bit}
use Rattle.rows.specs.RowLaws.{bit-none}
use Rattle.definitions.specs.Records.{Name, Dom, Resource, Sheet}
use Rattle.definitions.specs.Comparisons.{same_name}
use Rattle.definitions.specs.Map.{LineType, LineMap}
use Rattle.definitions.specs.Making.{is_resource_variant}
use Rattle.definitions.specs.Items.{owned, given}
use Rattle.law_orders.specs.Comparisons.{same-name, name-same}
use Rattle.law_lines.specs.Statements.{line_map}
use Rattle.law_lines.specs.Within.{WordsWithin, ResourceWithin}
use Rattle.fields.specs.Fields.{two_words}
use Rattle.law_classes.specs.Sets.{Set, both, some, class_of, named, own_set, given_set, type_at, no_type, SetIs}
use Rattle.law_classes.specs.Numbers.{bit-both, place-of, Fits, holds-both, holds-some}
use Rattle.law_classes.specs.Refusal.{unmet, has_child, lost_class, own_twice}
use Rattle.catalogue.specs.declared.Catalogue.{Catalogue}
use Rattle.item_names.specs.Holding.{Holds, nonzero-bit, holds-set, holds_fits}
use Rattle.item_names.specs.Named.{Named, NamesIn, types-hold}
use Rattle.item_classes.specs.Classes.{class_by, class_in, meets, lost, Gathers}
use Rattle.item_classes.specs.declared.Classes.{Classes}

-- tests of two that agree on the members of a list
repeats-agree : {A : Type 0} (s r : A → A → Bool) (l : List A) → ((x y : A) → In x l → In y l → s x y ≡ r x y) → repeats s l ≡ repeats r l
repeats-agree s r [] e = refl
repeats-agree {A} s r (x ∷ l) e =
    ap₂ (λ (a b : Bool). a || b) (row l (λ y i. e x y (Memᴰ.head refl) (Memᴰ.tail i))) (repeats-agree s r l (λ y z i j. e y z (Memᴰ.tail i) (Memᴰ.tail j)))
  where
    row : (k : List A) → ((y : A) → In y k → s x y ≡ r x y) → any (s x) k ≡ any (r x) k
    row [] h = refl
    row (y ∷ k) h = ap₂ (λ (a b : Bool). a || b) (h y (Memᴰ.head refl)) (row k (λ z i. h z (Memᴰ.tail i)))

any-agree : {A : Type 0} (f g : A → Bool) (l : List A) → ((x : A) → In x l → f x ≡ g x) → any f l ≡ any g l
any-agree f g [] e = refl
any-agree f g (x ∷ l) e = ap₂ (λ (a b : Bool). a || b) (e x (Memᴰ.head refl)) (any-agree f g l (λ y i. e y (Memᴰ.tail i)))

-- the words of a resource are words of the sheet
abbrev pub AllWithin : ℕ → List Resource → Type 0
AllWithin W us = (u : Resource) → In u us → ResourceWithin W u

module _ (s : Sheet) (firsts seconds : List ℕ) (t : Catalogue) (nm : Named (line_map s) (length s.words) firsts seconds)
    (ns : NamesIn firsts seconds (length (line_map s).types) (length s.words) t) where
  abbrev m : LineMap
  m = line_map s

  abbrev n : ℕ
  n = length m.types

  abbrev W : ℕ
  W = length s.words

  -- ---- one class

  -- whether the type at a place is the class of a resource
  abbrev is_class : Resource → ℕ → Bool
  is_class u a = same_name (type_at m a).name (class_of u)

  by_dom : (w : ℕ) (d : Dom) → w < W → WordsWithin W 0 1 d → Holds n (class_by t w d) (λ a. same_name (type_at m a).name (d ++ (w ∷ [])))
  by_dom w [] h k = types-hold s firsts seconds t nm ns w 255 (omega (arith, nm.narrow)) (omega arith)
  by_dom w (d ∷ []) h k =
      let e : two_words d w ≡ d ∷ w ∷ [] = rw (ne_eqb w 255 (λ q. absurd (omega (arith, nm.narrow)))) in
      λ a.
      types-hold s firsts seconds t nm ns d w (omega (arith, k.below d (Memᴰ.head refl), nm.narrow)) (omega (arith, nm.narrow)) a
      ∙ ap (λ (x : Name). ltb a n && same_name (type_at m a).name x) e
  by_dom w (d ∷ e ∷ ds) h k = absurd (omega (arith, k.most))

  class-holds : (u : Resource) → ResourceWithin W u → Holds n (class_in t u) (is_class u)
  class-holds u w = by_dom u.word u.dom w.word w.dom

  class-set : (u : Resource) → ResourceWithin W u → SetIs m (class_in t u) (λ (D : LineType). same_name D.name (class_of u))
  class-set u w = holds-set m (class_in t u) (is_class u) (class-holds u w) (λ (D : LineType). same_name D.name (class_of u)) (λ a h. refl)

  class-fits : (u : Resource) → ResourceWithin W u → Fits m (class_in t u)
  class-fits u w = holds_fits m (class_in t u) (is_class u) (class-holds u w) nm.few

  -- a type in the set of a class has its name
  class-bit : (u : Resource) → ResourceWithin W u → (a : ℕ) → has_bit (class_in t u) a ≡ true → (type_at m a).name ≡ class_of u
  class-bit u w a e =
      let k : (ltb a n && is_class u a) ≡ true = sym (class-holds u w a) ∙ e in same-name (type_at m a).name (class_of u) (and_right (ltb a n) (is_class u a) k)

  bit-class : (u : Resource) → ResourceWithin W u → (a : ℕ) → a < n → (type_at m a).name ≡ class_of u → has_bit (class_in t u) a ≡ true
  bit-class u w a h e = class-holds u w a ∙ and_both (lt-ltb a n h) (name-same e)

  -- ---- sets of classes

  -- classes united are the types that are one of them
  united : (us : List Resource) (row : ℕ) → AllWithin W us → ((a : ℕ) → has_bit row a ≡ any (λ x. has_bit x a) (map (class_in t) us)) → SetIs m row (named us)
  unfolding named
  united us row w e a h =
      e a
      ∙ any-map (λ x. has_bit x a) (class_in t) us
      ∙ any-agree (λ u. has_bit (class_in t u) a) (λ u. is_class u a) us (λ u i. class-set u (w u i) a h)

  module _ (resources : ℕ) (rs : SetIs m resources (λ (D : LineType). is_resource_variant D.variant)) where
    -- a class is lost exactly if no resource has its name
    lost-is : (u : Resource) → ResourceWithin W u → lost resources (class_in t u) ≡ not (some m (λ (D : LineType). same_name D.name (class_of u) && is_resource_variant D.variant))
    lost-is u w =
        let S : Set = λ (D : LineType). same_name D.name (class_of u) in
        let R : Set = λ (D : LineType). is_resource_variant D.variant in
        let x = class_in t u in
        let f : Fits m (bit_and x resources) = record {
          most = omega (arith, (class-fits u w).most, lib.Bits.and_le_l x resources);
          within = λ a h. bit-both x resources a ∙ rw ((class-fits u w).within a h);
        } in
        sym (twice-not (eqb (bit_and x resources) 0)) ∙ ap not (sym (holds-some m (bit_and x resources) (both S R) f (holds-both m x resources S R (class-set u w) rs)))
      where
        twice-not : (b : Bool) → not (not b) ≡ b
        twice-not true = refl
        twice-not false = refl

    unmet-is : (us : List Resource) → AllWithin W us → any (lost resources) (map (class_in t) us) ≡ unmet m us
    unfolding unmet
    unmet-is us w =
        any-map (lost resources) (class_in t) us
        ∙ any-agree (λ u. lost resources (class_in t u)) (λ (u : Resource). not (some m (λ (D : LineType). same_name D.name (class_of u) && is_resource_variant D.variant))) us (λ u i. lost-is u (w u i))

    -- two sets of declared classes meet exactly if the classes are one
    meets-is : (u v : Resource) → ResourceWithin W u → ResourceWithin W v → lost resources (class_in t u) ≡ false → meets (class_in t u) (class_in t v) ≡ same_name (class_of u) (class_of v)
    meets-is u v p q l =
        let x = class_in t u in
        let y = class_in t v in
        same_test
        (λ e.
        let b = nonzero-bit (bit_and x y) (λ z. never e (ap not (eq-eqb (bit_and x y) 0 z))) in
        let k = sym (bit-both x y b.0) ∙ b.1 in
        name-same (sym (class-bit u p b.0 (and_left (has_bit x b.0) (has_bit y b.0) k)) ∙ class-bit v q b.0 (and_right (has_bit x b.0) (has_bit y b.0) k)))
        (λ e.
        let z = same-name (class_of u) (class_of v) e in
        let f : LineType → Bool = λ D. same_name D.name (class_of u) && is_resource_variant D.variant in
        let d = any_of f m.types (not-false _ (sym (lost-is u p) ∙ l)) in
        let a = place-of no_type d.0 m.types d.1 in
        let g : (type_at m a.0).name ≡ class_of u =
        ap (λ (D : LineType). D.name) a.2 ∙ same-name d.0.name (class_of u) (and_left (same_name d.0.name (class_of u)) (is_resource_variant d.0.variant) d.2) in
        let k : has_bit (bit_and x y) a.0 ≡ true = bit-both x y a.0 ∙ and_both (bit-class u p a.0 a.1 g) (bit-class v q a.0 a.1 (g ∙ z)) in
        ap not (ne_eqb (bit_and x y) 0 (λ o. never k (ap (λ (i : ℕ). has_bit i a.0) o ∙ bit-none a.0))))

    -- ---- one type

    module _ (T : LineType) (c : Classes) (own-within : AllWithin W (owned T)) (given-within : AllWithin W (given T))
        (g : Gathers resources (map (class_in t) (owned T)) (map (class_in t) (given T)) c) where
      pub own_is : SetIs m c.own (own_set T)
      unfolding own_set
      own_is = united (owned T) c.own own-within g.own

      pub given_is : SetIs m c.given (given_set T)
      unfolding given_set
      given_is = united (given T) c.given given-within g.given

      missing-is : c.missing ≡ unmet m (given T)
      missing-is = g.missing ∙ unmet-is (given T) given-within

      -- an own class is lost, or one stands twice; what is undeclared and stands twice is lost
      wrong-is : c.wrong ≡ (unmet m (owned T) || own_twice T)
      unfolding own_twice
      wrong-is =
          let us = owned T in
          g.wrong
          ∙ ap (λ (b : Bool). b || repeats meets (map (class_in t) us)) (unmet-is us own-within)
          ∙ by (unmet m us)
          (λ e. rw e)
          (λ e.
          let f : any (λ u. lost resources (class_in t u)) us ≡ false = sym (any-map (lost resources) (class_in t) us) ∙ unmet-is us own-within ∙ e in
          rw e
          (repeats-map meets (class_in t) us
          ∙ repeats-agree (λ u v. meets (class_in t u) (class_in t v)) (λ (u v : Resource). same_name (class_of u) (class_of v)) us
          (λ u v i j. meets-is u v (own-within u i) (own-within v j) (any-not (λ u. lost resources (class_in t u)) f i))))

      -- what refuses the type, found on the way
      pub refused-is : (c.wrong || (has_child m T && c.missing)) ≡ (lost_class m T || own_twice T)
      unfolding lost_class
      refused-is =
          ap₂ (λ (a b : Bool). a || (has_child m T && b)) wrong-is missing-is
          ∙ swapped (unmet m (owned T)) (own_twice T) (has_child m T && unmet m (given T))
        where
          swapped : (a b d : Bool) → ((a || b) || d) ≡ ((a || d) || b)
          swapped true b d = refl
          swapped false true true = refl
          swapped false true false = refl
          swapped false false true = refl
          swapped false false false = refl
