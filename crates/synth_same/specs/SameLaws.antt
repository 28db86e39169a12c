-- Two makings of one type and one word are identical exactly where their first parents, flags and marks are.
use mathlib.Core.Bool.{Bool, true, false, ◌&&◌, not, beq, and-true}
use mathlib.Core.List.{List, [], ◌∷◌, ◌++◌, append-nil, append_cancel_right}
use Rattle.std.specs.Prelude.{Some, None, ◌≡◌, refl, ltb, length, get_or}
use Rattle.std.proofs.Math.Path.{sym, ap, subst}
use Rattle.std.proofs.Common.{ap₂, ◌∙◌, arith, ext_get_or}
use Prim.Native.Nat.{ℕ, zero, suc, ◌≤◌, ◌<◌}
use borrow.Author.Tests.{ltb-true, ltb-false}
use Rattle.std.specs.Bool.{MatchBool}
use Rattle.std.specs.List.{list_any, range_with_len}
use Rattle.std.specs.List as ranges
use Rattle.std.proofs.lemmas.List.FromFn.{length-range_with_len, get_or-range_with_len}
use Rattle.lists.specs.Lists.{all, filter, null, each}
use Rattle.lists.specs.Tests.{by, never, not_so, each_of}
use Rattle.lists.specs.Appending.{all_map, each-each, each_map, each_same}
use Rattle.rows.specs.declared.Row.{Row}
use Rattle.rows.specs.Rows.{has}
use Rattle.rows.specs.Lists.{between, below}
use Rattle.definitions.specs.Bits.{to_bits}
use Rattle.definitions.specs.Records.{Name, Mark, Sheet, Item, synthesized, extension}
use Rattle.definitions.specs.Packing.{mark_bits}
use Rattle.definitions.specs.Map.{LineType, LineMap, line_type_of}
use Rattle.definitions.specs.Making.{declared, extension_parents, marks_of, all_virtual, create_synthetic_resource}
use Rattle.law_orders.specs.Comparisons.{look-up-is}
use Rattle.law_lines.specs.Statements.{line_map}
use Rattle.law_lines.specs.Declarations.{type-of}
use Rattle.law_lines.specs.SameItem.{same_item_lem, item-same}
use Rattle.law_classes.specs.Sets.{type_at}
use Rattle.catalogue.specs.Layout.{head_at, marks_at}
use Rattle.catalogue.specs.Catalogue.{virtual_head}
use Rattle.catalogue.specs.declared.Catalogue.{Catalogue}
use Rattle.item_refusal.specs.MarkLaws.{AllWithin, one_code}
use Rattle.synth_classes.specs.declared.site.Site.{Site}
use Rattle.synth_classes.specs.declared.Origin.{Origin}
use Rattle.synth_classes.specs.Classes.{place_if, place_in}
use Rattle.synth_classes.specs.ClassLaws.{asked-some, asked-none}
use Rattle.synth_classes.specs.Made.{class_name, classes_of, firsts_of, created}
use Rattle.synth_classes.specs.Walks.{class-names}
use Rattle.synth_classes.specs.Known.{Known, class-known, class_low}
use Rattle.synth_same.specs.Same.{same_firsts, real_at, virtual_in, SameVirtual, bits_at, bits_in, SameMarks, SameMaking}
use Rattle.synth_same.specs.FirstLaws.{firsts-yes, firsts-same}
use Rattle.synth_same.specs.MarkLaws.{width-there, width-none}

-- ---- the parts of the code

pub real_some : (t : Catalogue) (word k p : ℕ) → place_if (place_in t word k) ≡ Some p → not (virtual_head (head_at t p)) ≡ real_at t word k
unfolding real_at
real_some t word k p e = asked-some (λ x. not (virtual_head (head_at t x))) (place_in t word k) p e

pub real_none : (t : Catalogue) (word k : ℕ) → place_if (place_in t word k) ≡ None → false ≡ real_at t word k
unfolding real_at
real_none t word k e = asked-none (λ x. not (virtual_head (head_at t x))) (place_in t word k) e

-- none is real where none of those that are real is
pub any-real : (f : ℕ → Bool) (l : List ℕ) → not (list_any f l) ≡ null (filter f l)
any-real f [] = refl
any-real f (x ∷ l) = by (f x) (λ e. rw e) (λ e. rw e (any-real f l))

-- the bits before i are the same
abbrev pub Alike : List Bool → List Bool → ℕ → Type 0
Alike a b i = (j : ℕ) → j < i → get_or a j false ≡ get_or b j false

beq-true : (a b : Bool) → beq a b ≡ true → a ≡ b
beq-true true true e = refl
beq-true true false e = never e refl
beq-true false true e = never e refl
beq-true false false e = refl

beq_same : (a b : Bool) → a ≡ b → beq a b ≡ true
beq_same true b e = rw (← e) refl
beq_same false b e = rw (← e) refl

pub marks-alike : (t : Catalogue) (word : ℕ) (d e : Row) (n m i : ℕ) → n ≡ length (bits_in t d word) → m ≡ length (bits_in t e word) → n ≡ m → n ≤ i → Alike (bits_in t d word) (bits_in t e word) i
    → SameMarks t word d e true
marks-alike t word d e n m i p q h l k =
    record { yes = λ z. ext_get_or false (bits_in t d word) (bits_in t e word) (sym p ∙ h ∙ q) (λ j b. k j (omega (arith, p, l))); no = λ z. never refl z }

-- what a search for a bit in which two lists of marks differ answers
pub marks-all : (t : Catalogue) (word : ℕ) (d e : Row) (n m : ℕ) (r : Bool) → n ≡ length (bits_in t d word) → m ≡ length (bits_in t e word) → n ≡ m
    → MatchBool r (ranges.AllWithin (λ i. get_or (bits_in t d word) i false ≡ get_or (bits_in t e word) i false) (range_with_len 0 n) 0 (length (range_with_len 0 n)))
    ((k : ℕ) × (k < length (range_with_len 0 n)) × ranges.HoldsAt (λ i. get_or (bits_in t d word) i false ≡ get_or (bits_in t e word) i false → ⊥) (range_with_len 0 n) k)
    → SameMarks t word d e r
marks-all t word d e n m true p q h f =
    marks-alike t word d e n m n p q h (omega arith)
    (λ j l.
    let z : get_or (range_with_len 0 n) j 0 ≡ j = omega (arith, get_or-range_with_len 0 n j 0 l) in
    subst (λ (i : ℕ). get_or (bits_in t d word) i false ≡ get_or (bits_in t e word) i false) z (f j 0 (omega arith) (omega (arith, length-range_with_len 0 n))))
marks-all t word d e n m false p q h f =
    record { yes = λ z. never z refl; no = λ z b. f.2 0 (ap (λ (l : List Bool). get_or l (get_or (range_with_len 0 n) f.0 0) false) b) }

-- ---- in a map

none-real : (f g : ℕ → Bool) (i n : ℕ) → all (λ k. not (g k)) (between f i n) ≡ null (between (λ k. f k && g k) i n)
unfolding between
none-real f g i zero = refl
none-real f g i (suc n) =
    by (f i)
    (λ e. rw e (by (g i) (λ q. rw q) (λ q. rw q (none-real f g (suc i) n))))
    (λ e. rw e (none-real f g (suc i) n))

all-agree : (f g : ℕ → Bool) (l : List ℕ) → ((x : ℕ) → f x ≡ g x) → all f l ≡ all g l
all-agree f g [] z = refl
all-agree f g (x ∷ l) z = ap₂ (λ a b. a && b) (z x) (all-agree f g l z)

abbrev flag_in : Item → Bool
flag_in (synthesized n r v ps ms) = v
flag_in (extension n v t r) = v

abbrev parents_in : Item → List Name
parents_in (synthesized n r v ps ms) = ps
parents_in (extension n v t r) = []

abbrev marks_in : Item → List Mark
marks_in (synthesized n r v ps ms) = ms
marks_in (extension n v t r) = []

module _ (s : Sheet) (t : Catalogue) (known : Known s t) where
  abbrev M : LineMap
  M = line_map s

  real-known : (word k : ℕ) → word < 255 → all (λ (D : LineType). D.virtual) (declared M (class_name word k)) ≡ not (real_at t word k)
  unfolding real_at
  real-known word k h =
      rw (class-known s t known word k h)
      (by (ltb (place_in t word k) 64)
      (λ e.
      let v = (known.listed.entry (place_in t word k) (class_low s t known word k (ltb-true _ _ e))).is_virtual in
      rw (e, v) (and-true (type_at M (place_in t word k)).virtual ∙ sym (mathlib.Core.Bool.not-not (type_at M (place_in t word k)).virtual)))
      (λ e. rw e))

  virtual-known : (doms : Row) (word : ℕ) → word < 255 → virtual_in t doms word ≡ all_virtual M (classes_of doms word)
  unfolding virtual_in all_virtual
  virtual-known doms word h =
      let F : Name → Bool = λ c. all (λ (D : LineType). D.virtual) (declared M c) in
      sym (none-real (has doms) (real_at t word) 0 201)
      ∙ sym (all-agree (λ k. F (class_name word k)) (λ k. not (real_at t word k)) (below (has doms) 201) (λ k. real-known word k h))
      ∙ sym (all_map F (class_name word) (below (has doms) 201))
      ∙ ap (all F) (sym (class-names doms word))

  class-bits : (word k : ℕ) → word < 255 → each mark_bits (each (λ (D : LineType). D.marks) (declared M (class_name word k))) ≡ bits_at t (place_in t word k)
  unfolding bits_at to_bits
  class-bits word k h =
      rw (class-known s t known word k h)
      (by (ltb (place_in t word k) 64)
      (λ e.
      let p = place_in t word k in
      let l = ltb-true p 64 e in
      let x = known.listed.entry p (class_low s t known word k l) in
      rw e (ap (each mark_bits) (append-nil (type_at M p).marks) ∙ sym x.mark_bits ∙ ap (λ (y : ℕ). to_bits y (marks_at t p)) (width-there t p l)))
      (λ e. rw e (ap (λ (y : ℕ). to_bits y (marks_at t (place_in t word k))) (width-none t (place_in t word k) (ltb-false _ _ e)))))

  bits-known : (doms : Row) (word : ℕ) → word < 255 → each mark_bits (marks_of M (classes_of doms word)) ≡ bits_in t doms word
  unfolding bits_in marks_of
  bits-known doms word h =
      let F : Name → List Mark = λ c. each (λ (D : LineType). D.marks) (declared M c) in
      each-each F mark_bits (classes_of doms word)
      ∙ ap (each (λ c. each mark_bits (F c))) (class-names doms word)
      ∙ each_map (λ c. each mark_bits (F c)) (class_name word) (below (has doms) 201)
      ∙ each_same (λ k. each mark_bits (F (class_name word k))) (λ k. bits_at t (place_in t word k)) (below (has doms) 201) (λ k i. class-bits word k h)

  marks-within : (cs : List Name) → AllWithin (marks_of M cs)
  unfolding marks_of line_type_of
  marks-within cs a i =
      let x = each_of (λ c. each (λ (D : LineType). D.marks) (declared M c)) cs i in
      let y = each_of (λ (D : LineType). D.marks) (declared M x.0) x.2 in
      let z = type-of s ((look-up-is (λ (D : LineType). D.name) M.types x.0 y.0).0 y.1).0 in
      subst (λ (D : LineType). AllWithin D.marks) z.2 (known.within.type z.0 z.1).mark a y.2

  module _ (T word : ℕ) (h : T < length M.types) (hw : word < 255) (d : Row) (ps : ℕ) (e : Row) (qs : ℕ) where
    abbrev x : Item
    x = created M T word d ps

    abbrev y : Item
    y = created M T word e qs

    -- identical makings have first parents, flags and marks alike
    firsts_agree : x ≡ y → same_firsts t d ps e qs ≡ true
    unfolding created create_synthetic_resource
    firsts_agree z =
        firsts-same s t known d ps e qs word
        (append_cancel_right (firsts_of M d ps word) (firsts_of M e qs word) ((M.resource ∷ []) ∷ extension_parents M (type_at M T).name word) (ap parents_in z))

    flag_is : (doms : Row) → (virtual_head (head_at t T) && virtual_in t doms word) ≡ ((type_at M T).virtual && all_virtual M (classes_of doms word))
    flag_is doms = ap₂ (λ a b. a && b) (known.listed.entry T h).is_virtual (virtual-known doms word hw)

    flags_of : x ≡ y → (virtual_head (head_at t T) && virtual_in t d word) ≡ (virtual_head (head_at t T) && virtual_in t e word)
    unfolding created create_synthetic_resource
    flags_of z = flag_is d ∙ ap flag_in z ∙ sym (flag_is e)

    bits_of : x ≡ y → bits_in t d word ≡ bits_in t e word
    unfolding created create_synthetic_resource
    bits_of z = sym (bits-known d word hw) ∙ ap (λ i. each mark_bits (marks_in i)) z ∙ bits-known e word hw

    -- and makings that have them are identical
    made-of : same_firsts t d ps e qs ≡ true → (virtual_head (head_at t T) && virtual_in t d word) ≡ (virtual_head (head_at t T) && virtual_in t e word)
        → bits_in t d word ≡ bits_in t e word → x ≡ y
    unfolding created create_synthetic_resource
    made-of a b c =
        let f : firsts_of M d ps word ≡ firsts_of M e qs word = firsts-yes s t known d ps e qs word a in
        let v = sym (flag_is d) ∙ b ∙ flag_is e in
        let m : marks_of M (classes_of d word) ≡ marks_of M (classes_of e word) =
        one_code (marks_of M (classes_of d word)) (marks_of M (classes_of e word)) (marks-within (classes_of d word)) (marks-within (classes_of e word))
        (bits-known d word hw ∙ c ∙ sym (bits-known e word hw)) in
        (λ j. synthesized (type_at M T).name word (v j) (f j ++ (M.resource ∷ []) ∷ extension_parents M (type_at M T).name word) (m j))

-- ---- the answer

module _ (t : Catalogue) (site : Site) (a b : Origin) where
  pub firsts_unlike : (r : Bool) → r ≡ same_firsts t a.doms a.parents b.doms b.parents → r ≡ false → SameMaking t site a b false
  firsts_unlike r e f =
      record {
        right = λ s k h. sym (not_so (λ z.
            never (e ∙ firsts_agree s t k site.place site.word h site.numbered a.doms a.parents b.doms b.parents (same_item_lem _ _ z)) f));
      }

  pub flags_unlike : (r : Bool) → SameVirtual t site.place site.word a.doms b.doms r → r ≡ false → SameMaking t site a b false
  flags_unlike r e f =
      record {
        right = λ s k h. sym (not_so (λ z.
            never (e ∙ beq_same _ _ (flags_of s t k site.place site.word h site.numbered a.doms a.parents b.doms b.parents (same_item_lem _ _ z))) f));
      }

  pub marks_decide : (p q r : Bool) → p ≡ same_firsts t a.doms a.parents b.doms b.parents → p ≡ true → SameVirtual t site.place site.word a.doms b.doms q → q ≡ true
      → SameMarks t site.word a.doms b.doms r → SameMaking t site a b r
  marks_decide p q r e f g i w =
      record {
        right = λ s k h.
            by r
            (λ z.
            z ∙ sym (item-same (made-of s t k site.place site.word h site.numbered a.doms a.parents b.doms b.parents
            (sym e ∙ f) (beq-true _ _ (sym g ∙ i)) (w.yes z))))
            (λ z.
            z ∙ sym (not_so (λ u. w.no z (bits_of s t k site.place site.word h site.numbered a.doms a.parents b.doms b.parents (same_item_lem _ _ u)))));
      }
