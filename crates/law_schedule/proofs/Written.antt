-- What the calls write keeps to the limits of a schedule.
use Rattle.std.specs.Prelude.{true, ◌≡◌, refl, ℕ, ◌≤◌, length}
use mathlib.Core.List.Memᴰ
use mathlib.Core.List.{List, [], ◌∷◌, map}
use Rattle.std.proofs.Math.Logic.{⊎_elim}
use Rattle.std.proofs.Common.{sym, ◌∙◌, zero-le, arith, length-append}
use Rattle.std.proofs.Math.Path.{subst}
use Rattle.lists.specs.Lists.{In, filter}
use Rattle.lists.specs.Tests.{any_of, filter-in, filter-of}
use Rattle.lists.specs.Sorting.{perm-length}
use Rattle.definitions.specs.Records.{Name, Mark, makelist_mark, derive_mark, TypeInfo, Sheet, Item, synthesized, extension}
use Rattle.definitions.specs.Comparisons.{dotted}
use Rattle.definitions.specs.Map.{LineType, LineMap, type_map_of, line_type_of}
use Rattle.definitions.specs.Order.{last_pass, organize_type_map}
use Rattle.definitions.specs.Making.{extension_parents, create_synthetic_resource, extension_line}
use Rattle.definitions.specs.Items.{given, has_word, associate_word, parents_of, ancestors, own_resource, own_classes, parents_above, inherited_resource, items_at, items_of}
use Rattle.definitions.specs.Legal.{Every, LegalName, LegalMark}
use Rattle.definitions.specs.LegalSchedule.{LegalWidth, LegalNames, LegalParent, LegalItem}
use Rattle.definitions.specs.Answer.{schedule_of}
use Rattle.law_orders.specs.Comparisons.{types-is, types-perm}
use Rattle.law_orders.specs.Passes.{placed-type}
use Rattle.law_lines.specs.Within.{WordsWithin, NameWithin, MarkWithin, Within, ItemWithin}
use Rattle.law_lines.specs.Statements.{Readable, line_map}
use Rattle.law_lines.specs.Unroll.{tests-unroll}
use Rattle.law_lines.specs.Associating.{above}
use Rattle.law_lines.specs.Lines.{item-at, lines-are-items}
use Rattle.law_lines.specs.Bounds.{items-at-most}
use Rattle.law_lines.specs.Fields.{items-within}
use Rattle.law_lines.specs.Size.{order-short}
use Rattle.law_schedule.specs.Statements.{TwoParents, AtLeastTwoParents, LinesHaveTwoParents, WrittenIsLegal, WrittenOrderIsLegal}

-- ---- at least two parents

some_in : {A : Type 0} {x : A} {l : List A} → In x l → 1 ≤ length l
some_in (Memᴰ.head e) = omega arith
some_in (Memᴰ.tail i) = omega arith

-- a first parent, and `resource`
create-two : (m : LineMap) (T : LineType) (r : ℕ) (cs fs : List Name) → 1 ≤ length fs → TwoParents (create_synthetic_resource m T r cs fs)
unfolding create_synthetic_resource
create-two m T r cs fs h = omega (arith, length-append fs ((m.resource ∷ []) ∷ extension_parents m T.name r))

module _ (s : Sheet) (ok : Readable s) (T : TypeInfo) where
  -- a word that an ancestor associates is passed on by a parent
  some-parent : (r : ℕ) → associate_word (above s ok T) r ≡ true → 1 ≤ length (parents_above (line_map s) (line_type_of T) r)
  unfolding parents_above
  some-parent r e =
      let m = line_map s in
      let f : LineType → _ = λ A. has_word (given A) r in
      let x = any_of (λ P. associate_word (P ∷ ancestors m P) r) (parents_of m (line_type_of T)) (sym (tests-unroll s ok T f) ∙ e) in
      some_in (Memᴰ.map (λ (P : LineType). dotted P.name r) (filter-in (λ P. associate_word (P ∷ ancestors m P) r) x.1 x.2))

  at-two : (r : ℕ) (x : Item) → In x (items_at (line_map s) (line_type_of T) (above s ok T) r) → TwoParents x
  unfolding items_at own_resource inherited_resource extension_line
  at-two r x i =
      let m = line_map s in
      let D = line_type_of T in
      let As = above s ok T in
      let inherited : List Item = map (inherited_resource m D As) (filter (associate_word As) (r ∷ [])) in
      ⊎_elim
      (λ j.
      let y = Memᴰ.of_map (own_resource m D r) (own_classes m D r) j in
      subst TwoParents y.2 (create-two m D r (y.0 ∷ []) (y.0 ∷ []) (omega arith)))
      (λ j.
      ⊎_elim
      (λ k.
      let y = Memᴰ.of_map (inherited_resource m D As) (filter (associate_word As) (r ∷ [])) k in
      let a = (filter-of (associate_word As) (r ∷ []) y.1).1 in
      subst TwoParents y.2 (create-two m D y.0 _ (parents_above m D y.0) (some-parent y.0 a)))
      (λ k. subst TwoParents (sym (Memᴰ.eq_of_singleton k)) tt)
      (Memᴰ.append_cases inherited j))
      (Memᴰ.append_cases (map (own_resource m D r) (own_classes m D r)) i)

pub at-least-two-parents : AtLeastTwoParents
at-least-two-parents s ok x i = let y = item-at s ok i in at-two s ok y.0 y.2.0 x y.2.2

pub lines-have-two-parents : LinesHaveTwoParents
lines-have-two-parents s ok x h = at-least-two-parents s ok x (lines-are-items s ok x h)

-- ---- the fields, one after the other

every_in : {A : Type 0} {P : A → Type 0} (l : List A) → ((x : A) → In x l → P x) → Every P l
every_in [] h = tt
every_in (x ∷ l) h = (h x (Memᴰ.head refl), every_in l (λ y i. h y (Memᴰ.tail i)))

name-legal : {W : ℕ} (n : Name) → NameWithin W n → LegalName W n
name-legal [] h = absurd (omega (arith, h.least))
name-legal (a ∷ []) h = (h.below a (Memᴰ.head refl), tt)
name-legal (a ∷ b ∷ []) h = (h.below a (Memᴰ.head refl), h.below b (Memᴰ.tail (Memᴰ.head refl)))
name-legal (a ∷ b ∷ c ∷ l) h = absurd (omega (arith, h.most))

parent-legal : {W : ℕ} (p : Name) → WordsWithin W 1 3 p → LegalParent W p
parent-legal p h = record { enough = h.least; few = h.most; every = every_in p h.below }

mark-legal : (k : Mark) → MarkWithin k → LegalMark k
mark-legal makelist_mark h = tt
mark-legal (derive_mark t) h = h

item-legal : (W : ℕ) (x : Item) → ItemWithin W x → TwoParents x → LegalItem W x
item-legal W (synthesized n r v ps ms) h two = record {
  type = name-legal n h.type;
  word = h.word;
  parents = record { enough = two; few = h.parents; every = every_in ps (λ p i. parent-legal p (h.parent p i)) };
  marks = record { enough = zero-le; few = h.marks; every = every_in ms (λ k i. mark-legal k (h.mark k i)) };
}
item-legal W (extension n v t r) h two = record { type = name-legal n h.type; word = h.word }

-- ---- the whole

width-legal : (s : Sheet) → Within s → LegalWidth (length s.words)
width-legal s in' = record { enough = in'.least; few = in'.words }

names-legal : (s : Sheet) → Within s → LegalNames (length s.words) (organize_type_map (type_map_of s))
unfolding organize_type_map last_pass
names-legal s in' =
    let m = type_map_of s in
    record {
      enough = zero-le;
      few = omega (arith, order-short m, perm-length (types-perm s), in'.types);
      every = every_in (organize_type_map m)
          (λ n i.
          let x = Memᴰ.of_map (λ (T : TypeInfo). T.name) (last_pass m).placed i in
          let t = (types-is s x.0).0 (placed-type m (length m.types) x.1) in
          subst (LegalName (length s.words)) x.2 (name-legal x.0.name (in'.type x.0 t).name));
    }

pub written-order-is-legal : WrittenOrderIsLegal
unfolding schedule_of
written-order-is-legal s in' = record { width = width-legal s in'; names = names-legal s in' }

pub written-is-legal : WrittenIsLegal
unfolding schedule_of
written-is-legal s ok in' = record {
  width = width-legal s in';
  names = names-legal s in';
  items = record {
    enough = zero-le;
    few = omega (arith, items-at-most s ok in');
    every = every_in (items_of (line_map s)) (λ x i. item-legal (length s.words) x (items-within s ok in' x i) (at-least-two-parents s ok x i));
  };
}
