-- What the fields of an item hold, within the limits of a sheet that was read.
use mathlib.Core.List.Memᴰ
use mathlib.Core.List.{List, [], ◌∷◌, map, append_cancel_right}
use Rattle.std.proofs.Math.Logic.{⊎_elim}
use Rattle.std.specs.Prelude.{◌≡◌, refl, ℕ, suc, ◌*◌, ◌≤◌, ◌<◌}
use Rattle.std.proofs.Math.Path.{sym, subst}
use Rattle.std.proofs.Common.{◌∙◌, zero-le, arith}
use Rattle.std.proofs.Math.ListN.{length, length-append}
use Rattle.lists.specs.Lists.{In, At, here, later, filter, each}
use Rattle.lists.specs.Tests.{never, cons-elim, each_of, filter-of}
use Rattle.lists.specs.Sorting.{Distinct, sorted-imp, sorted_filter}
use Rattle.lists.specs.Counting.{pigeonhole}
use Rattle.definitions.specs.Records.{Name, Dom, Mark, TypeInfo, Sheet, Item}
use Rattle.definitions.specs.Comparisons.{same_name, look_up, dotted}
use Rattle.definitions.specs.Map.{LineType, line_type_of}
use Rattle.definitions.specs.Making.{declared, class_names, extension_parents, marks_of, create_synthetic_resource, extension_line}
use Rattle.definitions.specs.Items.{associate_word, own_resource, own_classes, doms_above, parents_above, inherited_resource, items_at}
use Rattle.definitions.specs.Lines.{ExtensionParents, record', no_record}
use Rattle.definitions.specs.LegalSchedule.{most_marks}
use Rattle.law_orders.specs.Comparisons.{dom-strict, look-up-is}
use Rattle.law_lines.specs.Within.{WordsWithin, NameWithin, MarkWithin, Within, ItemWithin}
use Rattle.lists.specs.Members.{distinct-each, distinct-map, each-short}
use Rattle.lists.specs.Appending.{each-each}
use Rattle.law_lines.specs.Statements.{Readable, line_map, ItemsWithin}
use Rattle.law_lines.specs.Declarations.{type-of, declarations-distinct}
use Rattle.law_lines.specs.Making.{resource-at, extension-parents-are}
use Rattle.law_lines.specs.Associating.{owned-of, above, doms-are, names_passing, parents-above-is, parents-above-are}
use Rattle.law_lines.specs.Lines.{own-classes-are, item-at}
use Rattle.law_lines.specs.Counts.{counts-are}
use Rattle.law_lines.specs.Bounds.{own-within, made-below, types-short}

-- ---- words

at-below : {A : Type 0} {x : A} {i : ℕ} {l : List A} → At x i l → i < length l
at-below here = omega arith
at-below (later h) = let r = at-below h in omega arith

-- `r` behind some words
dotted-within : {W a b : ℕ} {d : List ℕ} {r : ℕ} → WordsWithin W a b d → r < W → WordsWithin W (suc a) (suc b) (dotted d r)
dotted-within {W = W} {d = d} {r = r} h l =
    let n = length-append d (r ∷ []) in
    let x = h.least in
    let y = h.most in
    record {
      least = omega arith;
      most = omega arith;
      below = λ w i. ⊎_elim (h.below w) (λ j. subst (λ n. n < W) (sym (Memᴰ.eq_of_singleton j)) l) (Memᴰ.append_cases d i);
    }

-- a parent in the schedule has one to three words
widen : {W a b : ℕ} {n : List ℕ} → WordsWithin W a b n → 1 ≤ a → b ≤ 3 → WordsWithin W 1 3 n
widen h p q = let x = h.least in let y = h.most in record { least = omega arith; most = omega arith; below = h.below }

-- ---- marks

module _ (s : Sheet) (ok : Readable s) (in' : Within s) where
  abbrev W : ℕ
  W = length s.words

  declared-of : {c : Name} {X : LineType} → In X (declared (line_map s) c) → In X (line_map s).types × (X.name ≡ c)
  declared-of {c} {X} i = (look-up-is (λ (D : LineType). D.name) (line_map s).types c X).0 i

  declared-once : (c : Name) → Distinct (declared (line_map s) c)
  unfolding look_up
  declared-once c = sorted_filter (λ a b. a ≡ b → ⊥) (λ (D : LineType). same_name D.name c) (line_map s).types (declarations-distinct s ok)

  type-marks : (T : TypeInfo) → In T s.types → (length (line_type_of T).marks ≤ 7) × ((k : Mark) → In k (line_type_of T).marks → MarkWithin k)
  unfolding line_type_of
  type-marks T t = ((in'.type T t).marks, (in'.type T t).mark)

  declared-marks : {X : LineType} → In X (line_map s).types → (length X.marks ≤ 7) × ((k : Mark) → In k X.marks → MarkWithin k)
  declared-marks i = let t = type-of s i in subst (λ (D : LineType). (length D.marks ≤ 7) × ((k : Mark) → In k D.marks → MarkWithin k)) t.2 (type-marks t.0 t.1)

  -- the marks of distinct classes: each type has 7 at most
  marks-short : (cs : List Name) → Distinct cs → length (marks_of (line_map s) cs) ≤ most_marks
  unfolding marks_of
  marks-short cs d =
      let ds : List LineType = each (declared (line_map s)) cs in
      let from : (X : LineType) → In X ds → In X (line_map s).types = λ X i. let x = each_of (declared (line_map s)) cs i in (declared-of x.2).0 in
      let once : Distinct ds = distinct-each (declared (line_map s)) cs d (λ c _. declared-once c) (λ c e X _ _ i j. sym (declared-of i).1 ∙ (declared-of j).1) in
      let few : length ds ≤ length (line_map s).types = pigeonhole ds (line_map s).types once from in
      let short : length (each (λ (D : LineType). D.marks) ds) ≤ length ds * 7 = each-short (λ (D : LineType). D.marks) ds 7 (λ X i. (declared-marks (from X i)).0) in
      let n = types-short s ok in' in
      rw (sym (each-each (declared (line_map s)) (λ (D : LineType). D.marks) cs)) (omega arith)

  mark-within : (cs : List Name) (k : Mark) → In k (marks_of (line_map s) cs) → MarkWithin k
  unfolding marks_of
  mark-within cs k i =
      let x = each_of (λ c. each (λ (D : LineType). D.marks) (declared (line_map s) c)) cs i in
      let y = each_of (λ (D : LineType). D.marks) (declared (line_map s) x.0) x.2 in
      (declared-marks (declared-of y.1).0).1 k y.2

  -- ---- parents

  added-within : (T : TypeInfo) (r : ℕ) → (length (extension_parents (line_map s) T.name r) ≤ 8) × ((p : Name) → In p (extension_parents (line_map s) T.name r) → NameWithin W p)
  added-within T r = of ((extension-parents-are s ok T r (extension_parents (line_map s) T.name r)).1 refl)
    where
      of : {ps : List Name} → ExtensionParents s T r ps → (length ps ≤ 8) × ((p : Name) → In p ps → NameWithin W p)
      of (record' e i _ _ q) = let h = in'.extension e i in subst (λ ps. (length ps ≤ 8) × ((p : Name) → In p ps → NameWithin W p)) (sym q) (h.parents, h.parent)
      of (no_record _ q) = subst (λ ps. (length ps ≤ 8) × ((p : Name) → In p ps → NameWithin W p)) (sym q) (zero-le, λ p i. absurd (Memᴰ.not-nil i))

  create-within : (T : TypeInfo) → In T s.types → (r : ℕ) → r < W → (cs fs : List Name) → Distinct cs → length fs ≤ 8 → ((p : Name) → In p fs → WordsWithin W 1 3 p)
      → ItemWithin W (create_synthetic_resource (line_map s) (line_type_of T) r cs fs)
  unfolding create_synthetic_resource line_type_of
  create-within T t r l cs fs d n h =
      let m = line_map s in
      let added = extension_parents m T.name r in
      let x = added-within T r in
      let k = x.0 in
      record {
        type = (in'.type T t).name;
        word = l;
        parents = omega (arith, length-append fs ((m.resource ∷ []) ∷ added));
        parent = λ p i.
            ⊎_elim (h p)
            (λ j.
            cons-elim j
            (λ e. subst (WordsWithin W 1 3) (sym e)
            (record { least = omega arith; most = omega arith; below = λ w b. subst (λ n. n < W) (sym (Memᴰ.eq_of_singleton b)) (at-below (resource-at s ok)) }))
            (λ b. widen (x.1 p b) (omega arith) (omega arith)))
            (Memᴰ.append_cases fs i);
        marks = marks-short cs d;
        mark = mark-within cs;
      }

  -- ---- own and inherited resources, extension lines

  own-fields : (T : TypeInfo) → In T s.types → (r : ℕ) → r < W → {c : Name} → In c (own_classes (line_map s) (line_type_of T) r)
      → ItemWithin W (own_resource (line_map s) (line_type_of T) r c)
  unfolding own_resource
  own-fields T t r l {c} i =
      let x = (own-classes-are s ok T r c).0 i in
      let o = owned-of T x.1 in
      let w : WordsWithin W 1 3 c = subst (WordsWithin W 1 3) x.3 (widen (dotted-within (own-within s ok in' t o.2).dom l) (omega arith) (omega arith)) in
      create-within T t r l (c ∷ []) (c ∷ []) (λ y j. absurd (Memᴰ.not-nil j), tt) (omega arith) (λ p j. subst (WordsWithin W 1 3) (sym (Memᴰ.eq_of_singleton j)) w)

  inherited-fields : (T : TypeInfo) → In T s.types → (r : ℕ) → r < W → ItemWithin W (inherited_resource (line_map s) (line_type_of T) (above s ok T) r)
  unfolding inherited_resource
  inherited-fields T t r l =
      let m = line_map s in
      let ds = doms_above (above s ok T) r in
      let ps = names_passing m (line_type_of T) r in
      let P = parents-above-are s ok T r in
      let apart : Distinct ds = sorted-imp ds (λ x y _ _ b e. never b (rw e (dom-strict.irreflexive y))) (doms-are s ok T r).sorted in
      create-within T t r l (class_names ds r) (parents_above m (line_type_of T) r)
      (distinct-map (λ (d : Dom). dotted d r) ds apart (λ x y _ _ e. append_cancel_right x y (r ∷ []) e))
      ((counts-are s ok in' T t).parents r)
      (λ p i.
      let x = Memᴰ.of_map (λ (n : Name). dotted n r) ps (subst (In p) (parents-above-is m (line_type_of T) r) i) in
      let y = (P.exactly x.0).0 x.1 in
      let n : NameWithin W x.0 = subst (NameWithin W) y.3 (in'.type y.0 y.1.declared).name in
      subst (WordsWithin W 1 3) x.2 (widen (dotted-within n l) (omega arith) (omega arith)))

  line-fields : (T : TypeInfo) → In T s.types → (r : ℕ) → r < W → ItemWithin W (extension_line (line_type_of T) r)
  unfolding extension_line line_type_of
  line-fields T t r l = record { type = (in'.type T t).name; word = l }

  at_fields : (T : TypeInfo) → In T s.types → (r : ℕ) → r < W → (x : Item) → In x (items_at (line_map s) (line_type_of T) (above s ok T) r) → ItemWithin W x
  unfolding items_at
  at_fields T t r l x i =
      let m = line_map s in
      let D = line_type_of T in
      let As = above s ok T in
      ⊎_elim
      (λ j. let y = Memᴰ.of_map (own_resource m D r) (own_classes m D r) j in subst (ItemWithin W) y.2 (own-fields T t r l y.1))
      (λ j.
      ⊎_elim
      (λ k.
      let y = Memᴰ.of_map (inherited_resource m D As) (filter (associate_word As) (r ∷ [])) k in
      let e = Memᴰ.eq_of_singleton (filter-of (associate_word As) (r ∷ []) y.1).0 in
      subst (ItemWithin W) y.2 (inherited-fields T t y.0 (subst (λ n. n < W) (sym e) l)))
      (λ k. subst (ItemWithin W) (sym (Memᴰ.eq_of_singleton k)) (line-fields T t r l))
      (Memᴰ.append_cases (map (inherited_resource m D As) (filter (associate_word As) (r ∷ []))) j))
      (Memᴰ.append_cases (map (own_resource m D r) (own_classes m D r)) i)

pub items-within : ItemsWithin
items-within s ok in' x i =
    let y = item-at s ok i in
    let T = y.0 in
    at_fields s ok in' T y.1 y.2.0 (made-below s ok in' y.1 y.2.1) x y.2.2
