-- What is made for a type and a word: the declarative fields of a resource are the computed ones, where every class is declared.
use Rattle.std.proofs.Math.Bool.{Bool, true}
use Rattle.std.specs.Prelude.{false, ◌&&◌, ◌||◌, not, ◌↔◌, ◌≡◌, refl, ℕ}
use mathlib.Core.List.Memᴰ
use mathlib.Core.List.{List, [], ◌∷◌, ◌++◌, append-nil}
use Rattle.std.proofs.Math.Path.{sym, ap, subst}
use Rattle.std.proofs.Common.{ap₂, ◌∙◌, eq-eqb, eqb-true}
use Rattle.std.proofs.lemmas.Bool.{not-false}
use Rattle.std.proofs.Math.Dec.{eqb}
use Rattle.lists.specs.Lists.{In, At, Sorted, any, all, null, filter, ascends, same_list}
use Rattle.lists.specs.Tests.{by, never, not_so, same_test, and_left, and_right, and_both, or-false-left, or-false-right, cons-elim, all_in, all_of, filter-in, filter-of, null-in, null-not, place_at}
use Rattle.lists.specs.Sorting.{sorted-imp, repeats-not, one_key, one_place}
use Rattle.lists.specs.Lexicographic.{same_numbers}
use Rattle.definitions.specs.Records.{Name, Dom, Mark, TypeInfo, Extension, Sheet, Item, synthesized}
use Rattle.definitions.specs.Comparisons.{same_name, bytes_before}
use Rattle.definitions.specs.Checks.{resource_bytes, self_bytes, bad_words, names_twice, keys_twice, words_twice, annotations_twice, something_twice}
use Rattle.definitions.specs.Map.{LineType, number_of, type_map_of, line_type_of, line_map_of}
use Rattle.definitions.specs.Making.{declared, class_names, extension_parents, marks_of, all_virtual, create_synthetic_resource}
use Rattle.definitions.specs.Lines.{Dotted, end, and, ExtensionParents, record', no_record, Marks, AllVirtual, Makes}
use Rattle.law_orders.specs.Comparisons.{same-name, name-same, look-up-is}
use Rattle.law_orders.specs.Self.{words-distinct}
use Rattle.lists.specs.Members.{filter_none, filter-one}
use Rattle.law_lines.specs.Statements.{Readable, line_map, AllDeclared}
use Rattle.law_lines.specs.Declarations.{type-of, declared-one}

-- ---- `resource`

has-resource : (ws : List (List ℕ)) → bad_words ws ≡ false → any (same_list eqb resource_bytes) ws ≡ true
unfolding bad_words
has-resource ws e =
    not-false (any (same_list eqb resource_bytes) ws)
    (or-false-left (not (any (same_list eqb resource_bytes) ws)) (not (any (same_list eqb self_bytes) ws))
    (or-false-right (not (ascends bytes_before ws)) (not (any (same_list eqb resource_bytes) ws) || not (any (same_list eqb self_bytes) ws)) e))

module _ (s : Sheet) (ok : Readable s) where
  pub resource-at : At resource_bytes (line_map s).resource s.words
  unfolding line_map_of type_map_of number_of
  resource-at =
      let r = place_at (same_list eqb resource_bytes) s.words (has-resource s.words ok.words) in
      subst (λ x. At x (number_of resource_bytes s.words) s.words) (sym (same_numbers resource_bytes r.0 r.2)) r.1

  resource-one : {n : ℕ} → At resource_bytes n s.words → n ≡ (line_map s).resource
  resource-one h = one_place (words-distinct s.words ok.words) h resource-at

  -- ---- the extension's parents

  abbrev keyed : Name → ℕ → Extension → Bool
  keyed T r e = same_name e.name T && eqb e.word r

  abbrev key_of : Extension → Name × ℕ
  key_of e = (e.name, e.word)

  keys-apart : Sorted (λ (e f : Extension). key_of e ≡ key_of f → ⊥) s.extensions
  unfolding something_twice keys_twice
  keys-apart =
      sorted-imp s.extensions (λ e f i j h p. never (and_both (name-same (ap (λ (k : Name × ℕ). k.0) p)) (eq-eqb e.word f.word (ap (λ (k : Name × ℕ). k.1) p))) h)
      (repeats-not (λ (e f : Extension). same_name e.name f.name && eqb e.word f.word) s.extensions
      (or-false-left (keys_twice s) (words_twice s || annotations_twice s)
      (or-false-right (names_twice s) (keys_twice s || (words_twice s || annotations_twice s)) ok.once)))

  keyed-of : {T : Name} {r : ℕ} (e : Extension) → keyed T r e ≡ true → (e.name ≡ T) × (e.word ≡ r)
  keyed-of {T} {r} e t =
      (same-name e.name T (and_left (same_name e.name T) (eqb e.word r) t), eqb-true e.word r (and_right (same_name e.name T) (eqb e.word r) t))

  keyed-in : {T : Name} {r : ℕ} (e : Extension) → e.name ≡ T → e.word ≡ r → keyed T r e ≡ true
  keyed-in {T} {r} e p q = and_both (name-same p) (eq-eqb e.word r q)

  added_is : (T : Name) (r : ℕ) {e : Extension} → In e s.extensions → e.name ≡ T → e.word ≡ r → extension_parents (line_map s) T r ≡ e.parents
  unfolding extension_parents line_map_of type_map_of
  added_is T r {e} i p q =
      let one : filter (keyed T r) s.extensions ≡ e ∷ [] =
      filter-one (keyed T r) e s.extensions
      (sorted-imp s.extensions (λ e f i j h c. h (ap key_of c)) keys-apart)
      i (keyed-in e p q)
      (λ f j t. let k = keyed-of f t in one_key key_of s.extensions keys-apart j i (ap₂ (λ a b. (a, b)) (k.0 ∙ sym p) (k.1 ∙ sym q))) in
      rw one (append-nil e.parents)

  no-added : (T : Name) (r : ℕ) → ((e : Extension) → In e s.extensions → e.name ≡ T → e.word ≡ r → ⊥) → extension_parents (line_map s) T r ≡ []
  unfolding extension_parents line_map_of type_map_of
  no-added T r h =
      rw (filter_none (keyed T r) s.extensions (λ e i. not_so (λ t. let k = keyed-of e t in h e i k.0 k.1)))

  pub extension-parents-are : (T : TypeInfo) (r : ℕ) (ps : List Name) → ExtensionParents s T r ps ↔ (ps ≡ extension_parents (line_map s) T.name r)
  extension-parents-are T r ps = (to, from)
    where
      to : ExtensionParents s T r ps → ps ≡ extension_parents (line_map s) T.name r
      to (record' e i p q h) = h ∙ sym (added_is T.name r i p q)
      to (no_record n h) = h ∙ sym (no-added T.name r n)

      from : ps ≡ extension_parents (line_map s) T.name r → ExtensionParents s T r ps
      from h =
          by (null (filter (keyed T.name r) s.extensions))
          (λ e.
          let n : (f : Extension) → In f s.extensions → f.name ≡ T.name → f.word ≡ r → ⊥ =
          λ f i p q. null-in e (filter-in (keyed T.name r) i (keyed-in f p q)) in
          no_record n (h ∙ no-added T.name r n))
          (λ e.
          let x = null-not (filter (keyed T.name r) s.extensions) e in
          let y = filter-of (keyed T.name r) s.extensions x.1 in
          let k = keyed-of x.0 y.1 in
          record' x.0 y.0 k.0 k.1 (h ∙ added_is T.name r y.0 k.0 k.1))

  -- ---- marks and virtual

  marks-one : {D : TypeInfo} {c : Name} (cs : List Name) → In D s.types → D.name ≡ c → marks_of (line_map s) (c ∷ cs) ≡ D.marks ++ marks_of (line_map s) cs
  unfolding marks_of line_type_of
  marks-one {D} cs i e = rw (declared-one s ok i e, append-nil D.marks)

  pub marks-of : {cs : List Name} {ms : List Mark} → Marks s cs ms → AllDeclared s cs × (ms ≡ marks_of (line_map s) cs)
  unfolding marks_of
  marks-of end = (λ c i. absurd (Memᴰ.not-nil i), refl)
  marks-of (and {cs = cs} D i e r q) =
      let h = marks-of r in
      (λ c j. cons-elim j (λ p. (D, i, e ∙ sym p)) (h.0 c), q ∙ ap (λ l. D.marks ++ l) h.1 ∙ sym (marks-one cs i e))

  pub marks-in : (cs : List Name) → AllDeclared s cs → Marks s cs (marks_of (line_map s) cs)
  unfolding marks_of
  marks-in [] h = end
  marks-in (c ∷ cs) h =
      let d = h c (Memᴰ.head refl) in
      and d.0 d.1 d.2 (marks-in cs (λ x i. h x (Memᴰ.tail i))) (marks-one cs d.1 d.2)

  virtual-one : (D : TypeInfo) {c : Name} → In D s.types → D.name ≡ c → all (λ (X : LineType). X.virtual) (declared (line_map s) c) ≡ true → D.virtual ≡ true
  unfolding line_type_of
  virtual-one D i e h = and_left D.virtual true (rw (declared-one s ok i e) at h)

  virtual-each : (c : Name) → ((D : TypeInfo) → In D s.types → D.name ≡ c → D.virtual ≡ true) → all (λ (X : LineType). X.virtual) (declared (line_map s) c) ≡ true
  unfolding line_type_of
  virtual-each c h =
      all_of (λ (X : LineType). X.virtual) (declared (line_map s) c) (λ X i.
      let x = (look-up-is (λ (D : LineType). D.name) (line_map s).types c X).0 i in
      let t = type-of s x.0 in
      subst (λ (D : LineType). D.virtual ≡ true) t.2 (h t.0 t.1 (ap (λ (D : LineType). D.name) t.2 ∙ x.1)))

  -- virtual exactly if T and all classes are (FORMAT 4.6)
  pub virtual_is : (T : TypeInfo) (cs : List Name) → ((T.virtual && all_virtual (line_map s) cs) ≡ true) ↔ AllVirtual s T cs
  unfolding all_virtual
  virtual_is T cs =
      let each : Name → Bool = λ c. all (λ (X : LineType). X.virtual) (declared (line_map s) c) in (
        λ e. record {
          type = and_left T.virtual (all each cs) e;
          every = λ c D i j n. virtual-one D j n (all_in each (and_right T.virtual (all each cs) e) i);
        },
        λ h. and_both h.type (all_of each cs (λ c i. virtual-each c (λ D j n. h.every c D i j n))),
      )

  -- ---- a resource T.r

  pub makes-are : (T : TypeInfo) (r : ℕ) (classes firsts : List Name) (x : Item)
      → Makes s T r classes firsts x ↔ (AllDeclared s classes × (x ≡ create_synthetic_resource (line_map s) (line_type_of T) r classes firsts))
  unfolding create_synthetic_resource line_type_of
  makes-are T r classes firsts x =
      let added = extension_parents (line_map s) T.name r in
      let virtual = T.virtual && all_virtual (line_map s) classes in (
        λ h.
            let m = marks-of h.is_marks in
            let n = resource-one h.is_resource in
            let p = (extension-parents-are T r h.added).0 h.is_added in
            let w : h.virtual ≡ virtual = same_test (λ e. (virtual_is T classes).1 (h.is_virtual.0 e)) (λ e. h.is_virtual.1 ((virtual_is T classes).0 e)) in
            (m.0, h.item ∙ (λ i. synthesized T.name r (w i) (firsts ++ (n i ∷ []) ∷ p i) (m.1 i))),
        λ h. record {
          resource = (line_map s).resource;
          is_resource = resource-at;
          added = added;
          is_added = (extension-parents-are T r added).1 refl;
          virtual = virtual;
          is_virtual = virtual_is T classes;
          marks = marks_of (line_map s) classes;
          is_marks = marks-in classes h.0;
          item = h.1;
        },
      )

-- ---- classes

-- the names of classes and of first parents: `r`, `dom.r` and P.r (FORMAT 4.2, 4.4)
pub dotted-of : {r : ℕ} {ds : List Dom} {cs : List Name} → Dotted r ds cs → cs ≡ class_names ds r
dotted-of end = refl
dotted-of (and e d) = ap₂ (λ c cs. c ∷ cs) e (dotted-of d)

pub dotted-in : (r : ℕ) (ds : List Dom) → Dotted r ds (class_names ds r)
dotted-in r [] = end
dotted-in r (d ∷ ds) = and refl (dotted-in r ds)
