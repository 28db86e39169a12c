-- Laws of held makings.
use mathlib.Core.Bool.{Bool, true, false, ◌||◌, not, or-false, and-false}
use Rattle.std.specs.Prelude.{List, Option, is_some, [], ◌∷◌, ◌++◌, ◌≡◌, ℕ, zero, suc, ◌+◌, ◌*◌, ◌-◌, ◌/◌, ◌%◌, ◌<◌, eqb, ltb, length, replicate}
use Rattle.std.proofs.Math.Path.{refl, ap, ap₂}
use Rattle.std.proofs.lemmas.List.{length-replicate}
use Rattle.std.specs.Bool.{MatchBool}
use Rattle.std.specs.List.{AllWithin, HoldsAt}
use Rattle.std.proofs.Common.{sym, ◌∙◌, subst, add-one, get_or-take}
use native.Mathlib.Omega.{arith}
use borrow.Author.Tests.{eq-eqb, ne_eqb, eqb-true, eqb-false}
use Rattle.lists.specs.Lists.{any, null, keep}
use Rattle.lists.specs.Tests.{by}
use Rattle.lists.specs.Appending.{any_append}
use Rattle.lists.specs.Members.{filter_none}
use Rattle.bounded.specs.Items.{items_of, length-items_of, count-more, item-old, item-new}
use Rattle.rows.specs.declared.Row.{Row}
use Rattle.definitions.specs.Records.{Name, Mark, Item, Sheet, synthesized}
use Rattle.definitions.specs.Comparisons.{same_name, look_up, dotted}
use Rattle.definitions.specs.Map.{LineType, LineMap}
use Rattle.definitions.specs.Making.{declared, create_synthetic_resource, extension_line, same_item}
use Rattle.definitions.specs.Synthesis.{is_duplicate, with_making}
use Rattle.law_lines.specs.Statements.{line_map}
use Rattle.law_classes.specs.Sets.{no_type, type_at}
use Rattle.law_classes.specs.Numbers.{place-of}
use Rattle.catalogue.specs.Layout.{key_at}
use Rattle.catalogue.specs.declared.Catalogue.{Catalogue}
use Rattle.sheet_keys.specs.Keys.{name_of_key}
use Rattle.synth_classes.specs.declared.site.Site.{Site}
use Rattle.synth_classes.specs.declared.Origin.{Origin}
use Rattle.synth_classes.specs.Classes.{place_if, place_of}
use Rattle.synth_classes.specs.ClassLaws.{place-low}
use Rattle.synth_classes.specs.Made.{created}
use Rattle.synth_classes.specs.Known.{Known, name-known, type-known}
use Rattle.synth_same.specs.Same.{SameMaking}
use Rattle.synth_duplicates.specs.declared.Making.{Making}
use Rattle.synth_duplicates.specs.Held.{Makings, no_making, making_at, word_at, doms_at, parents_at, held_items, Keeps, Declared, SameAs, Made, Repeated}

-- ---- what stands among the items

-- an extension line is no making
kept-none : (b : Bool) (n : Name) (r : ℕ) (v : Bool) (ps : List Name) (ms : List Mark) (D : LineType) (w : ℕ) →
    any (same_item (synthesized n r v ps ms)) (keep b (extension_line D w) []) ≡ false
unfolding same_item extension_line
kept-none true n r v ps ms D w = refl
kept-none false n r v ps ms D w = refl

made-step : (n : Name) (r : ℕ) (v : Bool) (ps : List Name) (ms : List Mark) (D : LineType) (w : ℕ) (new : Item) (is : List Item) →
    any (same_item (synthesized n r v ps ms)) (with_making D w new is) ≡ (any (same_item (synthesized n r v ps ms)) is || same_item (synthesized n r v ps ms) new)
unfolding with_making
made-step n r v ps ms D w new is =
    any_append (same_item (synthesized n r v ps ms)) is (new ∷ keep (not (any (same_item (extension_line D w)) is)) (extension_line D w) [])
    ∙ ap (λ b. any (same_item (synthesized n r v ps ms)) is || (same_item (synthesized n r v ps ms) new || b))
    (kept-none (not (any (same_item (extension_line D w)) is)) n r v ps ms D w)
    ∙ ap (λ b. any (same_item (synthesized n r v ps ms)) is || b) (or-false (same_item (synthesized n r v ps ms) new))

module _ (t : LineMap) (T : ℕ) (h : Makings) (n : Name) (r : ℕ) (v : Bool) (ps : List Name) (ms : List Mark) where
  abbrev x : Item
  x = synthesized n r v ps ms

  held-step : (i : ℕ) → any (same_item x) (held_items t T h (i + 1)) ≡ (any (same_item x) (held_items t T h i) || same_item x (created t T (word_at h i) (doms_at h i) (parents_at h i)))
  unfolding held_items
  held-step i =
      ap (λ (k : ℕ). any (same_item x) (held_items t T h k)) (add-one i)
      ∙ made-step n r v ps ms (type_at t T) (word_at h i) (created t T (word_at h i) (doms_at h i) (parents_at h i)) (held_items t T h i)

  pub held_start : any (same_item x) (held_items t T h 0) ≡ false
  unfolding held_items
  held_start = refl

  -- not yet one that is the same
  pub held_next : (i : ℕ) → any (same_item x) (held_items t T h i) ≡ false → same_item x (created t T (word_at h i) (doms_at h i) (parents_at h i)) ≡ false →
      any (same_item x) (held_items t T h (i + 1)) ≡ false
  held_next i p q = held-step i ∙ rw (p, q)

  -- one that is the same
  pub held_found : (i j : ℕ) → i < j → same_item x (created t T (word_at h i) (doms_at h i) (parents_at h i)) ≡ true → any (same_item x) (held_items t T h j) ≡ true
  held_found i zero l q = absurd (omega arith)
  held_found i (suc j) l q =
      ap (λ (k : ℕ). any (same_item x) (held_items t T h k)) (sym (add-one j))
      ∙ held-step j
      ∙ by (eqb i j)
      (λ e. let z : i ≡ j = eqb-true i j e in rw (← z, q) (mathlib.Core.Bool.or-true (any (same_item x) (held_items t T h i))))
      (λ e. rw (held_found i j (omega (arith, eqb-false i j e)) q))

  -- makings of other words are not the same
  pub unlike-word : (w : ℕ) (doms : Row) (qs : ℕ) → (w ≡ r → ⊥) → same_item x (created t T w doms qs) ≡ false
  unfolding created create_synthetic_resource same_item
  unlike-word w doms qs e = rw (ne_eqb r w (λ z. e (sym z))) (and-false (same_name n (type_at t T).name))

-- likewise for the making of a word
module _ (t : LineMap) (T : ℕ) (h : Makings) (r : ℕ) (doms : Row) (ps : ℕ) where
  abbrev new : Item
  new = created t T r doms ps

  pub new-start : any (same_item new) (held_items t T h 0) ≡ false
  unfolding created create_synthetic_resource
  new-start = held_start t T h _ _ _ _ _

  pub new-next : (i : ℕ) → any (same_item new) (held_items t T h i) ≡ false → same_item new (created t T (word_at h i) (doms_at h i) (parents_at h i)) ≡ false →
      any (same_item new) (held_items t T h (i + 1)) ≡ false
  unfolding created create_synthetic_resource
  new-next i p q = held_next t T h _ _ _ _ _ i p q

  pub new-found : (i j : ℕ) → i < j → same_item new (created t T (word_at h i) (doms_at h i) (parents_at h i)) ≡ true → any (same_item new) (held_items t T h j) ≡ true
  unfolding created create_synthetic_resource
  new-found i j l q = held_found t T h _ _ _ _ _ i j l q

  pub new-unlike : (w : ℕ) (e : Row) (qs : ℕ) → (w ≡ r → ⊥) → same_item new (created t T w e qs) ≡ false
  unfolding created create_synthetic_resource
  new-unlike w e qs l = unlike-word t T h _ _ _ _ _ w e qs l

-- ---- one more

more-item : (t : LineMap) (T : ℕ) (x y : Making) (is js : List Item) → x ≡ y → is ≡ js →
    with_making (type_at t T) x.word (created t T x.word x.origin.doms x.origin.parents) is
    ≡ with_making (type_at t T) y.word (created t T y.word y.origin.doms y.origin.parents) js
more-item t T x y is js p q =
    ap₂ (λ (z : Making) (ks : List Item). with_making (type_at t T) z.word (created t T z.word z.origin.doms z.origin.parents) ks) p q

same-items : (t : LineMap) (T : ℕ) (h r : Makings) (n : ℕ) → ((i : ℕ) → i < n → making_at r i ≡ making_at h i) → held_items t T r n ≡ held_items t T h n
unfolding held_items
same-items t T h r zero e = refl
same-items t T h r (suc n) e = more-item t T _ _ _ _ (e n (omega arith)) (same-items t T h r n (λ i l. e i (omega arith)))

-- one making behind the others
pub keeps_more : (h r : Makings) (x : Making) → items_of r ≡ items_of h ++ (x ∷ []) → Keeps h x.word x.origin.doms x.origin.parents r
unfolding held_items
keeps_more h r x e =
    let n = count-more h r x e in
    record {
      count = n;
      items = λ t T.
          ap (λ (k : ℕ). held_items t T r k) (n ∙ add-one h.count)
          ∙ more-item t T _ _ _ _ (item-new h r x no_making e) (same-items t T h r h.count (λ i l. item-old h r x no_making e i l));
    }

-- ---- T.r

-- a two-word T gives a name of three words, which is not that of a type
short-name : (key : ℕ) (a b c : ℕ) (l : Name) → same_name (name_of_key key) (a ∷ b ∷ c ∷ l) ≡ false
unfolding name_of_key
short-name key a b c l =
    by (eqb (key % 256) 0)
    (λ e. rw e (and-false (eqb (key / 256) a)))
    (λ e. rw (e, and-false (eqb (key % 256 - 1) b)) (and-false (eqb (key / 256) a)))

module _ (s : Sheet) (t : Catalogue) (known : Known s t) (T word : ℕ) (h : T < length (line_map s).types) where
  abbrev key : ℕ
  key = key_at t T

  key-name : key_at t T % 65536 ≡ key_at t T
  key-name = omega (arith, (known.listed.entry T h).key)

  name-is : name_of_key key ≡ (type_at (line_map s) T).name
  name-is = ap name_of_key (sym key-name) ∙ name-known s t known T h

  three : (key % 256 ≡ 0 → ⊥) → dotted (name_of_key key) word ≡ (key / 256) ∷ (key % 256 - 1) ∷ word ∷ []
  unfolding name_of_key
  three e = rw (ne_eqb (key % 256) 0 e) refl

  two-words : (key % 256 ≡ 0 → ⊥) → declared (line_map s) (dotted (type_at (line_map s) T).name word) ≡ []
  unfolding look_up
  two-words e =
      ap (λ c. declared (line_map s) (dotted c word)) (sym name-is)
      ∙ filter_none (λ (D : LineType). same_name D.name (dotted (name_of_key key) word)) (line_map s).types
      (λ D i.
      let p = place-of no_type D (line_map s).types i in
      let q : name_of_key (key_at t p.0 % 65536) ≡ D.name = name-known s t known p.0 p.1 ∙ ap (λ (E : LineType). E.name) p.2 in
      ap₂ same_name (sym q) (three e) ∙ short-name (key_at t p.0 % 65536) _ _ _ [])

  one-word : key % 256 ≡ 0 → word < 255 → not (null (declared (line_map s) (dotted (type_at (line_map s) T).name word))) ≡ ltb (place_of t (key / 256 % 256 * 256 + (word + 1))) 64
  unfolding name_of_key
  one-word e w =
      let k = key / 256 % 256 * 256 + (word + 1) in
      let a : k / 256 ≡ key / 256 = omega (arith, (known.listed.entry T h).key) in
      let b : k % 256 ≡ word + 1 = omega arith in
      let c : word + 1 - 1 ≡ word = omega arith in
      let q : dotted (name_of_key key) word ≡ name_of_key k = rw (eq-eqb (key % 256) 0 e, a, b, ne_eqb (word + 1) 0 (λ z. omega arith), c) refl in
      ap (λ c. not (null (declared (line_map s) (dotted c word)))) (sym name-is)
      ∙ ap (λ c. not (null (declared (line_map s) c))) q
      ∙ ap (λ l. not (null l)) (type-known s t known k)
      ∙ by (ltb (place_of t k) 64) (λ z. rw z) (λ z. rw z)

pub declared_three : (t : Catalogue) (T word : ℕ) → (key_at t T % 256 ≡ 0 → ⊥) → Declared t T word false
declared_three t T word e = record { right = λ s k l. sym (ap (λ x. not (null x)) (two-words s t k T word l e)) }

pub declared_two : (t : Catalogue) (T word : ℕ) (p : Option ℕ) → key_at t T % 256 ≡ 0 → word < 255 → p ≡ place_if (place_of t (key_at t T / 256 % 256 * 256 + (word + 1))) → Declared t T word (is_some p)
declared_two t T word p e w q =
    record {
      right = λ s k l. ap is_some q ∙ place-low (place_of t (key_at t T / 256 % 256 * 256 + (word + 1))) ∙ sym (one-word s t k T word l e w);
    }

-- ---- the makings one after the other

module _ (t : Catalogue) (site : Site) (o : Origin) where
  pub same_word : (m : Making) (r : Bool) → m.word ≡ site.word → SameMaking t site o m.origin r → SameAs t site o m r
  same_word m r w same =
      record {
        right = λ s k l.
            same.right s k l
            ∙ ap (λ (y : ℕ). same_item (created (line_map s) site.place site.word o.doms o.parents) (created (line_map s) site.place y m.origin.doms m.origin.parents)) (sym w);
      }

  pub other_word : (m : Making) → (m.word ≡ site.word → ⊥) → SameAs t site o m (eqb m.word site.word)
  other_word m w =
      let none : Makings = record { count = 0; items = replicate 380 no_making; few = omega arith; long = length-replicate 380 no_making } in
      rw (ne_eqb m.word site.word w)
      (record {
        right = λ s k l. sym (new-unlike (line_map s) site.place none site.word o.doms o.parents m.word m.origin.doms m.origin.parents w);
      })

  made-none : (h : Makings) (n : ℕ) → ((i : ℕ) → i < n → SameAs t site o (making_at h i) false) → Made t site o h n false
  made-none h zero f = record { right = λ s k l. sym (new-start (line_map s) site.place h site.word o.doms o.parents) }
  made-none h (suc n) f =
      record {
        right = λ s k l.
            let m = made-none h n (λ i b. f i (omega arith)) in
            sym (new-next (line_map s) site.place h site.word o.doms o.parents n (sym (m.right s k l)) (sym ((f n (omega arith)).right s k l)))
            ∙ ap (λ (i : ℕ). any (same_item (created (line_map s) site.place site.word o.doms o.parents)) (held_items (line_map s) site.place h i)) (add-one n);
      }

  made-some : (h : Makings) (n i : ℕ) → i < n → SameAs t site o (making_at h i) true → Made t site o h n true
  made-some h n i l m =
      record { right = λ s k z. sym (new-found (line_map s) site.place h site.word o.doms o.parents i n l (sym (m.right s k z))) }

  -- what a search for one among the makings answers
  pub made-any : (h : Makings) (r : Bool) → MatchBool r ((i : ℕ) × (i < length (items_of h)) × HoldsAt (λ x. SameAs t site o x true) (items_of h) i)
      (AllWithin (λ x. SameAs t site o x false) (items_of h) 0 (length (items_of h))) → Made t site o h h.count r
  made-any h true f =
      let l : f.0 < h.count = omega (arith, f.1, length-items_of h) in
      made-some h h.count f.0 l (subst (λ (x : Making). SameAs t site o x true) (get_or-take h.count h.items f.0 no_making l) (f.2 no_making))
  made-any h false f =
      made-none h h.count
      (λ i l. subst (λ (x : Making). SameAs t site o x false) (get_or-take h.count h.items i no_making l) (f i no_making (omega arith) (omega (arith, length-items_of h))))

-- ---- a duplicate

module _ (t : Catalogue) (site : Site) (o : Origin) (h : Makings) where
  pub repeated_declared : (n : ℕ) (r : Bool) → Declared t site.place site.word r → r ≡ true → Repeated t site o h n r
  unfolding is_duplicate
  repeated_declared n r d q = record { right = λ s k l. q ∙ rw (← d.right s k l, q) refl }

  pub repeated_made : (n : ℕ) (r x : Bool) → Declared t site.place site.word r → r ≡ false → Made t site o h n x → Repeated t site o h n x
  unfolding is_duplicate
  repeated_made n r x d q m = record { right = λ s k l. rw (← d.right s k l, q) (m.right s k l) }
