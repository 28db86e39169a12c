-- A filled form reads the map of the draft.
use Rattle.std.specs.Prelude.{Bool, true, false, List, [], ◌∷◌, map, ◌≡◌, refl, ℕ, zero, suc, ◌%◌, ◌≤◌, ◌<◌, eqb, ltb, length, get_or}
use Rattle.std.proofs.Math.Path.{sym, ap, ap₂}
use Rattle.std.proofs.Common.{◌∙◌, subst, arith, eqb-true, lt-ltb, ltb-true}
use Rattle.std.proofs.lemmas.Bool.{eqb-false}
use Rattle.lists.specs.Lists.{place_of}
use Rattle.lists.specs.Tests.{by, and_left}
use Rattle.rows.specs.Rows.{has_bit}
use Rattle.rows.specs.RowLaws.{bit-none}
use Rattle.definitions.specs.Records.{TypeInfo}
use Rattle.definitions.specs.Comparisons.{same_name}
use Rattle.definitions.specs.Map.{TypeMap}
use Rattle.order_form.specs.Lists.{tab, tab-same, map-tab}
use Rattle.order_form.specs.Reading.{no_name, listed, no_type, type_at, place_in, first_word, second_word, words_of, parent_in, ReadsType, Reads}
use Rattle.order_form.specs.declared.Parent.{Parent}
use Rattle.order_form.specs.Reading as reading
use Rattle.order_form.specs.declared.Parents.{Parents}
use Rattle.sheet_keys.specs.Keys.{name_of_key}
use Rattle.sheet_draft.specs.Draft.{key_at, parent_count_at, parent_at}
use Rattle.fields.specs.Keys.{first_of, second_of, name_with}
use Rattle.fields.specs.declared.Name as held
use Rattle.catalogue.specs.Layout.{looked}
use Rattle.catalogue.specs.declared.Catalogue.{Catalogue}
use Rattle.sheet_draft.specs.declared.Draft.{Draft}
use Rattle.sheet_draft.specs.declared.entry.Entry.{Entry}
use Rattle.order_parents.specs.Parents.{row_of}
use Rattle.order_parents.specs.Known.{Looks}
use Rattle.order_compact.specs.Compact.{PlaceIs, Drafts, ParentIs, Stands}
use Rattle.order_compact.specs.Reading.{Drawn, Compacts}

-- the words of a key
first-word : (key : ℕ) → key < 65536 → first_of key ≡ first_word (name_of_key key)
unfolding name_of_key
first-word key h = by (eqb (key % 256) 0) (λ e. rw e (omega arith)) (λ e. rw e (omega arith))

second-word : (key : ℕ) → second_of key ≡ second_word (name_of_key key)
unfolding name_of_key
second-word key =
    by (eqb (key % 256) 0)
    (λ e. let z : key % 256 ≡ 0 = eqb-true (key % 256) 0 e in rw e (omega arith))
    (λ e. let z = eqb-false (key % 256) 0 e in rw e (omega (arith, z)))

words-of-key : (key : ℕ) → key < 65536 → name_with key ≡ words_of (name_of_key key)
words-of-key key h = rw (first-word key h, second-word key) refl

-- the first place of which f holds
first-place : {A : Type 0} (f : A → Bool) (l : List A) (d : A) (r : ℕ) → r ≤ length l → ((k : ℕ) → k < r → f (get_or l k d) ≡ false) →
    (r < length l → f (get_or l r d) ≡ true) → place_of f l ≡ r
first-place f [] d zero w b e = refl
first-place f [] d (suc r) w b e = absurd (omega arith)
first-place f (x ∷ l) d zero w b e = rw (e (omega arith))
first-place f (x ∷ l) d (suc r) w b e =
    rw (b 0 (omega arith)) (ap suc (first-place f l d r (omega arith) (λ k h. b (suc k) (omega arith)) (λ h. e (omega arith))))

-- the place of a key is that of its name
place-of-key : (m : TypeMap) (t : Catalogue) (key r : ℕ) → Looks m t key → PlaceIs (looked t key) (length m.types) r → r ≡ place_in m (name_of_key key)
unfolding place_in
place-of-key m t key r l p =
    let n = length m.types in
    let f : TypeInfo → Bool = λ (T : TypeInfo). same_name (name_of_key key) T.name in
    let here : (k : ℕ) → k < n → f (type_at m k) ≡ has_bit (looked t key) k = λ k h. sym (l.bits k ∙ rw (lt-ltb k n h)) in
    by (eqb (looked t key) 0)
    (λ e.
    let z : looked t key ≡ 0 = eqb-true _ _ e in
    let y : r ≡ n = p.none z in
    sym (first-place f m.types no_type r (omega arith) (λ k h. here k (omega arith) ∙ ap (λ (x : ℕ). has_bit x k) z ∙ bit-none k) (λ h. absurd (omega arith))))
    (λ e.
    let z = eqb-false (looked t key) 0 e in
    let w = p.some (omega (arith, z)) in
    let g = sym (l.bits r) ∙ w.there in
    let h : r < n = ltb-true r n (and_left (ltb r n) (same_name (name_of_key key) (type_at m r).name) g) in
    sym (first-place f m.types no_type r (omega arith) (λ k i. here k (omega arith) ∙ w.none k i) (λ i. here r h ∙ w.there)))

abbrev parent : ℕ → held.Name → Parent
parent x n = record { place = x; name = n }

-- a form with the same columns stands as well
pub stands_alike : (t : Catalogue) (d : Draft) (entries : List Entry) (n w b : ℕ) (l new : Parents)
    → new.self_word ≡ l.self_word → new.names ≡ l.names → new.counts ≡ l.counts → new.parents ≡ l.parents
    → Stands t d entries n w b l → Stands t d entries n w b new
stands_alike t d entries n w b l new e f h p s = record {
  self_word = e ∙ s.self_word;
  type = λ a i. let k = s.type a i in record {
    name = ap (λ (x : List held.Name). get_or x a no_name) f ∙ k.name;
    many = ap (λ (x : List ℕ). get_or x a 0) h ∙ k.many;
  };
  parents = λ a k i j.
      subst (ParentIs t (parent_at d (row_of entries a) k) n) (sym (ap (λ (x : List (List Parent)). get_or (get_or x a []) k reading.no_parent) p)) (s.parents a k i j);
}

module _ (t : Catalogue) (d : Draft) (entries : List Entry) (n w b : ℕ) (l : Parents) (s : Stands t d entries n w b l) (counted : l.count ≡ n) (whole : n ≤ b) (a : Drafts d entries n) where
  module _ (m : TypeMap) (g : Drawn m t d entries n w) where
    parent_is : (i k : ℕ) → i < n → k < parent_count_at d (row_of entries i) → reading.parent_at l i k ≡ parent_in m (name_of_key (parent_at d (row_of entries i) k))
    unfolding parent_in
    parent_is i k h e =
        let key = parent_at d (row_of entries i) k in
        let q = s.parents i k (omega (arith, whole)) e in
        ap₂ parent
        (place-of-key m t key _ (g.rows.looks i k h e) (subst (λ (x : ℕ). PlaceIs (looked t key) x (reading.parent_at l i k).place) g.rows.count q.place))
        (q.name ∙ words-of-key key ((a.parents i h).keys k e))

    type_reads : (i : ℕ) → i < n → ReadsType l m i
    unfolding listed
    type_reads i h =
        let key = key_at d (row_of entries i) in
        let k = s.type i (omega (arith, whole)) in
        record {
          name = k.name ∙ words-of-key key (a.name i h) ∙ ap words_of (sym (g.names i h));
          parents =
              ap (tab (λ j. reading.parent_at l i j)) k.many
              ∙ tab-same _ _ (parent_count_at d (row_of entries i)) (λ j e. parent_is i j h e)
              ∙ sym (map-tab (parent_in m) (λ j. name_of_key (parent_at d (row_of entries i) j)) (parent_count_at d (row_of entries i)))
              ∙ ap (map (parent_in m)) (sym (g.rows.parents i h));
          names = g.within.names i (omega (arith, g.rows.count));
          most = omega (arith, k.many);
        }

    reads_all : Reads l m
    reads_all = record {
      count = counted ∙ g.rows.count;
      most = omega (arith, counted, g.rows.few);
      self = s.self_word ∙ g.word;
      word = g.within.word;
      distinct = g.within.distinct;
      types = λ i h. type_reads i (omega (arith, counted));
    }

  pub stands_reads : Compacts t d entries n w l
  stands_reads = record { reads = reads_all }
