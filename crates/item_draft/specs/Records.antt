-- The extension records in the catalogue are those of the map.
use Rattle.std.proofs.Math.Bool.{Bool}
use Rattle.std.specs.Prelude.{true, false, ◌&&◌, ◌≡◌, refl, length}
use mathlib.Core.List.{List, [], ◌∷◌, ◌++◌, map}
use Rattle.std.proofs.Math.Path.{sym, ap}
use Rattle.std.proofs.Common.{◌∙◌, subst, arith, eq-eqb, eqb-true, lt-ltb}
use Prim.Native.Nat.{ℕ, zero, suc, ◌+◌, ◌*◌, ◌/◌, ◌%◌, ◌≤◌, ◌<◌}
use Rattle.std.proofs.lemmas.Bool.{eqb-false}
use Rattle.std.proofs.Math.Dec.{eqb}
use Rattle.lists.specs.Lists.{In, any, filter, each}
use Rattle.lists.specs.Tests.{by, same_test, and_left, and_right, and_both}
use Rattle.lists.specs.Appending.{each_map}
use Rattle.lists.specs.Tabulating.{tabulate, tabulate-in, length-tabulate}
use Rattle.rows.specs.Rows.{has_bit}
use Rattle.definitions.specs.Records.{Name, Sheet}
use Rattle.definitions.specs.Records as records
use Rattle.definitions.specs.Comparisons.{same_name}
use Rattle.definitions.specs.Map.{LineMap, type_map_of, line_map_of}
use Rattle.definitions.specs.Making.{extension_parents}
use Rattle.law_orders.specs.Comparisons.{same-name, name-same}
use Rattle.law_lines.specs.Statements.{line_map}
use Rattle.law_lines.specs.Within.{NameWithin, ExtensionWithin, Within}
use Rattle.order_form.specs.Lists.{tab, any-tab-out, below, below-same, below_none, filter-below, map_below, same-list-sym}
use Rattle.law_classes.specs.Sets.{type_at}
use Rattle.catalogue.specs.Layout.{key_at, extension_key_at, extension_count_at, extension_parent_at, looked}
use Rattle.catalogue.specs.Catalogue.{name_of_key, parents_in, added_in, Extended}
use Rattle.catalogue.specs.declared.Catalogue.{Catalogue}
use Rattle.item_names.specs.Names.{key_of}
use Rattle.item_names.specs.Named.{Named, NamesIn, name-of-key, key-name, types-hold}
use Rattle.item_sets.specs.Sets.{RecordKeysFit}
use Rattle.item_draft.specs.Fill.{record_in}
use Rattle.item_draft.specs.Rows.{first_below}

-- ---- keys

-- the key of a name
abbrev key_back : Name → ℕ
key_back [] = 0
key_back (a ∷ []) = a * 256
key_back (a ∷ b ∷ l) = a * 256 + b + 1

key_back_lem : (k : ℕ) → key_back (name_of_key k) ≡ k
unfolding name_of_key
key_back_lem k =
    by (eqb (k % 256) 0)
    (λ e. rw e (omega (arith, eqb-true (k % 256) 0 e)))
    (λ e. rw e (omega (arith, eqb-false (k % 256) 0 e)))

-- names are equal where their keys are
pub same_key : (k j : ℕ) → same_name (name_of_key k) (name_of_key j) ≡ eqb k j
same_key k j =
    same_test
    (λ e. eq-eqb k j (sym (key_back_lem k) ∙ ap key_back (same-name (name_of_key k) (name_of_key j) e) ∙ key_back_lem j))
    (λ e. name-same (ap name_of_key (eqb-true k j e)))

-- the keys of records, by name and word
record_same : (x k r : ℕ) → r < 256 → eqb x (k * 256 + r) ≡ (eqb (x / 256) k && eqb (x % 256) r)
record_same x k r h =
    same_test
    (λ e.
    let q = eqb-true x (k * 256 + r) e in
    let p : x / 256 ≡ k = omega arith in
    let o : x % 256 ≡ r = omega arith in
    and_both (eq-eqb (x / 256) k p) (eq-eqb (x % 256) r o))
    (λ e.
    let p = eqb-true (x / 256) k (and_left (eqb (x / 256) k) (eqb (x % 256) r) e) in
    let o = eqb-true (x % 256) r (and_right (eqb (x / 256) k) (eqb (x % 256) r) e) in
    eq-eqb x (k * 256 + r) (omega arith))

-- what a filter keeps of a row of values
filter-tabulate : {A : Type 0} (f : A → Bool) (h : ℕ → A) (n : ℕ) → filter f (tabulate h n) ≡ map h (below (λ x. f (h x)) n)
unfolding tabulate
filter-tabulate {A} f h n = ap (filter f) (as-tab n ∙ sym (map_below h n)) ∙ filter-below f h (λ x. true) n
  where
    as-tab : (n : ℕ) → tabulate h n ≡ tab h n
    as-tab zero = refl
    as-tab (suc n) = ap (λ (l : List A). l ++ (h n ∷ [])) (as-tab n)

-- ---- the records by themselves

module _ (s : Sheet) (t : Catalogue) (n : ℕ) (w : Within s) (held : tabulate (record_in t) n ≡ s.extensions) where
  pub few-records : n ≤ 32
  few-records = omega (arith, w.extensions, ap length held, length-tabulate (record_in t) n)

  record-within : (e : ℕ) → e < n → ExtensionWithin (length s.words) (record_in t e)
  record-within e h = w.extension (record_in t e) (subst (In (record_in t e)) held (tabulate-in (record_in t) n e h))

  record-name : (e : ℕ) → e < n → NameWithin (length s.words) (name_of_key (extension_key_at t e / 256))
  unfolding record_in
  record-name e h = (record-within e h).name

  pub record-key : (e : ℕ) → e < n → extension_key_at t e < 16777216
  record-key e h = omega (arith, first_below (length s.words) (extension_key_at t e / 256) (record-name e h), w.words)

  pub record-count : (e : ℕ) → e < n → extension_count_at t e ≤ 8
  unfolding record_in parents_in
  record-count e h = omega (arith, (record-within e h).parents, length-tabulate (λ j. name_of_key (extension_parent_at t e j)) (extension_count_at t e))

  pub record-parent : (e j : ℕ) → e < n → j < extension_count_at t e → extension_parent_at t e j < 65536
  unfolding record_in parents_in
  record-parent e j h k =
      let p = extension_parent_at t e j in
      omega (arith, first_below (length s.words) p ((record-within e h).parent (name_of_key p) (tabulate-in (λ i. name_of_key (extension_parent_at t e i)) (extension_count_at t e) j k)), w.words)

  pub record-keys-fit : RecordKeysFit t n
  record-keys-fit = record { few = few-records; small = record-key }

-- ---- the records and the types

module _ (s : Sheet) (firsts seconds : List ℕ) (t : Catalogue) (nm : Named (line_map s) (length s.words) firsts seconds)
    (ns : NamesIn firsts seconds (length (line_map s).types) (length s.words) t) (n : ℕ) (w : Within s) (held : tabulate (record_in t) n ≡ s.extensions)
    (count : t.extension_count ≡ n) (types : (a : ℕ) → has_bit t.extended a ≡ any (λ e. has_bit (looked t (extension_key_at t e / 256)) a) (tab (λ e. e) n)) where
  abbrev m : LineMap
  m = line_map s

  -- the record is one for the type at a and the word r
  abbrev is_for : ℕ → ℕ → ℕ → Bool
  is_for a r e = same_name (name_of_key (extension_key_at t e / 256)) (type_at m a).name && eqb (extension_key_at t e % 256) r

  for-type : (e a r : ℕ) → a < length m.types → r < length s.words → eqb (extension_key_at t e) (key_at t a * 256 + r) ≡ is_for a r e
  for-type e a r h k =
      record_same (extension_key_at t e) (key_at t a) r (omega (arith, w.words))
      ∙ ap (λ (b : Bool). b && eqb (extension_key_at t e % 256) r)
      (sym (ap (same_name (name_of_key (extension_key_at t e / 256))) (sym (key-name s firsts seconds t nm ns a h)) ∙ same_key (extension_key_at t e / 256) (key_at t a)))

  added-as : (a r : ℕ) → extension_parents m (type_at m a).name r ≡ each (parents_in t) (below (is_for a r) n)
  unfolding extension_parents record_in line_map_of type_map_of
  added-as a r =
      let f : records.Extension → Bool = λ y. same_name y.name (type_at m a).name && eqb y.word r in
      ap (λ (k : List records.Extension). each (λ (y : records.Extension). y.parents) (filter f k)) (sym held)
      ∙ ap (each (λ (y : records.Extension). y.parents)) (filter-tabulate f (record_in t) n)
      ∙ each_map (λ (y : records.Extension). y.parents) (record_in t) (below (λ e. f (record_in t e)) n)

  added_is : (a r : ℕ) → a < length m.types → r < length s.words → added_in t (key_at t a * 256 + r) ≡ extension_parents m (type_at m a).name r
  unfolding added_in
  added_is a r h k =
      let q : ℕ → Bool = λ e. eqb (extension_key_at t e) (key_at t a * 256 + r) in
      ap (λ (i : ℕ). each (parents_in t) (below q i)) count
      ∙ ap (each (parents_in t)) (below-same q (is_for a r) n (λ e b. for-type e a r h k))
      ∙ sym (added-as a r)

  -- the types of a record's name
  record-types : (e a : ℕ) → e < n → a < length m.types → has_bit (looked t (extension_key_at t e / 256)) a ≡ same_name (type_at m a).name (name_of_key (extension_key_at t e / 256))
  record-types e a h l =
      let x = extension_key_at t e in
      let f = x / 65536 in
      let g = (x / 256 % 256 + 255) % 256 in
      let u = record-key s t n w held e h in
      let j : x / 256 ≡ key_of f g = omega arith in
      ap (λ (k : ℕ). has_bit (looked t k) a) j
      ∙ types-hold s firsts seconds t nm ns f g (omega arith) (omega arith) a
      ∙ rw (lt-ltb a (length m.types) l)
      (ap (same_name (type_at m a).name) (sym (ap name_of_key j ∙ name-of-key f g (omega arith))))

  -- a type outside the set has no record
  none-added : (a r : ℕ) → a < length m.types → has_bit t.extended a ≡ false → extension_parents m (type_at m a).name r ≡ []
  none-added a r h z =
      added-as a r
      ∙ ap (each (parents_in t))
      (below_none (is_for a r) n
      (λ e k.
      let o : has_bit (looked t (extension_key_at t e / 256)) a ≡ false = any-tab-out (λ i. i) (λ i. has_bit (looked t (extension_key_at t i / 256)) a) n e (sym (types a) ∙ z) k in
      let b : same_name (type_at m a).name (name_of_key (extension_key_at t e / 256)) ≡ false = sym (record-types e a k h) ∙ o in
      rw (same-list-sym (name_of_key (extension_key_at t e / 256)) (type_at m a).name ∙ b)))

  pub extended : Extended s t
  extended = record {
    few = omega (arith, count, few-records s t n w held);
    counts = λ e h. record-count s t n w held e (omega (arith, count));
    keys = λ e h. record-key s t n w held e (omega (arith, count));
    parents = λ e j h b. record-parent s t n w held e j (omega (arith, count)) b;
    added = added_is;
    extended = λ a r h k z. none-added a r h z;
  }
