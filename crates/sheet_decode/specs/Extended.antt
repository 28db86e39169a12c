-- The extension records that the decoder left in a catalogue are those that the catalogue is to have.
use Rattle.std.proofs.Math.Bool.{Bool}
use Rattle.std.specs.Prelude.{true, false, ◌&&◌, ◌≡◌, refl}
use mathlib.Core.List.Memᴰ
use mathlib.Core.List.{List, [], ◌∷◌, ◌++◌, map}
use Rattle.std.proofs.Math.Path.{sym, ap}
use Rattle.std.proofs.Common.{◌∙◌, subst}
use Prim.Native.Nat.{ℕ, zero, suc, ◌+◌, ◌*◌, ◌/◌, ◌%◌, ◌≤◌, ◌<◌}
use native.Mathlib.Omega.{arith}
use borrow.Author.Tests.{eq-eqb, eqb-true}
use Rattle.std.proofs.Math.Dec.{eqb}
use Rattle.std.proofs.Math.ListN.{length}
use Rattle.lists.specs.Lists.{In, filter, each}
use Rattle.lists.specs.Tests.{same_test, and_left, and_right, and_both}
use Rattle.lists.specs.Appending.{each_map, each_same}
use Rattle.lists.specs.Tabulating.{tabulate, tabulate-same, tabulate-in, length-tabulate}
use Rattle.rows.specs.Rows.{has_bit}
use Rattle.definitions.specs.Records.{Extension, Sheet}
use Rattle.definitions.specs.Comparisons.{same_name}
use Rattle.definitions.specs.Map.{type_map_of, line_map_of}
use Rattle.definitions.specs.Making.{extension_parents}
use Rattle.law_lines.specs.Statements.{line_map}
use Rattle.law_lines.specs.Within.{ExtensionWithin, Within}
use Rattle.order_form.specs.Lists.{tab, below, below-same, below_none, filter-below, map_below}
use Rattle.law_classes.specs.Sets.{type_at}
use Rattle.catalogue.specs.declared.Catalogue.{Catalogue}
use Rattle.catalogue.specs.Layout.{key_at, extension_key_at, extension_count_at, extension_parent_at}
use Rattle.catalogue.specs.Catalogue as catalogue
use Rattle.sheet_keys.specs.Keys.{name_of_key}
use Rattle.sheet_extensions.specs.Records.{record_in, records_in}
use Rattle.sheet_repeats.specs.TwiceLaws.{same_key}
use Rattle.sheet_decode.specs.Decodes.{Extensions}

-- the two readings of a key are one
one_name : (k : ℕ) → catalogue.name_of_key k ≡ name_of_key k
unfolding catalogue.name_of_key name_of_key
one_name k = refl

-- what a filter keeps of a row of values
filter-tabulate : {A : Type 0} (f : A → Bool) (h : ℕ → A) (n : ℕ) → filter f (tabulate h n) ≡ map h (below (λ x. f (h x)) n)
unfolding tabulate
filter-tabulate {A} f h n = ap (filter f) (as-tab n ∙ sym (map_below h n)) ∙ filter-below f h (λ x. true) n
  where
    as-tab : (m : ℕ) → tabulate h m ≡ tab h m
    as-tab zero = refl
    as-tab (suc m) = ap (λ (l : List A). l ++ (h m ∷ [])) (as-tab m)

-- What is asked of the rest of the catalogue: how many records there are, the names of the types, and the types that have a record.
pub record Marked (s : Sheet) (t : Catalogue) (n : ℕ) : Type 0 where
  pub count : t.extension_count ≡ n
  pub name : (a : ℕ) → a < length (line_map s).types → catalogue.name_of_key (key_at t a) ≡ (type_at (line_map s) a).name
  pub none : (a : ℕ) → a < length (line_map s).types → has_bit t.extended a ≡ false → (e : ℕ) → e < n → eqb (extension_key_at t e / 256) (key_at t a) ≡ false

module _ (s : Sheet) (t : Catalogue) (n : ℕ) (w : Within s) (x : Extensions s t n) (m : Marked s t n) where
  member : (e : ℕ) → e < n → ExtensionWithin (length s.words) (record_in t e)
  unfolding records_in
  member e h = w.extension (record_in t e) (subst (In (record_in t e)) x.records (tabulate-in (record_in t) n e h))

  count_low : (e : ℕ) → e < n → extension_count_at t e ≤ 8
  unfolding record_in
  count_low e h = omega (arith, (member e h).parents, length-tabulate (λ j. name_of_key (extension_parent_at t e j)) (extension_count_at t e))

  key-low : (e : ℕ) → e < n → extension_key_at t e < 16777216
  unfolding record_in name_of_key
  key-low e h =
      let a : extension_key_at t e / 256 / 256 < length s.words = (member e h).name.below (extension_key_at t e / 256 / 256) (Memᴰ.head refl) in
      omega (arith, a, w.words)

  parent-low : (e j : ℕ) → e < n → j < extension_count_at t e → extension_parent_at t e j < 65536
  unfolding record_in name_of_key
  parent-low e j h b =
      let k = extension_parent_at t e j in
      let i : In (name_of_key k) (record_in t e).parents = tabulate-in (λ i. name_of_key (extension_parent_at t e i)) (extension_count_at t e) j b in
      let a : k / 256 < length s.words = ((member e h).parent (name_of_key k) i).below (k / 256) (Memᴰ.head refl) in
      omega (arith, a, w.words)

  -- the parents that a record adds
  parents-are : (e : ℕ) → catalogue.parents_in t e ≡ (record_in t e).parents
  unfolding catalogue.parents_in record_in
  parents-are e =
      tabulate-same (λ j. catalogue.name_of_key (extension_parent_at t e j)) (λ j. name_of_key (extension_parent_at t e j)) (extension_count_at t e)
      (λ j b. one_name (extension_parent_at t e j))

  -- the record is one for the type at a
  for-name : (e a : ℕ) → a < length (line_map s).types → same_name (record_in t e).name (type_at (line_map s) a).name ≡ eqb (extension_key_at t e / 256) (key_at t a)
  unfolding record_in
  for-name e a h = ap (same_name (name_of_key (extension_key_at t e / 256))) (sym (m.name a h) ∙ one_name (key_at t a)) ∙ same_key (extension_key_at t e / 256) (key_at t a)

  -- and for the word r
  for-type : (e a r : ℕ) → a < length (line_map s).types → r < length s.words
      → eqb (extension_key_at t e) (key_at t a * 256 + r) ≡ (same_name (record_in t e).name (type_at (line_map s) a).name && eqb (record_in t e).word r)
  unfolding record_in
  for-type e a r h k =
      sym (ap (λ (b : Bool). b && eqb (extension_key_at t e % 256) r) (for-name e a h)
      ∙ same_test
      (λ z.
      let p = eqb-true (extension_key_at t e / 256) (key_at t a) (and_left (eqb (extension_key_at t e / 256) (key_at t a)) (eqb (extension_key_at t e % 256) r) z) in
      let q = eqb-true (extension_key_at t e % 256) r (and_right (eqb (extension_key_at t e / 256) (key_at t a)) (eqb (extension_key_at t e % 256) r) z) in
      eq-eqb (extension_key_at t e) (key_at t a * 256 + r) (omega (arith, p, q)))
      (λ z.
      let g = eqb-true (extension_key_at t e) (key_at t a * 256 + r) z in
      let l : r < 256 = omega (arith, k, w.words) in
      let p : extension_key_at t e / 256 ≡ key_at t a = omega (arith, g, l) in
      let q : extension_key_at t e % 256 ≡ r = omega (arith, g, l) in
      and_both (eq-eqb (extension_key_at t e / 256) (key_at t a) p) (eq-eqb (extension_key_at t e % 256) r q)))

  -- the parents of the records for a type and a word
  added-as : (a r : ℕ) → extension_parents (line_map s) (type_at (line_map s) a).name r
      ≡ each (λ e. (record_in t e).parents) (below (λ e. same_name (record_in t e).name (type_at (line_map s) a).name && eqb (record_in t e).word r) n)
  unfolding extension_parents records_in line_map_of type_map_of
  added-as a r =
      let f : Extension → Bool = λ y. same_name y.name (type_at (line_map s) a).name && eqb y.word r in
      ap (λ (k : List Extension). each (λ (y : Extension). y.parents) (filter f k)) (sym x.records)
      ∙ ap (each (λ (y : Extension). y.parents)) (filter-tabulate f (record_in t) n)
      ∙ each_map (λ (y : Extension). y.parents) (record_in t) (below (λ e. f (record_in t e)) n)

  added_is : (a r : ℕ) → a < length (line_map s).types → r < length s.words
      → catalogue.added_in t (key_at t a * 256 + r) ≡ extension_parents (line_map s) (type_at (line_map s) a).name r
  unfolding catalogue.added_in
  added_is a r h k =
      let g : ℕ → Bool = λ e. same_name (record_in t e).name (type_at (line_map s) a).name && eqb (record_in t e).word r in
      let q : ℕ → Bool = λ e. eqb (extension_key_at t e) (key_at t a * 256 + r) in
      ap (λ (i : ℕ). each (catalogue.parents_in t) (below q i)) m.count
      ∙ ap (each (catalogue.parents_in t)) (below-same q g n (λ e b. for-type e a r h k))
      ∙ each_same (catalogue.parents_in t) (λ e. (record_in t e).parents) (below g n) (λ e i. parents-are e)
      ∙ sym (added-as a r)

  -- a type outside the set has no record
  none-added : (a r : ℕ) → a < length (line_map s).types → has_bit t.extended a ≡ false → extension_parents (line_map s) (type_at (line_map s) a).name r ≡ []
  none-added a r h z =
      added-as a r
      ∙ ap (each (λ e. (record_in t e).parents))
      (below_none (λ e. same_name (record_in t e).name (type_at (line_map s) a).name && eqb (record_in t e).word r) n
      (λ e k. rw (for-name e a h ∙ m.none a h z e k)))

  pub extended : catalogue.Extended s t
  extended = record {
    few = omega (arith, m.count, x.few);
    counts = λ e h. count_low e (omega (arith, m.count));
    keys = λ e h. key-low e (omega (arith, m.count));
    parents = λ e j h b. parent-low e j (omega (arith, m.count)) b;
    added = added_is;
    extended = λ a r h k z. none-added a r h z;
  }
