-- What was put into the catalogue before the filling stands there when it is filled; and keys are looked up right.
use Rattle.std.specs.Prelude.{Bool, ◌&&◌, List, ◌≡◌, ℕ, ◌/◌, ◌%◌, ◌^◌, ◌<◌, ltb, length, get_or}
use Rattle.std.proofs.Math.Path.{sym, ap, ap₂}
use Rattle.std.proofs.Common.{refl, ◌∙◌, subst, arith, eq-eqb, eqb-true, le-ltb}
use Rattle.std.specs.Int.Bits.{bit_and}
use Rattle.std.proofs.Math.Dec.{eqb}
use Rattle.lists.specs.Lists.{In}
use Rattle.lists.specs.Tests.{same_test, and_left, and_right, and_both}
use Rattle.lists.specs.Tabulating.{tabulate, tabulate-same, tabulate-in}
use Rattle.rows.specs.Rows.{has_bit}
use Rattle.definitions.specs.Records.{Sheet, TypeInfo}
use Rattle.definitions.specs.Comparisons.{same_name}
use Rattle.definitions.specs.Map.{type_map_of}
use Rattle.law_lines.specs.Within.{Within}
use Rattle.order_form.specs.Reading.{type_at}
use Rattle.sheet_keys.specs.Keys as keys
use Rattle.sheet_draft.specs.Draft.{parent_count_at, parent_at, type_in}
use Rattle.sheet_draft.specs.declared.Draft.{Draft}
use Rattle.sheet_draft.specs.declared.entry.Entry.{Entry}
use Rattle.catalogue.specs.Layout.{first_at, second_at, extension_at, extension_key_at, extension_count_at, looked}
use Rattle.catalogue.specs.Catalogue.{name_of_key, parents_in}
use Rattle.catalogue.specs.declared.Catalogue.{Catalogue}
use Rattle.item_names.specs.Names.{second_of, NamesPut}
use Rattle.item_names.specs.Holding.{Holds, holds-and, holds_same, no-bits-past}
use Rattle.item_entries.specs.Entries.{key_in, row_in, firsts_of, seconds_of}
use Rattle.item_entries.specs.EntryLaws.{first-at, second_at_lem}
use Rattle.item_draft.specs.Fill.{Drawn, NamesStand, record_in}
use Rattle.item_draft.specs.Rows as rows
use Rattle.item_draft.specs.Records.{same_key}

-- ---- names

-- names stand in a catalogue in which nothing of theirs changed
pub names_stand : (firsts seconds : List ℕ) (n width : ℕ) (t0 t1 t2 : Catalogue) (r : ℕ) → NamesPut firsts seconds n width t0 t1 r
    → t2 ≡ record t1 { heads = t2.heads; marks = t2.marks; parents = t2.parents; own = t2.own; above = t2.above; passed = t2.passed }
    → NamesStand firsts seconds n width t2 r
names_stand firsts seconds n width t0 t1 t2 r p e =
    rw e (record { key = p.key; first = p.first; second = p.second; owner = p.owner; words = p.words; masks = p.masks })

-- ---- extension records

-- a record with its parents as names out of a column of keys
pub record-as : (t : Catalogue) (e : ℕ) → record_in t e ≡ record {
  name = keys.name_of_key (extension_key_at t e / 256);
  word = extension_key_at t e % 256;
  parents = keys.names_in (extension_at t e).parents (extension_count_at t e);
}
unfolding record_in parents_in keys.name_of_key name_of_key
record-as t e = refl

-- records stand in a catalogue in which nothing of theirs changed
pub records-stand : (s : Sheet) (t u : Catalogue) (n : ℕ) → tabulate (record_in t) n ≡ s.extensions
    → u.extensions ≡ t.extensions → tabulate (record_in u) n ≡ s.extensions
unfolding record_in parents_in
records-stand s t u n held k =
    tabulate-same (record_in u) (record_in t) n (λ e h. rw k) ∙ held

-- ---- keys looked up

module _ (s : Sheet) (bs : List Bool) (d : Draft) (entries : List Entry) (n width : ℕ) (w : Drawn s bs d entries n) (t : Catalogue) (r : ℕ) (ns : NamesStand (firsts_of entries) (seconds_of entries) n width t r) where
  -- the types of a key: the one that has it, or none
  looked-holds : (key : ℕ) → key < 65536 → Holds n (looked t key) (λ b. same_name (keys.name_of_key key) (type_at (type_map_of s) b).name)
  unfolding looked
  looked-holds key h =
      let x = first_at t (key / 256) in
      let y = second_at t (key % 256) in
      holds_same n (bit_and x y) (λ b. eqb (get_or (firsts_of entries) b 0) (key / 256) && eqb (second_of (get_or (seconds_of entries) b 0)) (key % 256)) (λ b. same_name (keys.name_of_key key) (type_at (type_map_of s) b).name)
      (λ b l.
      let few : b < 64 = omega (arith, w.drafted.few) in
      ap₂ (λ (i j : ℕ). eqb i (key / 256) && eqb j (key % 256)) (first-at entries b few) (back b few)
      ∙ both (key_in entries b) key
      ∙ sym (ap₂ same_name (rows.key-words key) (sym (rows.name-of-listed s bs d entries n w b l) ∙ rows.name-at s bs d entries n w b l) ∙ same_key key (key_in entries b)))
      (holds-and n x y (λ b. eqb (get_or (firsts_of entries) b 0) (key / 256)) (λ b. eqb (second_of (get_or (seconds_of entries) b 0)) (key % 256)) (ns.first (key / 256) (omega arith)) (ns.second (key % 256) (omega arith)))
    where
      back : (b : ℕ) → b < 64 → second_of (get_or (seconds_of entries) b 0) ≡ key_in entries b % 256
      back b l = let e = second_at_lem entries b l in omega (arith, e)

      both : (i j : ℕ) → (eqb (i / 256) (j / 256) && eqb (i % 256) (j % 256)) ≡ eqb j i
      both i j =
          same_test
          (λ e.
          let p = eqb-true (i / 256) (j / 256) (and_left (eqb (i / 256) (j / 256)) (eqb (i % 256) (j % 256)) e) in
          let q = eqb-true (i % 256) (j % 256) (and_right (eqb (i / 256) (j / 256)) (eqb (i % 256) (j % 256)) e) in
          eq-eqb j i (omega arith))
          (λ e. let p = eqb-true j i e in and_both (eq-eqb (i / 256) (j / 256) (ap (λ (x : ℕ). x / 256) (sym p))) (eq-eqb (i % 256) (j % 256) (ap (λ (x : ℕ). x % 256) (sym p))))

  pub looked-bits : (key : ℕ) → key < 65536 → (b : ℕ) → has_bit (looked t key) b ≡ (ltb b (length (type_map_of s).types) && same_name (keys.name_of_key key) (type_at (type_map_of s) b).name)
  looked-bits key h b = looked-holds key h b ∙ ap (λ (i : ℕ). ltb b i && same_name (keys.name_of_key key) (type_at (type_map_of s) b).name) (sym (rows.count-types s bs d entries n w))

  pub looked-most : (key : ℕ) → key < 65536 → looked t key < 2 ^ 64
  looked-most key h = no-bits-past 64 (looked t key) (λ a l. looked-holds key h a ∙ rw (le-ltb a n (omega (arith, w.drafted.few))))

-- ---- parents in the draft

module _ (s : Sheet) (bs : List Bool) (d : Draft) (entries : List Entry) (n : ℕ) (w : Drawn s bs d entries n) where
  -- the parents of a type, as names
  pub parents-listed : (a : ℕ) → a < n → (type_at (type_map_of s) a).parents ≡ tabulate (λ k. keys.name_of_key (parent_at d (row_in entries a) k)) (parent_count_at d (row_in entries a))
  unfolding type_in
  parents-listed a h = ap (λ (T : TypeInfo). T.parents) (rows.type-at s bs d entries n w a h)

  -- their keys have two bytes
  pub parents-small : (a k : ℕ) → a < n → k < parent_count_at d (row_in entries a) → parent_at d (row_in entries a) k < 65536
  parents-small a k h l =
      let i = row_in entries a in
      let x : In (keys.name_of_key (parent_at d i k)) (type_at (type_map_of s) a).parents =
      subst (λ l. In (keys.name_of_key (parent_at d i k)) l) (sym (parents-listed a h)) (tabulate-in (λ j. keys.name_of_key (parent_at d i j)) (parent_count_at d i) k l) in
      let y = (w.within.type (type_at (type_map_of s) a) (rows.type-listed s bs d entries n w a h)).parent (keys.name_of_key (parent_at d i k)) x in
      omega (arith, rows.first_below (length s.words) (parent_at d i k) (subst (Rattle.law_lines.specs.Within.NameWithin (length s.words)) (rows.key-words (parent_at d i k)) y), w.within.words)
