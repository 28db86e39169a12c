-- What the parents ask of the draft and the catalogue follows from what these are of a sheet; and what was put, in the
-- catalogue's words.
use Rattle.std.specs.Prelude.{Bool, true, false, ◌&&◌, cond, List, [], ◌∷◌, map, ◌≡◌, refl, ℕ, zero, suc, ◌+◌, ◌*◌, ◌-◌, ◌/◌, ◌%◌, ◌≤◌, ◌<◌, eqb, ltb, get_or, take}
use Rattle.std.proofs.Math.Bool.{and-true}
use mathlib.Core.List.Memᴰ
use Rattle.std.proofs.Math.Path.{sym, ap}
use Rattle.std.proofs.Common.{ap₂, ◌∙◌, subst, arith, eqb-true, ltb-true, ltb-false, get_or-take, length-take-le}
use Rattle.std.proofs.lemmas.Bool.{eqb-false}
use Rattle.std.proofs.lemmas.Nat.{and_le_r}
use Rattle.std.proofs.Math.ListN.{length, length-map, get_or-map}
use Rattle.lists.specs.Lists.{In, sort}
use Rattle.lists.specs.Tests.{by, eqb-flip}
use Rattle.lists.specs.Appending.{any-map}
use Rattle.lists.specs.Places.{get_d-in}
use Rattle.lists.specs.Sorting.{sort-is}
use Rattle.lists.specs.Tabulating.{tabulate, tabulate-in}
use Rattle.rows.specs.Rows.{has_bit}
use Rattle.bitsets.specs.BitLaws.{bit-both}
use Rattle.definitions.specs.Records.{Name, TypeInfo, Sheet}
use Rattle.definitions.specs.Comparisons.{same_name, name_before}
use Rattle.definitions.specs.Map.{LineType, type_map_of, line_type_of, line_map_of}
use Rattle.law_lines.specs.Statements.{line_map}
use Rattle.law_lines.specs.Within.{NameWithin, TypeWithin, Within}
use Rattle.order_form.specs.Lists.{tab, get_d_any}
use Rattle.order_form.specs.Reading.{no_type, type_at}
use Rattle.law_classes.specs.Sets as lines
use Rattle.law_classes.specs.Sets.{some, one_word, SetIs}
use Rattle.law_classes.specs.Numbers.{Fits}
use Rattle.sheet_keys.specs.Keys.{name_of_key}
use Rattle.sheet_draft.specs.Draft.{parent_count_at, parent_at, type_in, types_in}
use Rattle.sheet_draft.specs.Drafted.{no_entry, Drafted, Entered}
use Rattle.sheet_draft.specs.EnteredLaws.{row-below}
use Rattle.catalogue.specs.Layout.{parents_at, first_at, second_at, looked}
use Rattle.catalogue.specs.Catalogue.{first_is, second_is, Listed}
use Rattle.catalogue.specs.declared.Catalogue.{Catalogue}
use Rattle.sheet_draft.specs.declared.Draft.{Draft}
use Rattle.sheet_draft.specs.declared.entry.Entry.{Entry}
use Rattle.order_parents.specs.Parents.{row_of, Prepared}
use Rattle.order_parents.specs.Known.{Looks, Rows, ParentSets, Childed}

-- the types of the draft by name, by the entries
abbrev pub ByName : Sheet → List Bool → Draft → List Entry → ℕ → Type 0
ByName s bs d entries n =
    map (λ e. type_in (length s.words) bs d e.row) (take n entries) ≡ sort (λ (T U : TypeInfo). name_before s.words T.name U.name) (types_in (length s.words) bs d n)

tabulate-tab : {A : Type 0} (f : ℕ → A) (n : ℕ) → tabulate f n ≡ tab f n
unfolding tabulate
tabulate-tab f zero = refl
tabulate-tab f (suc n) = rw (tabulate-tab f n)

-- ---- a name by its words

one : (t u v : Bool) (y : ℕ) → u ≡ v → (u && cond t true false) ≡ (v && same_name (cond t [] (y ∷ [])) [])
one true u v y e = ap (λ (b : Bool). b && true) e
one false u v y e = ap (λ (b : Bool). b && false) e

two : (t u v : Bool) (y x : ℕ) → u ≡ v → (u && cond t false (eqb x y)) ≡ (v && same_name (cond t [] (y ∷ [])) (x ∷ []))
two true u v y x e = ap (λ (b : Bool). b && false) e
two false u v y x e = ap₂ (λ (b c : Bool). b && c) e (eqb-flip x y ∙ sym (and-true (eqb y x)))

key-looked : (key : ℕ) (N : Name) → 1 ≤ length N → length N ≤ 2
    → (first_is (key / 256) N && cond (eqb (key % 256) 0) (one_word N) (second_is (key % 256 - 1) N)) ≡ same_name (name_of_key key) N
unfolding first_is second_is name_of_key
key-looked key [] h k = absurd (omega arith)
key-looked key (a ∷ []) h k = one (eqb (key % 256) 0) (eqb a (key / 256)) (eqb (key / 256) a) (key % 256 - 1) (eqb-flip a (key / 256))
key-looked key (a ∷ b ∷ []) h k = two (eqb (key % 256) 0) (eqb a (key / 256)) (eqb (key / 256) a) (key % 256 - 1) b (eqb-flip a (key / 256))
key-looked key (a ∷ b ∷ c ∷ N) h k = absurd (omega arith)

-- ---- the types of the map

module _ (s : Sheet) where
  pub line-count : length (line_map s).types ≡ length (type_map_of s).types
  unfolding line_map_of
  line-count = length-map (type_map_of s).types line_type_of

  pub line_at : (a : ℕ) → a < length (type_map_of s).types → lines.type_at (line_map s) a ≡ line_type_of (type_at (type_map_of s) a)
  unfolding line_map_of
  line_at a h =
      get_d_any (map line_type_of (type_map_of s).types) a lines.no_type (line_type_of no_type) (rw (length-map (type_map_of s).types line_type_of) h)
      ∙ get_or-map line_type_of (type_map_of s).types a no_type

  name-at : (a : ℕ) → a < length (type_map_of s).types → (lines.type_at (line_map s) a).name ≡ (type_at (type_map_of s) a).name
  unfolding line_type_of
  name-at a h = ap (λ (T : LineType). T.name) (line_at a h)

  pub type-within : Within s → (a : ℕ) → a < length (type_map_of s).types → TypeWithin (length s.words) (type_at (type_map_of s) a)
  unfolding type_map_of
  type-within w a h = w.type _ ((sort-is (λ (T U : TypeInfo). name_before s.words T.name U.name) s.types _).0 (get_d-in (type_map_of s).types no_type a h))

-- ---- keys within the words of the sheet

pub record KeyWithin (W key : ℕ) : Type 0 where
  pub first : key / 256 < W
  pub second : key % 256 ≤ W

pub key-within : (W key : ℕ) → NameWithin W (name_of_key key) → KeyWithin W key
unfolding name_of_key
key-within W key n = record {
  first = n.below (key / 256) (Memᴰ.head refl);
  second =
      by (eqb (key % 256) 0)
      (λ e. omega (arith, eqb-true (key % 256) 0 e))
      (λ e.
      let i : In (key % 256 - 1) (cond (eqb (key % 256) 0) [] ((key % 256 - 1) ∷ [])) = rw e (Memᴰ.head refl) in
      omega (arith, n.below (key % 256 - 1) (Memᴰ.tail i)));
}

-- a key is looked up right in the catalogue of the names
pub looks-of : (s : Sheet) (t : Catalogue) (key : ℕ) → Within s → Listed s t → KeyWithin (length s.words) key → Looks (type_map_of s) t key
unfolding looked
looks-of s t key w l k = record {
  most = omega (arith, and_le_r (first_at t (key / 256)) (second_at t (key % 256)), second_fits.most);
  bits = λ b.
      bit-both (first_at t (key / 256)) (second_at t (key % 256)) b
      ∙ by (ltb b (length (type_map_of s).types))
      (λ e.
      let h = ltb-true b (length (type_map_of s).types) e in
      let g : b < length (line_map s).types = omega (arith, line-count s) in
      let n = (type-within s w b h).name in
      ap₂ (λ (x y : Bool). x && y) (l.first (key / 256) k.first b g) (second_is_lem b g)
      ∙ ap (λ (N : Name). first_is (key / 256) N && cond (eqb (key % 256) 0) (one_word N) (second_is (key % 256 - 1) N)) (name-at s b h)
      ∙ key-looked key (type_at (type_map_of s) b).name n.least n.most
      ∙ sym (ap (λ (c : Bool). c && same_name (name_of_key key) (type_at (type_map_of s) b).name) e))
      (λ e.
      ap (λ (c : Bool). c && has_bit (second_at t (key % 256)) b) ((l.first_fits (key / 256) k.first).within b (omega (arith, line-count s, ltb-false b (length (type_map_of s).types) e)))
      ∙ sym (ap (λ (c : Bool). c && same_name (name_of_key key) (type_at (type_map_of s) b).name) e));
}
  where
    second_fits : Fits (line_map s) (second_at t (key % 256))
    second_fits =
        by (eqb (key % 256) 0)
        (λ e. subst (λ (x : ℕ). Fits (line_map s) (second_at t x)) (sym (eqb-true (key % 256) 0 e)) l.none_fits)
        (λ e.
        let z = eqb-false (key % 256) 0 e in
        subst (λ (x : ℕ). Fits (line_map s) (second_at t x)) {x = 1 + (key % 256 - 1)} (omega (arith, z)) (l.second_fits (key % 256 - 1) (omega (arith, z, k.second))))

    second_is_lem : (b : ℕ) → b < length (line_map s).types → has_bit (second_at t (key % 256)) b ≡ cond (eqb (key % 256) 0) (one_word (lines.type_at (line_map s) b).name) (second_is (key % 256 - 1) (lines.type_at (line_map s) b).name)
    second_is_lem b h =
        by (eqb (key % 256) 0)
        (λ e. rw e (ap (λ (x : ℕ). has_bit (second_at t x) b) (eqb-true (key % 256) 0 e) ∙ l.none b h))
        (λ e.
        let z = eqb-false (key % 256) 0 e in
        let y : key % 256 ≡ 1 + (key % 256 - 1) = omega (arith, z) in
        rw e (ap (λ (x : ℕ). has_bit (second_at t x) b) y ∙ l.second (key % 256 - 1) (omega (arith, z, k.second)) b h))

-- ---- the draft

module _ (s : Sheet) (bs : List Bool) (d : Draft) (entries : List Entry) (n : ℕ) (r : Drafted s bs d n) (en : Entered s.words d entries n) (o : ByName s bs d entries n) where
  abbrev row_type : Entry → TypeInfo
  row_type e = type_in (length s.words) bs d e.row

  types_are : (type_map_of s).types ≡ map row_type (take n entries)
  unfolding type_map_of
  types_are = sym (o ∙ ap (sort (λ (T U : TypeInfo). name_before s.words T.name U.name)) r.types)

  pub rows-count : length (type_map_of s).types ≡ n
  rows-count = ap length types_are ∙ length-map (take n entries) row_type ∙ length-take-le n entries (omega (arith, r.few, en.long))

  pub row-at : (a : ℕ) → a < n → type_at (type_map_of s) a ≡ type_in (length s.words) bs d (row_of entries a)
  row-at a h =
      ap (λ (l : List TypeInfo). get_or l a no_type) types_are
      ∙ get_d_any (map row_type (take n entries)) a no_type (row_type no_entry) (omega (arith, length-map (take n entries) row_type, length-take-le n entries (omega (arith, r.few, en.long))))
      ∙ get_or-map row_type (take n entries) a no_entry
      ∙ ap row_type (get_or-take n entries a no_entry h)

  parents-at : (a : ℕ) → a < n → (type_at (type_map_of s) a).parents ≡ tabulate (λ k. name_of_key (parent_at d (row_of entries a) k)) (parent_count_at d (row_of entries a))
  unfolding type_in
  parents-at a h = ap (λ (T : TypeInfo). T.parents) (row-at a h)

  key-at : Within s → (a k : ℕ) → a < n → k < parent_count_at d (row_of entries a) → KeyWithin (length s.words) (parent_at d (row_of entries a) k)
  key-at w a k h l =
      key-within (length s.words) (parent_at d (row_of entries a) k)
      ((type-within s w a (omega (arith, rows-count))).parent _
      (subst (In (name_of_key (parent_at d (row_of entries a) k))) (sym (parents-at a h)) (tabulate-in (λ j. name_of_key (parent_at d (row_of entries a) j)) (parent_count_at d (row_of entries a)) k l)))

  pub prepared-of : Within s → Prepared d entries n
  prepared-of w = record {
    few = r.few;
    keys = λ a h. record {
      place = omega (arith, row-below s.words d entries n r.few en a h, r.few);
      keys = λ k l. let e = key-at w a k h l in omega (arith, e.first, w.words);
    };
  }

  pub rows_of : (t : Catalogue) (own : ℕ) → Within s → Listed s t → own ≡ (type_map_of s).self * 256 → Rows (type_map_of s) d entries n own t
  rows_of t own w l e = record {
    few = r.few;
    count = sym rows-count;
    self = e;
    parents = λ a h. parents-at a h ∙ tabulate-tab _ _;
    looks = λ a k h i. looks-of s t _ w l (key-at w a k h i);
  }

-- ---- what was put, in the catalogue's words

module _ (s : Sheet) where
  pub set_is : (t : Catalogue) → ParentSets (type_map_of s) t → (a : ℕ) → a < length (line_map s).types
      → SetIs (line_map s) (parents_at t a) (λ (P : LineType). (lines.type_at (line_map s) a).inherits P.name)
  unfolding line_type_of
  set_is t p a h b k =
      let l : a < length (type_map_of s).types = omega (arith, line-count s) in
      let i : b < length (type_map_of s).types = omega (arith, line-count s) in
      p.bits a b l i ∙ sym (ap₂ (λ (T P : LineType). T.inherits P.name) (line_at s a l) (line_at s b i))

  pub set-fits : (t : Catalogue) → ParentSets (type_map_of s) t → (a : ℕ) → a < length (line_map s).types → Fits (line_map s) (parents_at t a)
  set-fits t p a h =
      let l : a < length (type_map_of s).types = omega (arith, line-count s) in
      record { most = p.most a l; within = λ b k. p.within a b l (omega (arith, line-count s)) }

  pub childed-is : (r : ℕ) → Childed (type_map_of s) r → SetIs (line_map s) r (λ (P : LineType). some (line_map s) (λ (T : LineType). T.inherits P.name))
  unfolding line_type_of line_map_of
  childed-is r c b h =
      let i : b < length (type_map_of s).types = omega (arith, line-count s) in
      c.bits b i
      ∙ sym (any-map (λ (T : LineType). T.inherits (type_at (type_map_of s) b).name) line_type_of (type_map_of s).types)
      ∙ sym (ap (λ (P : LineType). some (line_map s) (λ (T : LineType). T.inherits P.name)) (line_at s b i))
