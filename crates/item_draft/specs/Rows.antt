-- What the draft with its entries says of the map: the type at each place in name order, its name, its words.
use Rattle.std.specs.Prelude.{Bool, cond, List, [], ◌∷◌, map, ◌⊎◌, ◌≡◌, refl, ℕ, zero, suc, ◌+◌, ◌-◌, ◌/◌, ◌%◌, ◌≤◌, ◌<◌, eqb, length, get_or, take}
use mathlib.Core.List.Memᴰ
use Rattle.std.proofs.Common.{inl, inr, ⊎_elim, ◌∙◌, arith, eqb-true, length-take, get_or-take}
use Rattle.std.proofs.Math.Path.{sym, ap, subst}
use Rattle.std.proofs.lemmas.Bool.{eqb-false}
use Rattle.std.proofs.Math.ListN.{length-map}
use Rattle.lists.specs.Lists.{In, sort}
use Rattle.lists.specs.Tests.{by}
use Rattle.lists.specs.Strict.{which}
use Rattle.lists.specs.Places.{get_d-in, sorted-places}
use Rattle.definitions.specs.Records.{Resource, Sheet, TypeInfo}
use Rattle.definitions.specs.Map.{LineType, LineMap, TypeMap, type_map_of, line_type_of, line_map_of}
use Rattle.definitions.specs.Items.{owned, given}
use Rattle.law_orders.specs.Comparisons.{names-once, types-is, types-apart}
use Rattle.law_lines.specs.Statements.{line_map}
use Rattle.law_lines.specs.Within.{NameWithin, ResourceWithin}
use Rattle.law_lines.specs.Associating.{owned-of, given_is}
use Rattle.law_lines.specs.Bounds.{gives-within, own-within}
use Rattle.order_form.specs.Reading as reading
use Rattle.law_classes.specs.Sets.{type_at, no_type}
use Rattle.sheet_keys.specs.Keys as keys
use Rattle.sheet_draft.specs.Draft.{key_at, type_in}
use Rattle.sheet_draft.specs.Drafted.{no_entry}
use Rattle.sheet_draft.specs.EnteredLaws.{row-below, key-of-row}
use Rattle.sheet_draft.specs.declared.Draft.{Draft}
use Rattle.sheet_draft.specs.declared.entry.Entry.{Entry}
use Rattle.catalogue.specs.Catalogue.{name_of_key}
use Rattle.item_names.specs.Named.{WordOrNone, Named, name-of-key}
use Rattle.item_entries.specs.Entries.{key_in, row_in, firsts_of, seconds_of, RowsThere, KeysFit}
use Rattle.item_entries.specs.EntryLaws.{first-at, second_at_lem, key-at}
use Rattle.item_draft.specs.Fill.{by_name, Drawn}

-- what a function makes of the element at a place
map_at : {A B : Type 0} (f : A → B) (l : List A) (i : ℕ) (d : A) (e : B) → i < length l → get_or (map f l) i e ≡ f (get_or l i d)
map_at f [] i d e h = absurd (omega arith)
map_at f (x ∷ l) zero d e h = refl
map_at f (x ∷ l) (suc i) d e h = map_at f l i d e (omega arith)

-- the words of a key, either way
pub key-words : (k : ℕ) → keys.name_of_key k ≡ name_of_key k
unfolding keys.name_of_key name_of_key
key-words k = refl

-- the words of a name that is in a sheet
pub first_below : (W k : ℕ) → NameWithin W (name_of_key k) → k / 256 < W
unfolding name_of_key
first_below W k w = w.below (k / 256) (Memᴰ.head refl)

pub second_below : (W k : ℕ) → NameWithin W (name_of_key k) → (k % 256 ≡ 0) ⊎ (k % 256 - 1 < W)
unfolding name_of_key
second_below W k w =
    by (eqb (k % 256) 0)
    (λ e. inl (eqb-true (k % 256) 0 e))
    (λ e. inr (w.below (k % 256 - 1) (Memᴰ.tail (subst (λ (c : Bool). In (k % 256 - 1) (cond c [] ((k % 256 - 1) ∷ []))) (sym e) (Memᴰ.head refl)))))

module _ (s : Sheet) (bs : List Bool) (d : Draft) (entries : List Entry) (n : ℕ) (w : Drawn s bs d entries n) where
  abbrev W : ℕ
  W = length s.words

  abbrev mm : TypeMap
  mm = type_map_of s

  abbrev m : LineMap
  m = line_map s

  -- the type in the row of an entry
  abbrev row_type : Entry → TypeInfo
  row_type e = type_in W bs d e.row

  few : n ≤ 64
  few = w.drafted.few

  length-entries : length (take n entries) ≡ n
  length-entries = omega (arith, length-take n entries, w.entered.long, few)

  types_are : mm.types ≡ map row_type (take n entries)
  unfolding type_map_of
  types_are = ap (sort (by_name s.words)) (sym w.drafted.types) ∙ sym w.sorted

  pub count-types : length mm.types ≡ n
  count-types = ap length types_are ∙ length-map (take n entries) row_type ∙ length-entries

  pub count-is : length m.types ≡ n
  unfolding line_map_of
  count-is = length-map mm.types line_type_of ∙ count-types

  -- the type at a place, as listed
  pub type-at : (a : ℕ) → a < n → reading.type_at mm a ≡ type_in W bs d (row_in entries a)
  type-at a h =
      ap (λ (l : List TypeInfo). get_or l a reading.no_type) types_are
      ∙ map_at row_type (take n entries) a no_entry reading.no_type (omega (arith, length-entries))
      ∙ ap row_type (get_or-take n entries a no_entry h)

  pub line-listed : (a : ℕ) → a < n → type_at m a ≡ line_type_of (reading.type_at mm a)
  unfolding line_map_of
  line-listed a h = map_at line_type_of mm.types a reading.no_type no_type (omega (arith, count-types))

  -- and as the lines see it
  pub line_at : (a : ℕ) → a < n → type_at m a ≡ line_type_of (type_in W bs d (row_in entries a))
  line_at a h = line-listed a h ∙ ap line_type_of (type-at a h)

  pub type-listed : (a : ℕ) → a < n → In (reading.type_at mm a) s.types
  type-listed a h = (types-is s (reading.type_at mm a)).0 (get_d-in mm.types reading.no_type a (omega (arith, count-types)))

  -- the row of an entry, and its key
  pub row_below : (a : ℕ) → a < n → row_in entries a < n
  row_below = row-below s.words d entries n few w.entered

  pub rows-there : RowsThere entries n
  rows-there a h = omega (arith, row_below a h, few)

  pub key-is : (a : ℕ) → a < n → key_in entries a ≡ key_at d (row_in entries a)
  key-is = key-of-row s.words d entries n few w.entered

  pub name-at : (a : ℕ) → a < n → (type_at m a).name ≡ name_of_key (key_in entries a)
  unfolding line_type_of type_in
  name-at a h = ap (λ (T : LineType). T.name) (line_at a h) ∙ key-words (key_at d (row_in entries a)) ∙ ap name_of_key (sym (key-is a h))

  pub name-of-listed : (a : ℕ) → a < n → (type_at m a).name ≡ (reading.type_at mm a).name
  unfolding line_type_of
  name-of-listed a h = ap (λ (T : LineType). T.name) (line-listed a h)

  within-name : (a : ℕ) → a < n → NameWithin W (name_of_key (key_in entries a))
  within-name a h = subst (NameWithin W) (sym (name-of-listed a h) ∙ name-at a h) (w.within.type (reading.type_at mm a) (type-listed a h)).name

  key-first : (a : ℕ) → a < n → key_in entries a / 256 < W
  key-first a h = first_below W (key_in entries a) (within-name a h)

  -- what is asked where the names are put
  pub keys-fit : KeysFit entries n
  keys-fit = record { few = few; small = λ a h. omega (arith, key-first a h, w.within.words) }

  pub named : Named m W (firsts_of entries) (seconds_of entries)
  named = record {
    few = omega (arith, count-is, few);
    narrow = w.within.words;
    name = λ a h.
        let k : a < n = omega (arith, count-is) in
        let l : a < 64 = omega (arith, few) in
        name-at a k ∙ ap name_of_key (key-at entries a l) ∙ name-of-key (get_or (firsts_of entries) a 0) (get_or (seconds_of entries) a 0) (omega (arith, second_at_lem entries a l));
    first = λ a h.
        let k : a < n = omega (arith, count-is) in
        omega (arith, first-at entries a (omega (arith, few)), key-first a k);
    second = λ a h.
        let k : a < n = omega (arith, count-is) in
        let e = second_at_lem entries a (omega (arith, few)) in
        ⊎_elim
        (λ (z : key_in entries a % 256 ≡ 0). inl (omega (arith, e)))
        (λ (z : key_in entries a % 256 - 1 < W). second-byte a e z)
        (second_below W (key_in entries a) (within-name a k));
    once = λ a b h k e.
        let p : a < n = omega (arith, count-is) in
        let q : b < n = omega (arith, count-is) in
        let f = sym (name-of-listed a p) ∙ e ∙ name-of-listed b q in
        ⊎_elim
        (λ (x : a < b). absurd (apart a b x q f))
        (λ y.
        ⊎_elim (λ (x : b < a). absurd (apart b a x p (sym f))) (λ (x : a ≡ b). x) y)
        (which a b);
  }
    where
      apart : (i j : ℕ) → i < j → j < n → (reading.type_at mm i).name ≡ (reading.type_at mm j).name → ⊥
      apart i j l k =
          sorted-places (λ (T U : TypeInfo). T.name ≡ U.name → ⊥) mm.types reading.no_type (types-apart s (names-once s w.readable.once)) i j l (omega (arith, count-types))

      second-byte : (a : ℕ) → get_or (seconds_of entries) a 0 ≡ (key_in entries a % 256 + 255) % 256 → key_in entries a % 256 - 1 < W → WordOrNone W (get_or (seconds_of entries) a 0)
      second-byte a e z =
          by (eqb (key_in entries a % 256) 0)
          (λ o. inl (omega (arith, e, eqb-true (key_in entries a % 256) 0 o)))
          (λ o.
          let ne : key_in entries a % 256 ≡ 0 → ⊥ = eqb-false (key_in entries a % 256) 0 o in
          let f : (key_in entries a % 256 + 255) % 256 ≡ key_in entries a % 256 - 1 = omega (arith, ne) in
          inr (omega (arith, e, f, z)))

  -- what a type owns and gives names words of the sheet
  pub own-words : (a : ℕ) → a < n → (u : Resource) → In u (owned (type_at m a)) → ResourceWithin W u
  own-words a h u i =
      let T = reading.type_at mm a in
      let r = owned-of T (subst (λ D. In u (owned D)) (line-listed a h) i) in
      own-within s w.readable w.within (type-listed a h) r.2

  pub given-words : (a : ℕ) → a < n → (u : Resource) → In u (given (type_at m a)) → ResourceWithin W u
  given-words a h u i =
      let T = reading.type_at mm a in
      gives-within s w.readable w.within (type-listed a h) ((given_is T u).0 (subst (λ D. In u (given D)) (line-listed a h) i))
