-- What the tables say of the map, at each step of a call.
use Rattle.std.specs.Prelude.{Bool, true, List, map, ◌≡◌, refl, ℕ, zero, suc, ◌*◌, ◌≤◌, ◌<◌, length}
use Rattle.std.proofs.Math.Path.{sym, ap, subst}
use Rattle.std.proofs.Common.{◌∙◌, arith}
use Rattle.std.proofs.Math.ListN.{get_or}
use Rattle.lists.specs.Lists.{In}
use Rattle.lists.specs.Tests.{never}
use Rattle.lists.specs.Tabulating.{tabulate, tabulate-same, map-tabulate, taken}
use Rattle.definitions.specs.Bits.{bits_of}
use Rattle.definitions.specs.Records.{Sheet}
use Rattle.definitions.specs.Parse.{Parsed, done, refused}
use Rattle.definitions.specs.Map.{TypeMap, type_map_of}
use Rattle.definitions.specs.Order.{has_order, organize_type_map}
use Rattle.definitions.specs.Packing.{order_bits}
use Rattle.law_lines.specs.Reading.{read-is-within}
use Rattle.law_lines.specs.Statements as line
use Rattle.law_lines.specs.Within as line-within
use Rattle.order_form.specs.Lists.{tab}
use Rattle.order_form.specs.Reading.{type_at}
use Rattle.order_form.specs.Compact.{Within}
use Rattle.fields.specs.Keys.{key_of}
use Rattle.sheet_draft.specs.Draft.{parent_at, parent_count_at}
use Rattle.sheet_draft.specs.declared.Draft.{Draft}
use Rattle.sheet_draft.specs.declared.entry.Entry.{Entry}
use Rattle.sheet_types.specs.Rows.{is_done}
use Rattle.sheet_order.specs.RowLaws.{rows-by-name}
use Rattle.sheet_draft.specs.declared.Decoding.{Decoding}
use Rattle.sheet_decode.specs.Decodes.{Whole}
use Rattle.catalogue.specs.Layout.{key_at}
use Rattle.catalogue.specs.declared.Catalogue.{Catalogue}
use Rattle.catalogue.specs.Catalogue.{name_of_key}
use Rattle.item_names.specs.Names.{NamesPut}
use Rattle.item_entries.specs.Entries.{firsts_of, seconds_of, KeysFit}
use Rattle.item_entries.specs.EntryLaws.{key-at}
use Rattle.item_draft.specs.Fill.{Drawn, NamesStand}
use Rattle.item_draft.specs.Standing.{names_stand, looked-bits, looked-most, parents-listed, parents-small}
use Rattle.item_draft.specs.Rows as rows
use Rattle.item_draft.specs.declared.Placing.{Placing}
use Rattle.order_parents.specs.declared.Found.{Found}
use Rattle.order_parents.specs.Parents.{row_of, Prepared, ParentsPut}
use Rattle.order_parents.specs.Known.{Looks, Rows}
use Rattle.order_parents.specs.SheetLaws.{ByName, prepared-of}
use Rattle.order_rounds.specs.Organized.{Holds, Asked, Organized}
use Rattle.order_rounds.specs.declared.sequence.Order.{Order}
use Rattle.order_rounds.specs.HoldsLaws.{holds_of}
use Rattle.order_compact.specs.Compact.{Drafts}
use Rattle.order_compact.specs.Reading as compact
use Rattle.order_compact.specs.SheetLaws.{names_of, drafts-of}
use Rattle.order_listing.specs.Order.{name_of, names_in, order_in}
use Rattle.access.specs.Tables.{Looked}
use Rattle.access.specs.ReadLaws as read

tabulate-tab : {A : Type 0} (f : ℕ → A) (n : ℕ) → tabulate f n ≡ tab f n
unfolding tabulate
tabulate-tab f zero = refl
tabulate-tab f (suc n) = rw (tabulate-tab f n)

-- what a parser gave
done_at : {A : Type 0} (p : Parsed A) → is_done p ≡ true → (a : A) × (rest : List Bool) × (p ≡ done a rest)
done_at (done a rest) e = (a, rest, refl)
done_at (refused r) e = never e refl

-- the parents that were put, by the key of the one word of `self`
pub own-put : (d : Draft) (entries : List Entry) (n w key : ℕ) (old new : Catalogue) (f : Found) → key ≡ key_of (record { first = w; second = 255 })
    → ParentsPut d entries key n old new f → ParentsPut d entries (w * 256) n old new f
own-put d entries n w key old new f e = subst (λ (k : ℕ). ParentsPut d entries k n old new f) (e ∙ one)
  where
    one : key_of (record { first = w; second = 255 }) ≡ w * 256
    one = omega arith

module _ (bytes : List ℕ) (d : Draft) (entries : List Entry) (t : Catalogue) (n : Decoding) (w : Whole bytes d entries t n) where
  abbrev s : Sheet
  s = w.s

  abbrev m : TypeMap
  m = type_map_of w.s

  abbrev bs : List Bool
  bs = bits_of bytes

  pub within : line-within.Within w.s
  within = read-is-within bs w.holds.rest s w.holds.read

  pub readable : line.Readable w.s
  readable = record { words = w.holds.words; once = w.holds.once }

  pub listable : Within (type_map_of w.s)
  listable = read.readable bytes s w.holds

  sorted : ByName s bs d entries n.count
  sorted = rows-by-name s.words (length s.words) bs d n.count entries w.entered

  pub drawn : Drawn w.s (bits_of bytes) d entries n.count
  drawn = record {
    drafted = w.drafted;
    entered = w.entered;
    sorted = sorted;
    read = λ i h. let x = done_at _ (w.notes.read i h) in record { value = x.0; rest = x.1; is = x.2 };
    within = within;
    readable = readable;
  }

  pub keys-fit : KeysFit entries n.count
  keys-fit = rows.keys-fit s bs d entries n.count drawn

  pub narrow : n.width ≤ 200
  narrow = omega (arith, w.width, within.words)

  pub prepared : Prepared d entries n.count
  prepared = prepared-of s bs d entries n.count w.drafted w.entered sorted within

  pub drafts : Drafts d entries n.count
  drafts = drafts-of s bs d entries n.count w.drafted w.entered sorted within

  pub self-is : n.own ≡ (type_map_of w.s).self
  unfolding type_map_of
  self-is = w.self

  -- a table with the names
  module _ (u : Catalogue) (r : ℕ) (ns : NamesStand (firsts_of entries) (seconds_of entries) n.count n.width u r) where
    looks : (a k : ℕ) → a < n.count → k < parent_count_at d (row_of entries a) → Looks m u (parent_at d (row_of entries a) k)
    looks a k h l =
        let small = parents-small s bs d entries n.count drawn a k h l in
        record {
          most = looked-most s bs d entries n.count n.width drawn u r ns (parent_at d (row_of entries a) k) small;
          bits = looked-bits s bs d entries n.count n.width drawn u r ns (parent_at d (row_of entries a) k) small;
        }

    listed-rows : Rows m d entries n.count (n.own * 256) u
    listed-rows = record {
      few = w.drafted.few;
      count = sym (rows.count-types s bs d entries n.count drawn);
      self = ap (λ (x : ℕ). x * 256) self-is;
      parents = λ a h. parents-listed s bs d entries n.count drawn a h ∙ tabulate-tab _ _;
      looks = looks;
    }

  -- the table behind the names, and behind the parents
  module _ (named new : Catalogue) (words : ℕ) (f : Found) (p : NamesPut (firsts_of entries) (seconds_of entries) n.count n.width t named words)
      (q : ParentsPut d entries (n.own * 256) n.count named new f) where
    before : NamesStand (firsts_of entries) (seconds_of entries) n.count n.width named words
    before = names_stand _ _ _ _ t named named words p refl

    pub stand : NamesStand (firsts_of entries) (seconds_of entries) n.count n.width new words
    stand = names_stand _ _ _ _ t named new words p (rw q.kept refl)

    pub rows_before : Rows (type_map_of w.s) d entries n.count (n.own * 256) named
    rows_before = listed-rows named words before

    pub holds : Holds (type_map_of w.s) new n.count f.whole
    holds = holds_of m d entries n.count (n.own * 256) named new new f listable rows_before q (λ a h. refl)

    pub asked : Asked new n.count f.whole
    asked = record { map = m; holds = holds }

    pub sketched : compact.Drawn (type_map_of w.s) new d entries n.count n.own
    sketched = record {
      rows = listed-rows new words stand;
      names = names_of s bs d entries n.count w.drafted w.entered sorted;
      within = listable;
      word = self-is;
    }

    key-name : (a : ℕ) → a < n.count → name_of_key (key_at new a) ≡ (type_at m a).name
    key-name a h =
        ap name_of_key (stand.key a h ∙ sym (key-at entries a (omega (arith, w.drafted.few))))
        ∙ sym (rows.name-at s bs d entries n.count drawn a h)
        ∙ rows.name-of-listed s bs d entries n.count drawn a h

    -- the names in the order, in a table that has the names
    names-as : (places : Order) (u : Catalogue) (b : Bool) → ((a : ℕ) → a < n.count → name_of_key (key_at u a) ≡ (type_at m a).name) → Organized new n.count f.whole places b → b ≡ true
        → names_in u places ≡ organize_type_map m
    unfolding names_in
    names-as places u b k o e =
        let items = places.types.items in
        ap (tabulate (name_of u items)) (o.counted e)
        ∙ tabulate-same (name_of u items) (λ i. (type_at m (get_or items i 0)).name) n.count (λ i h. k (get_or items i 0) (o.within e i h))
        ∙ sym (map-tabulate (λ (a : ℕ). (type_at m a).name) (λ i. get_or items i 0) n.count)
        ∙ ap (map (λ (a : ℕ). (type_at m a).name)) (sym (taken items 0 n.count (omega (arith, places.types.long, w.drafted.few))))
        ∙ o.names m holds e

  -- an order that was looked for, and is there or is not
  module _ (u : Catalogue) (places : Order) (found : Bool) (r : Placing) (o : Looked d entries t u n places found r) where
    pub sketch : compact.Drawn (type_map_of w.s) u d entries n.count n.own
    sketch = sketched o.named u r.words o.parents o.names o.put

    pub found-is : has_order (type_map_of w.s) ≡ found
    found-is = sym (o.organized.found m (holds o.named u r.words o.parents o.names o.put))

  -- one that was found
  module _ (u : Catalogue) (places : Order) (r : Placing) (o : Looked d entries t u n places true r) where
    pub names_in_lem : (v : Catalogue) → ((a : ℕ) → a < n.count → name_of_key (key_at v a) ≡ (type_at (type_map_of w.s) a).name) → names_in v places ≡ organize_type_map (type_map_of w.s)
    names_in_lem v k = names-as o.named u r.words o.parents o.names o.put places v true k o.organized refl

    pub bits_are : order_in u places ≡ order_bits (organize_type_map (type_map_of w.s))
    unfolding order_in
    bits_are = ap order_bits (names_in_lem u (key-name o.named u r.words o.parents o.names o.put))
