-- What was put in part by part is the catalogue.
use Rattle.std.proofs.Math.Bool.{Bool}
use Rattle.std.specs.Prelude.{true, false, ◌&&◌, ◌||◌, ◌≡◌, refl, get_or}
use mathlib.Core.List.{List, [], ◌∷◌, map}
use Rattle.std.proofs.Math.Path.{sym, ap, ap₂, subst}
use Rattle.std.proofs.Common.{◌∙◌, arith, le-ltb, ltb-true, ltb-false, ne_eqb}
use Prim.Native.Nat.{ℕ, zero, suc, ◌/◌, ◌%◌, ◌≤◌, ◌<◌}
use Rattle.std.proofs.Math.Dec.{eqb, ltb}
use Rattle.std.proofs.Math.ListN.{length}
use Rattle.lists.specs.Lists.{In, any, each, repeats}
use Rattle.lists.specs.Tests.{by}
use Rattle.lists.specs.Appending.{map_same}
use Rattle.lists.specs.Tabulating.{tabulate}
use Rattle.rows.specs.Rows.{has_bit}
use Rattle.definitions.specs.Records.{Resource, Sheet}
use Rattle.definitions.specs.Comparisons.{elem_name}
use Rattle.definitions.specs.Map.{LineType, LineMap, TypeMap, type_map_of, line_type_of, line_map_of}
use Rattle.definitions.specs.Making.{is_resource_variant}
use Rattle.definitions.specs.Items.{owned, given}
use Rattle.law_lines.specs.Statements.{line_map}
use Rattle.law_lines.specs.Within.{ResourceWithin}
use Rattle.order_form.specs.Lists.{tab, tab-get_d, any-tab-same}
use Rattle.order_form.specs.Reading as reading
use Rattle.law_classes.specs.Sets.{some, own_set, given_set, type_at, no_type, SetIs}
use Rattle.law_classes.specs.Refusal.{has_child, lost_class, own_twice}
use Rattle.item_spread.specs.Spread.{Starts, Right}
use Rattle.sheet_draft.specs.Draft as draft
use Rattle.sheet_draft.specs.Draft.{variant_of, type_in}
use Rattle.sheet_draft.specs.declared.Decoding.{Decoding}
use Rattle.sheet_draft.specs.declared.Draft.{Draft}
use Rattle.sheet_draft.specs.declared.entry.Entry.{Entry}
use Rattle.catalogue.specs.Layout.{head_at, packed_at, parents_at, own_at, above_at, passed_at, first_at, second_at}
use Rattle.catalogue.specs.Layout.{extension_key_at, looked}
use Rattle.catalogue.specs.Catalogue.{is_resource_head, virtual_head, trait_head, Entry as TypeEntry, Listed, Extended, SetsOf, Owned, Catalogued}
use Rattle.item_heads.specs.declared.packed.Packed.{Packed}
use Rattle.catalogue.specs.declared.Catalogue.{Catalogue}
use Rattle.item_names.specs.Names.{second_of}
use Rattle.item_names.specs.Holding.{Holds, holds-set, holds_fits}
use Rattle.item_names.specs.Named.{Named, NamesIn, key-name, key-small, first-is, first_fits, none_is, none-fits, second_is_lem, second_fits, worded, owner-right, owner-none}
use Rattle.item_classes.specs.Classes.{class_in, meets, lost, Gathers}
use Rattle.item_classes.specs.Classed.{own_is, given_is, refused-is}
use Rattle.item_classes.specs.declared.Classes.{Classes}
use Rattle.item_entries.specs.Entries.{row_in, firsts_of, seconds_of, RowsThere}
use Rattle.item_sets.specs.Sets.{SpreadPut, RecordKeysFit, ExtendedIs}
use Rattle.order_rounds.specs.declared.sequence.Order.{Order}
use Rattle.item_draft.specs.Parts.{HeadOf, HeadsPut, NotesReady, own_sets, given_sets, lost_at, NotesPut}
use Rattle.item_draft.specs.PartLaws.{class-same}
use Rattle.item_draft.specs.Fill.{record_in, Stands, Fillable, Fills}
use Rattle.item_draft.specs.Rows as rows
use Rattle.item_draft.specs.Records as extensions
use Rattle.item_draft.specs.Standing.{records-stand}
use Rattle.item_draft.specs.declared.Placing.{Placing}

-- The catalogue with its single numbers, out of those that are known, and what was found since.
abbrev pub numbered : Decoding → Placing → ℕ → ℕ → Catalogue → Catalogue
numbered k o resources extended t = record t {
  count = k.count;
  word_count = o.words;
  extension_count = k.extensions;
  extended = extended;
  resource = k.resource;
  resources = resources;
  childed = o.childed;
  width = k.width;
  hyphens = k.hyphens;
}

-- The catalogue from part to part.
pub record Steps (bs : List Bool) (d : Draft) (entries : List Entry) (order : Order) (k : Decoding) (o : Placing) (t0 t1 t2 t3 t4 : Catalogue) (given : List ℕ) (resources extended : ℕ) (lost : Bool) : Type 0 where
  pub heads : HeadsPut d entries k.count t0 t1 resources
  pub extends : ExtendedIs t1 k.extensions extended
  pub numbers : t2 ≡ numbered k o resources extended t1
  pub notes : NotesPut bs d entries k.count t2 t3 given lost
  pub spread : SpreadPut order.types.items order.types.count given t3 t4

-- a variant is the resource variant exactly if its number is 1
variant_is : (v : ℕ) → eqb v 1 ≡ is_resource_variant (variant_of v)
variant_is zero = refl
variant_is (suc zero) = refl
variant_is (suc (suc zero)) = refl
variant_is (suc (suc (suc v))) = ne_eqb (suc (suc (suc v))) 1 (λ q. absurd (omega arith))

-- one of two tests holds of some element exactly if one of them holds of some
any-or : {A : Type 0} (f g : A → Bool) (l : List A) → any (λ x. f x || g x) l ≡ (any f l || any g l)
any-or f g [] = refl
any-or f g (x ∷ l) = ap (λ (b : Bool). (f x || g x) || b) (any-or f g l) ∙ crossed (f x) (g x) (any f l) (any g l)
  where
    crossed : (a b c d : Bool) → ((a || b) || (c || d)) ≡ ((a || c) || (b || d))
    crossed true b c d = refl
    crossed false true true d = refl
    crossed false true false d = refl
    crossed false false c d = refl

module _ (bs : List Bool) (d : Draft) (entries : List Entry) (order : Order) (k : Decoding) (o : Placing) (t0 t1 t2 t3 t4 : Catalogue) (gives : List ℕ) (resources extends : ℕ) (bad : Bool)
    (st : Steps bs d entries order k o t0 t1 t2 t3 t4 gives resources extends bad) where
  -- ---- each part stays from where it was put

  -- a catalogue with the notes of the third, and with the sets of the last
  abbrev noted : Catalogue → Catalogue
  noted x = record x { marks = t3.marks; own = t3.own }

  abbrev ordered : Catalogue → Catalogue
  ordered x = record x { above = t4.above; passed = t4.passed }

  -- names, parents and extension records are those of the first
  is_whole : t4 ≡ ordered (noted (numbered k o resources extends (record t0 { heads = t1.heads })))
  is_whole = st.spread.kept ∙ ap ordered (st.notes.kept ∙ ap noted (st.numbers ∙ ap (numbered k o resources extends) st.heads.kept))

  parents-stay : t3.parents ≡ t0.parents
  parents-stay = sym (ap (λ (x : Catalogue). x.parents) st.spread.kept) ∙ ap (λ (x : Catalogue). x.parents) is_whole

  module _ (s : Sheet) (hs : Stands s bs d entries order t0 k o) where
    abbrev m : LineMap
    m = line_map s

    abbrev mm : TypeMap
    mm = type_map_of s

    abbrev n : ℕ
    n = length m.types

    abbrev W : ℕ
    W = length s.words

    count-is : k.count ≡ n
    count-is = sym (rows.count-is s bs d entries k.count hs.drawn)

    count-types : length mm.types ≡ n
    count-types = rows.count-types s bs d entries k.count hs.drawn ∙ count-is

    few : n ≤ 64
    few = omega (arith, count-is, hs.drawn.drafted.few)

    nm : Named m W (firsts_of entries) (seconds_of entries)
    nm = rows.named s bs d entries k.count hs.drawn

    -- ---- names

    first_holds : (w : ℕ) → w < 256 → Holds n (first_at t0 w) (λ a. eqb (get_or (firsts_of entries) a 0) w)
    first_holds w h = subst (λ i. Holds i (first_at t0 w) (λ a. eqb (get_or (firsts_of entries) a 0) w)) count-is (hs.names.first w h)

    second_holds : (w : ℕ) → w < 256 → Holds n (second_at t0 w) (λ a. eqb (second_of (get_or (seconds_of entries) a 0)) w)
    second_holds w h = subst (λ i. Holds i (second_at t0 w) (λ a. eqb (second_of (get_or (seconds_of entries) a 0)) w)) count-is (hs.names.second w h)

    names_in : NamesIn (firsts_of entries) (seconds_of entries) n W t4
    names_in =
        subst (NamesIn (firsts_of entries) (seconds_of entries) n W) (sym is_whole)
        (record {
          key = λ a h. hs.names.key a (omega (arith, count-is));
          first = first_holds;
          second = second_holds;
          words = hs.names.words;
          masks = hs.names.masks;
          owner = λ a h. hs.names.owner a (omega (arith, count-is));
        })

    -- ---- extension records

    records-held : tabulate (record_in t4) k.extensions ≡ s.extensions
    records-held =
        records-stand s t0 t4 k.extensions hs.extensions
        (ap (λ (x : Catalogue). x.extensions) is_whole)

    record-types-stay : (e : ℕ) → looked t1 (extension_key_at t1 e / 256) ≡ looked t4 (extension_key_at t4 e / 256)
    unfolding looked
    record-types-stay e =
        let at : Catalogue → ℕ = λ x. looked x (extension_key_at x e / 256) in
        ap at st.heads.kept ∙ sym (ap at is_whole)

    extended-is : Extended s t4
    extended-is =
        extensions.extended s (firsts_of entries) (seconds_of entries) t4 nm names_in k.extensions hs.drawn.within records-held (ap (λ (x : Catalogue). x.extension_count) is_whole)
        (λ a.
        ap (λ (x : ℕ). has_bit x a) (ap (λ (x : Catalogue). x.extended) is_whole)
        ∙ st.extends.types a
        ∙ any-tab-same (λ e. e) (λ e. has_bit (looked t1 (extension_key_at t1 e / 256)) a) (λ e. e) (λ e. has_bit (looked t4 (extension_key_at t4 e / 256)) a) k.extensions
        (λ e h. ap (λ (x : ℕ). has_bit x a) (record-types-stay e)))

    -- ---- flags and marks

    type-is : (a : ℕ) → a < n → type_at m a ≡ line_type_of (type_in W bs d (row_in entries a))
    type-is a h = rows.line_at s bs d entries k.count hs.drawn a (omega (arith, count-is))

    width_is : t2.width ≡ W
    width_is = ap (λ (x : Catalogue). x.width) st.numbers ∙ hs.wide

    head-is : (a : ℕ) → a < n → HeadOf (draft.head_at d (row_in entries a)) (head_at t4 a)
    head-is a h = subst (HeadOf (draft.head_at d (row_in entries a))) (sym (ap (λ (x : Catalogue). head_at x a) is_whole)) (st.heads.at a (omega (arith, count-is)))

    resources-are-in : t4.resources ≡ resources
    resources-are-in = ap (λ (x : Catalogue). x.resources) is_whole

    resources-hold : Holds n t4.resources (λ a. is_resource_variant (type_at m a).variant)
    unfolding line_type_of type_in
    resources-hold a =
        ap (λ (x : ℕ). has_bit x a) resources-are-in
        ∙ st.heads.resources a
        ∙ ap (λ (i : ℕ). ltb a i && eqb (draft.head_at d (row_in entries a) / 64) 1) count-is
        ∙ by (ltb a n)
        (λ l. rw l (variant_is (draft.head_at d (row_in entries a) / 64) ∙ sym (ap (λ (T : LineType). is_resource_variant T.variant) (type-is a (ltb-true a n l)))))
        (λ l. rw l)

    entry : (a : ℕ) → a < n → TypeEntry s t4 a
    unfolding line_type_of type_in is_resource_head virtual_head trait_head
    entry a h =
        let T = type-is a h in
        let l : a < k.count = omega (arith, count-is) in
        let eh = head-is a h in
        let em : packed_at t4 a ≡ packed_at t3 a = ap (λ (x : Catalogue). packed_at x a) is_whole in
        let y = subst (λ i. Rattle.item_heads.specs.Heads.Packs (draft.notes_at i bs d (row_in entries a)).marks (packed_at t3 a)) width_is (st.notes.marks a l) in
        record {
          key = key-small s (firsts_of entries) (seconds_of entries) t4 nm names_in a h;
          name = key-name s (firsts_of entries) (seconds_of entries) t4 nm names_in a h;
          head = eh.small;
          is_resource = eh.resource ∙ variant_is (draft.head_at d (row_in entries a) / 64) ∙ sym (ap (λ (D : LineType). is_resource_variant D.variant) T);
          is_virtual = ap (λ (x : ℕ). eqb x 1) eh.virtual ∙ sym (ap (λ (D : LineType). D.virtual) T);
          is_trait = ap (λ (x : ℕ). eqb x 1) eh.trait ∙ sym (ap (λ (D : LineType). D.trait) T);
          mark_count = ap (λ (x : Packed). x.count) em ∙ y.count ∙ sym (ap (λ (D : LineType). length D.marks) T);
          mark_bits =
              ap (λ (x : Packed). Rattle.definitions.specs.Bits.to_bits x.width x.bits) em
              ∙ y.bits
              ∙ sym (ap (λ (D : LineType). each Rattle.definitions.specs.Packing.mark_bits D.marks) T);
        }

    resource-word : k.resource ≡ m.resource
    unfolding line_map_of
    resource-word = hs.word

    listed-is : Listed s t4
    listed-is = record {
      few = few;
      count = ap (λ (x : Catalogue). x.count) is_whole ∙ count-is;
      entry = entry;
      width = ap (λ (x : Catalogue). x.width) is_whole ∙ hs.wide;
      resource_word = ap (λ (x : Catalogue). x.resource) is_whole ∙ resource-word;
      resources = holds-set m t4.resources (λ a. is_resource_variant (type_at m a).variant) resources-hold (λ (D : LineType). is_resource_variant D.variant) (λ a h. refl);
      resources_fit = holds_fits m t4.resources (λ a. is_resource_variant (type_at m a).variant) resources-hold few;
      first = first-is s (firsts_of entries) (seconds_of entries) t4 nm names_in;
      first_fits = first_fits s (firsts_of entries) (seconds_of entries) t4 nm names_in;
      none = none_is s (firsts_of entries) (seconds_of entries) t4 nm names_in;
      none_fits = none-fits s (firsts_of entries) (seconds_of entries) t4 nm names_in;
      second = second_is_lem s (firsts_of entries) (seconds_of entries) t4 nm names_in;
      second_fits = second_fits s (firsts_of entries) (seconds_of entries) t4 nm names_in;
      numbered = λ e. hs.numbered (sym (ap (λ (x : Catalogue). x.hyphens) is_whole) ∙ e);
    }

    -- ---- parents

    -- whether a type inherits another's name, by the lists
    inherits-is : (a b : ℕ) → a < n → b < n → elem_name (reading.type_at mm b).name (reading.type_at mm a).parents ≡ (type_at m a).inherits (type_at m b).name
    unfolding line_type_of
    inherits-is a b h l =
        let p = rows.line-listed s bs d entries k.count hs.drawn a (omega (arith, count-is)) in
        let q = rows.line-listed s bs d entries k.count hs.drawn b (omega (arith, count-is)) in
        sym (ap₂ (λ (T U : LineType). T.inherits U.name) p q)

    parents-hold : (a : ℕ) → a < n → Holds n (parents_at t3 a) (λ b. (type_at m a).inherits (type_at m b).name)
    parents-hold a h b =
        ap (λ (l : List ℕ). has_bit (get_or l a 0) b) parents-stay
        ∙ by (ltb b n)
        (λ l.
        let c = ltb-true b n l in
        rw l (hs.parents.bits a b (omega (arith, count-types)) (omega (arith, count-types)) ∙ inherits-is a b h c))
        (λ l. rw l (hs.parents.within a b (omega (arith, count-types)) (omega (arith, count-types, ltb-false b n l))))

    parents-at : (a : ℕ) → a < n → parents_at t4 a ≡ parents_at t3 a
    parents-at a h = ap (λ (x : Catalogue). parents_at x a) st.spread.kept

    types-tab : tab (type_at m) n ≡ m.types
    types-tab = tab-get_d m.types no_type

    childed-is : SetIs m o.childed (λ (P : LineType). some m (λ (T : LineType). T.inherits P.name))
    unfolding line_map_of line_type_of
    childed-is b h =
        let q = rows.line-listed s bs d entries k.count hs.drawn b (omega (arith, count-is)) in
        hs.parents.childed b (omega (arith, count-types))
        ∙ sym (Rattle.lists.specs.Appending.any-map (λ (T : LineType). T.inherits (reading.type_at mm b).name) line_type_of mm.types)
        ∙ ap (λ (U : LineType). any (λ (T : LineType). T.inherits U.name) m.types) (sym q)

    owned-is : Owned s t4
    owned-is = record {
      childed = λ b h. ap (λ (x : ℕ). has_bit x b) (ap (λ (x : Catalogue). x.childed) is_whole) ∙ childed-is b h;
      owner = λ i a h l. owner-right s (firsts_of entries) (seconds_of entries) t4 nm names_in i h a l;
      no_owner = λ i h l. owner-none s (firsts_of entries) (seconds_of entries) t4 nm names_in i h l;
    }

    -- ---- classes

    resources-are : SetIs m resources (λ (D : LineType). is_resource_variant D.variant)
    resources-are a h = ap (λ (x : ℕ). has_bit x a) (sym resources-are-in) ∙ listed-is.resources a h

    -- the sets of words stay from where classes are gathered
    class-stays : (u : Resource) → class_in t2 u ≡ class_in t4 u
    class-stays =
        let after : t4 ≡ record t2 { own = t3.own; marks = t3.marks; above = t4.above; passed = t4.passed } =
        st.spread.kept ∙ ap (λ (x : Catalogue). record x { above = t4.above; passed = t4.passed }) st.notes.kept in
        class-same t4 t2 (sym (ap (λ (x : Catalogue). x.firsts) after)) (sym (ap (λ (x : Catalogue). x.seconds) after))

    own-sets : (a : ℕ) → a < n → own_sets t2 bs d entries t2.width a ≡ map (class_in t4) (owned (type_at m a))
    unfolding owned line_type_of type_in
    own-sets a h =
        ap (λ (i : ℕ). own_sets t2 bs d entries i a) width_is
        ∙ ap (λ (T : LineType). map (class_in t2) (owned T)) (sym (type-is a h))
        ∙ map_same (class_in t2) (class_in t4) (owned (type_at m a)) (λ u i. class-stays u)

    given-sets : (a : ℕ) → a < n → given_sets t2 bs d entries t2.width a ≡ map (class_in t4) (given (type_at m a))
    unfolding given line_type_of type_in
    given-sets a h =
        ap (λ (i : ℕ). given_sets t2 bs d entries i a) width_is
        ∙ ap (λ (T : LineType). map (class_in t2) (given T)) (sym (type-is a h))
        ∙ map_same (class_in t2) (class_in t4) (given (type_at m a)) (λ u i. class-stays u)

    -- what was gathered of a type
    abbrev found : ℕ → Classes
    found a = record {
      own = own_at t3 a;
      given = get_or gives a 0;
      wrong = any (lost resources) (own_sets t2 bs d entries t2.width a) || repeats meets (own_sets t2 bs d entries t2.width a);
      missing = any (lost resources) (given_sets t2 bs d entries t2.width a);
    }

    gathers : (a : ℕ) → a < n → Gathers resources (map (class_in t4) (owned (type_at m a))) (map (class_in t4) (given (type_at m a))) (found a)
    gathers a h =
        let l : a < k.count = omega (arith, count-is) in
        subst (λ x. Gathers resources x (map (class_in t4) (given (type_at m a))) (found a)) (own-sets a h)
        (subst (λ x. Gathers resources (own_sets t2 bs d entries t2.width a) x (found a)) (given-sets a h)
        (record { own = st.notes.own a l; given = st.notes.gives a l; wrong = refl; missing = refl }))

    own-within : (a : ℕ) → a < n → (u : Resource) → In u (owned (type_at m a)) → ResourceWithin W u
    own-within a h = rows.own-words s bs d entries k.count hs.drawn a (omega (arith, count-is))

    given-within : (a : ℕ) → a < n → (u : Resource) → In u (given (type_at m a)) → ResourceWithin W u
    given-within a h = rows.given-words s bs d entries k.count hs.drawn a (omega (arith, count-is))

    own-set : (a : ℕ) → a < n → SetIs m (own_at t3 a) (own_set (type_at m a))
    own-set a h =
        own_is s (firsts_of entries) (seconds_of entries) t4 nm names_in resources resources-are (type_at m a) (found a) (own-within a h) (given-within a h) (gathers a h)

    given-set : (a : ℕ) → a < n → SetIs m (get_or gives a 0) (given_set (type_at m a))
    given-set a h =
        given_is s (firsts_of entries) (seconds_of entries) t4 nm names_in resources resources-are (type_at m a) (found a) (own-within a h) (given-within a h) (gathers a h)

    -- ---- down the order

    starts : Starts s t3.parents gives
    starts = record {
      few = few;
      parents = λ a h. holds-set m (parents_at t3 a) (λ b. (type_at m a).inherits (type_at m b).name) (parents-hold a h) (λ (P : LineType). (type_at m a).inherits P.name) (λ b l. refl);
      within = λ a b h l. parents-hold a h b ∙ rw (le-ltb b n l);
      given = given-set;
    }

    right : (a : ℕ) → a < n → Right s (above_at t4 a) (passed_at t4 a) a
    right a h = st.spread.right.right s hs.drawn.readable starts a h (hs.placed a (omega (arith, count-is)))

    sets_of : (a : ℕ) → a < n → SetsOf s t4 a
    sets_of a h =
        let r = right a h in
        record {
          parents = rw (parents-at a h) (holds-set m (parents_at t3 a) (λ b. (type_at m a).inherits (type_at m b).name) (parents-hold a h) (λ (P : LineType). (type_at m a).inherits P.name) (λ b l. refl));
          parents_fit = rw (parents-at a h) (holds_fits m (parents_at t3 a) (λ b. (type_at m a).inherits (type_at m b).name) (parents-hold a h) few);
          own = rw (ap (λ (x : Catalogue). own_at x a) is_whole) (own-set a h);
          above = r.above;
          passed = r.passed;
        }

    catalogued-is : Catalogued s t4
    catalogued-is = record {
      listed = listed-is;
      worded = worded s (firsts_of entries) (seconds_of entries) t4 nm names_in;
      extended = extended-is;
      owned = owned-is;
      sets = sets_of;
    }

    -- ---- what refuses a type

    lost-is : bad ≡ (any (lost_class m) m.types || any own_twice m.types)
    unfolding has_child
    lost-is =
        st.notes.lost
        ∙ ap (λ (i : ℕ). any (lost_at t2 bs d entries) (tab (λ a. a) i)) count-is
        ∙ any-tab-same (λ a. a) (lost_at t2 bs d entries) (type_at m) (λ T. lost_class m T || own_twice T) n
        (λ a h.
        ap (λ (x : Catalogue). tested x.resources x.childed a) st.numbers
        ∙ ap (λ (b : Bool). (found a).wrong || (b && (found a).missing)) (childed-is a h)
        ∙ refused-is s (firsts_of entries) (seconds_of entries) t4 nm names_in resources resources-are (type_at m a) (found a) (own-within a h) (given-within a h) (gathers a h))
        ∙ ap (any (λ T. lost_class m T || own_twice T)) types-tab
        ∙ any-or (lost_class m) own_twice m.types
      where
        tested : ℕ → ℕ → ℕ → Bool
        tested i j a =
            (any (lost i) (own_sets t2 bs d entries t2.width a) || repeats meets (own_sets t2 bs d entries t2.width a))
            || (has_bit j a && any (lost i) (given_sets t2 bs d entries t2.width a))

  pub filled : Fills bs d entries order t0 k o t4 bad
  filled = record { catalogued = catalogued-is; lost = lost-is }

-- ---- what each part asks follows from what the whole asks

module _ (bs : List Bool) (d : Draft) (entries : List Entry) (order : Order) (t0 : Catalogue) (k : Decoding) (o : Placing) (f : Fillable bs d entries order t0 k o) where
  pub keys-fit : (t1 : Catalogue) → t1.extensions ≡ t0.extensions → RecordKeysFit t1 k.extensions
  keys-fit t1 e =
      let q = f.stands in
      record {
        few = extensions.few-records f.sheet t0 k.extensions q.drawn.within q.extensions;
        small = λ i l. rw e (extensions.record-key f.sheet t0 k.extensions q.drawn.within q.extensions i l);
      }

  pub rows-there : RowsThere entries k.count
  rows-there = rows.rows-there f.sheet bs d entries k.count f.stands.drawn

  pub notes-ready : (t2 : Catalogue) → t2.width ≡ k.width → NotesReady bs d entries t2 k.count
  notes-ready t2 e =
      let q = f.stands in
      record {
        few = q.drawn.drafted.few;
        there = rows-there;
        read = λ a h.
            let r = row_in entries a in
            subst (λ i. Rattle.item_notes.specs.Notes.DoneAt (Rattle.sheet_notes.specs.Notes.notes i (eqb (draft.key_at d r % 256) 0)) bs (draft.place_at d r)) (sym (e ∙ q.wide))
            (q.drawn.read r (rows.row_below f.sheet bs d entries k.count q.drawn a h));
      }
