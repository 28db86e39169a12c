-- Where a catalogue is that of a sheet, its items are those that the sets of classes give the sheet's map.
use Rattle.std.proofs.Math.Bool.{Bool, true, false, cond, not}
use Rattle.std.specs.Prelude.{◌&&◌, ◌||◌, ◌≡◌, refl, eqb, ltb}
use mathlib.Core.List.Memᴰ
use mathlib.Core.List.{List, [], ◌∷◌, ◌++◌, map}
use Rattle.std.proofs.Math.Logic.{⊎_elim}
use Rattle.std.proofs.Math.Path.{sym, ap, ap₂}
use Rattle.std.proofs.Common.{◌∙◌, subst, arith}
use Prim.Native.Nat.{ℕ, zero, suc, ◌<◌}
use borrow.Author.Tests.{ltb-true, ltb-false}
use Rattle.std.specs.Int.Bits.{bit_and, bit_or, bit_xor}
use Rattle.std.proofs.Math.ListN.{length}
use Rattle.std.proofs.Math.Seq
use Rattle.lists.specs.Lists.{In, all, filter, each}
use Rattle.lists.specs.Tests.{by, never, cons-elim, any-in, any_of, and_left, and_right, and_both, same_test}
use Rattle.lists.specs.Appending.{map-append, map-map, map_same, map-self, map_each, each_map, each-each, each_same, all_map, filter-append}
use Rattle.lists.specs.Tabulating.{tabulate, map-tabulate, tabulate-in, tabulate-of, taken}
use Rattle.definitions.specs.Records.{Name, Sheet}
use Rattle.definitions.specs.Bits.{to_bits}
use Rattle.definitions.specs.Packing.{name_bits, parent_bits, mark_bits, item_bits, counted_bits}
use Rattle.definitions.specs.Comparisons.{dotted}
use Rattle.definitions.specs.Map.{LineType, LineMap}
use Rattle.definitions.specs.Making.{extension_parents, extension_line}
use Rattle.definitions.specs.Items.{parents_of}
use Rattle.law_lines.specs.Statements.{Readable, line_map}
use Rattle.law_lines.specs.Within.{Within}
use Rattle.order_form.specs.Lists.{only, below, below-same, tab-get_d, filter-below, map_below}
use Rattle.rows.specs.Rows.{has_bit}
use Rattle.rows.specs.RowLaws.{bit-without}
use Rattle.law_classes.specs.Sets.{Set, both, some, masked, own_set, above_set, passed_set, classes_in, making_of, own_making, inherited_making, set_items_at, made_set, set_items_for, set_items, no_type, type_at, SetIs}
use Rattle.law_classes.specs.Numbers.{Fits, fits_both, holds-both, holds-either, holds-some}
use Rattle.law_classes.specs.Walks.{filter-twice}
use Rattle.law_classes.proofs.ItemLaws.{plain_map}
use Rattle.catalogue.specs.Layout.{key_at, head_at, mark_count, parents_at, own_at, above_at, passed_at, word_at, mask_at, second_at}
use Rattle.catalogue.specs.Catalogue.{virtual_head, trait_head, Entry, Catalogued}
use Rattle.catalogue.specs.ByDom.{by_dom}
use Rattle.catalogue.specs.DomLaws.{by_dom-of}
use Rattle.catalogue.specs.ClassOrder.{classes-by-dom}
use Rattle.catalogue.specs.declared.Catalogue.{Catalogue}
use Rattle.item_fields.specs.Fields.{line_bits}
use Rattle.bitsets.specs.Bitsets.{members, less}
use Rattle.bitsets.specs.BitLaws.{below_of, members-of, members-below}
use Rattle.item_making.specs.Making.{name_in, classes_of, marks_bits, marks_in, all_virtual, making_bits}
use Rattle.item_making.specs.Walks.{total-same, total-each}
use Rattle.item_writer.specs.Items.{Sound, passes, passing_in, added_for, own_bits, inherited_bits, word_items, makes, type_items, all_items}
use Rattle.item_writer.specs.WriterLaws.{below-cut}

-- tests that agree on the members
all-agree : (f g : ℕ → Bool) (l : List ℕ) → ((x : ℕ) → In x l → f x ≡ g x) → all f l ≡ all g l
all-agree f g [] h = refl
all-agree f g (x ∷ l) h = ap₂ (λ a b. a && b) (h x (Memᴰ.head refl)) (all-agree f g l (λ y i. h y (Memᴰ.tail i)))

-- those of a list that a test keeps, by their places
filter-tabulate : (f : ℕ → Bool) (h : ℕ → ℕ) (n : ℕ) → filter f (tabulate h n) ≡ map h (below (λ k. f (h k)) n)
unfolding tabulate
filter-tabulate f h zero = refl
filter-tabulate f h (suc n) =
    filter-append f (tabulate h n) (h n ∷ [])
    ∙ ap₂ (λ (a b : List ℕ). a ++ b) (filter-tabulate f h n) (by (f (h n)) (λ e. rw e) (λ e. rw e))
    ∙ sym (map-append h (below (λ k. f (h k)) n) (only (f (h n)) n))

module _ (s : Sheet) (t : Catalogue) (ok : Readable s) (within : Within s) (c : Catalogued s t) where
  abbrev m : LineMap
  m = line_map s

  abbrev n : ℕ
  n = length m.types

  abbrev W : ℕ
  W = length s.words

  -- a word of the catalogue is one of the sheet
  word_below : (k : ℕ) → k < t.word_count → word_at t k < W
  word_below k h =
      (below_of (λ r. some m (masked r)) W (subst (In (word_at t k)) c.worded.words (tabulate-in (word_at t) (t.word_count) k h))).0

  pub sound : Sound t
  sound = record {
    types = omega (arith, c.listed.count, c.listed.few);
    words = c.worded.few;
    records = c.extended.few;
    counts = c.extended.counts;
    keys = λ a h. (c.listed.entry a (omega (arith, c.listed.count))).key;
    word = λ k h. omega (arith, word_below k h, within.words);
  }

  -- ---- members

  -- the members of a set are the places with its test, in order
  members-are : (f : ℕ → Bool) (S : Set) → ((p : ℕ) → p < n → f p ≡ S (type_at m p)) → filter S m.types ≡ map (type_at m) (below f n)
  members-are f S h =
      ap (filter S) (sym (tab-get_d m.types no_type) ∙ sym (map_below (type_at m) n))
      ∙ filter-below S (type_at m) (λ x. true) n
      ∙ ap (map (type_at m)) (below-same (λ x. S (type_at m x)) f n (λ x k. sym (h x k)))

  -- of a number that has no bit past the last type
  rows_are : (row : ℕ) (S : Set) → Fits m row → SetIs m row S → filter S m.types ≡ map (type_at m) (members row)
  rows_are row S f h = members-are (has_bit row) S h ∙ ap (map (type_at m)) (sym (members-below row n c.listed.few f.within))

  -- a member is a type
  member_below : (row p : ℕ) → Fits m row → In p (members row) → p < n
  member_below row p f i =
      by (ltb p n)
      (λ l. ltb-true p n l)
      (λ l. never (members-of row i).1 (f.within p (ltb-false p n l)))

  -- ---- one making

  module _ (a : ℕ) (ha : a < n) where
    abbrev T : LineType
    T = type_at m a

    entry : (p : ℕ) → p < n → Entry s t p
    entry p h = c.listed.entry p h

    name-is : (p : ℕ) → p < n → name_in t p ≡ (type_at m p).name
    unfolding name_in
    name-is p h = (entry p h).name

    added_is : (r : ℕ) → r < W → added_for t a r ≡ extension_parents m T.name r
    unfolding added_for
    added_is r h =
        by (has_bit (t.extended) a)
        (λ e. rw e (c.extended.added a r ha h))
        (λ e. rw e (sym (c.extended.extended a r ha h e)))

    -- the marks of some classes
    marks-are : (cs : List ℕ) → ((p : ℕ) → In p cs → p < n) → each (marks_bits t) cs ≡ each mark_bits (each (λ (C : LineType). C.marks) (map (type_at m) cs))
    unfolding marks_bits
    marks-are cs h =
        each_same (marks_bits t) (λ p. each mark_bits (type_at m p).marks) cs
        (λ p i. (entry p (h p i)).mark_bits)
        ∙ sym (each-each (λ (C : LineType). C.marks) mark_bits (map (type_at m) cs) ∙ each_map (λ (C : LineType). each mark_bits C.marks) (type_at m) cs)

    count-is : (cs : List ℕ) → ((p : ℕ) → In p cs → p < n) → marks_in t cs ≡ length (each (λ (C : LineType). C.marks) (map (type_at m) cs))
    unfolding marks_in
    count-is cs h =
        total-same (λ p. mark_count t p) (λ p. length (type_at m p).marks) cs (λ p i. (entry p (h p i)).mark_count)
        ∙ sym (ap length (each_map (λ (C : LineType). C.marks) (type_at m) cs) ∙ total-each (λ p. (type_at m p).marks) cs)

    virtual_is : (cs : List ℕ) → ((p : ℕ) → In p cs → p < n) → all_virtual t cs ≡ all (λ (C : LineType). C.virtual) (map (type_at m) cs)
    unfolding all_virtual
    virtual_is cs h =
        all-agree (λ p. virtual_head (head_at t p)) (λ p. (type_at m p).virtual) cs (λ p i. (entry p (h p i)).is_virtual)
        ∙ sym (all_map (λ (C : LineType). C.virtual) (type_at m) cs)

    making-is : (r : ℕ) (firsts : List Name) (cs : List ℕ) → r < W → ((p : ℕ) → In p cs → p < n)
        → making_bits t a r (firsts ++ ((t.resource ∷ []) ∷ added_for t a r)) cs ≡ item_bits (making_of m T r (map (type_at m) cs) firsts)
    unfolding making_bits making_of item_bits
    making-is r firsts cs hr h =
        let bits : Name → Bool → List Name → ℕ → List Bool → List Bool =
        λ x v ps k ms. false ∷ name_bits x ++ (to_bits 8 r ++ (v ∷ counted_bits 5 parent_bits ps ++ (to_bits 9 k ++ ms))) in
        let v = virtual_head (head_at t a) && all_virtual t cs in
        let ps = firsts ++ ((t.resource ∷ []) ∷ added_for t a r) in
        let Cs = map (type_at m) cs in
        ap₂ (λ (x : Name) (b : Bool). bits x b ps (marks_in t cs) (each (marks_bits t) cs)) (name-is a ha) (ap₂ (λ x y. x && y) (entry a ha).is_virtual (virtual_is cs h))
        ∙ ap₂ (λ (w : ℕ) (l : List Name). bits T.name (T.virtual && all (λ (C : LineType). C.virtual) Cs) (firsts ++ ((w ∷ []) ∷ l)) (marks_in t cs) (each (marks_bits t) cs)) c.listed.resource_word (added_is r hr)
        ∙ ap₂ (λ (k : ℕ) (l : List Bool). bits T.name (T.virtual && all (λ (C : LineType). C.virtual) Cs) (firsts ++ ((m.resource ∷ []) ∷ extension_parents m T.name r)) k l) (count-is cs h) (marks-are cs h)

    -- ---- a type and a word

    pub own_is : (r p : ℕ) → r < W → p < n → own_bits t a r p ≡ item_bits (own_making m T r (type_at m p))
    unfolding own_bits own_making
    own_is r p hr hp =
        making-is r (name_in t p ∷ []) (p ∷ []) hr (λ q i. cons-elim i (λ e. rw e hp) (λ j. absurd (Memᴰ.not-nil j)))
        ∙ ap (λ (x : Name). item_bits (making_of m T r (type_at m p ∷ []) (x ∷ []))) (name-is p hp)

    line-is : (r : ℕ) → line_bits (key_at t a) (head_at t a) r ≡ item_bits (extension_line T r)
    unfolding line_bits item_bits extension_line
    line-is r =
        ap₂ (λ (x : Name) (b : Bool). true ∷ name_bits x ++ (b ∷ trait_head (head_at t a) ∷ to_bits 8 r)) (entry a ha).name (entry a ha).is_virtual
        ∙ ap (λ (b : Bool). true ∷ name_bits T.name ++ (T.virtual ∷ b ∷ to_bits 8 r)) (entry a ha).is_trait

    module _ (k : ℕ) (hk : k < t.word_count) where
      abbrev r : ℕ
      r = word_at t k

      hr : r < W
      hr = word_below k hk

      -- a set of the type's, with the mask of the word
      masked-fits : (row : ℕ) → Fits m (bit_and row (mask_at t k))
      masked-fits row = fits_both m row (mask_at t k) (c.worded.mask_fits k hk)

      masked-is : (row : ℕ) (S : Set) → SetIs m row S → SetIs m (bit_and row (mask_at t k)) (both S (masked r))
      masked-is row S h = holds-both m row (mask_at t k) S (masked r) h (c.worded.mask k hk)

      owns-are : map (own_bits t a r) (members (bit_and (own_at t a) (mask_at t k))) ≡ map item_bits (map (own_making m T r) (filter (both (own_set T) (masked r)) m.types))
      owns-are =
          let row = bit_and (own_at t a) (mask_at t k) in
          let f = masked-fits (own_at t a) in
          map_same (own_bits t a r) (λ p. item_bits (own_making m T r (type_at m p))) (members row) (λ p i. own_is r p hr (member_below row p f i))
          ∙ sym (
          ap (λ l. map item_bits (map (own_making m T r) l)) (rows_are row (both (own_set T) (masked r)) f (masked-is (own_at t a) (own_set T) (c.sets a ha).own))
          ∙ ap (map item_bits) (map-map (own_making m T r) (type_at m) (members row))
          ∙ map-map item_bits (λ p. own_making m T r (type_at m p)) (members row)
          )

      -- the classes of the inherited resource, by dom
      classes-are : map (type_at m) (classes_of t (bit_and (above_at t a) (mask_at t k))) ≡ classes_in m (both (above_set m T) (masked r))
      unfolding classes_of less
      classes-are =
          let x = bit_and (above_at t a) (mask_at t k) in
          sym (classes-by-dom s (plain_map s ok within) t c.listed x r (above_set m T) (masked-fits (above_at t a)) (masked-is (above_at t a) (above_set m T) (c.sets a ha).above))

      -- its first parents
      firsts-are : map (λ p. dotted (name_in t p) r) (passing_in t (parents_at t a) (mask_at t k))
          ≡ map (λ (P : LineType). dotted P.name r) (filter (λ P. some m (both (passed_set m P) (masked r))) (parents_of m T))
      unfolding parents_of passing_in
      firsts-are =
          let F : Set = λ P. T.inherits P.name in
          let G : Set = λ P. some m (both (passed_set m P) (masked r)) in
          let g = passes t (parents_at t a) (mask_at t k) in
          let z = c.sets a ha in
          let cut : below g 64 ≡ below g n = below-cut g n 64 c.listed.few (λ p l q. ap (λ b. b && not (eqb (bit_and (passed_at t p) (mask_at t k)) 0)) (z.parents_fit.within p l)) in
          let is : filter G (filter F m.types) ≡ map (type_at m) (below g n) =
          filter-twice F G m.types
          ∙ members-are g (λ P. F P && G P)
          (λ p l.
          let y = bit_and (passed_at t p) (mask_at t k) in
          let S : Set = both (passed_set m (type_at m p)) (masked r) in
          ap₂ (λ a b. a && b) (z.parents p l) (sym (holds-some m y S (masked-fits (passed_at t p)) (masked-is (passed_at t p) (passed_set m (type_at m p)) (c.sets p l).passed)))) in
          ap (map (λ p. dotted (name_in t p) r)) cut
          ∙ map_same (λ p. dotted (name_in t p) r) (λ p. dotted (type_at m p).name r) (below g n) (λ p i. ap (λ (x : Name). dotted x r) (name-is p (below_of g n i).0))
          ∙ sym (ap (map (λ (P : LineType). dotted P.name r)) is ∙ map-map (λ (P : LineType). dotted P.name r) (type_at m) (below g n))

      classes-below : (p : ℕ) → In p (classes_of t (bit_and (above_at t a) (mask_at t k))) → p < n
      unfolding classes_of
      classes-below p i =
          let x = bit_and (above_at t a) (mask_at t k) in
          let y = second_at t 0 in
          let f = masked-fits (above_at t a) in
          ⊎_elim
          (λ j. member_below (bit_and x y) p (fits_both m x y c.listed.none_fits) (by_dom-of t (bit_and x y) j))
          (λ j.
          by (ltb p n)
          (λ l. ltb-true p n l)
          (λ l. never (and_left (has_bit x p) _ (sym (bit-without x y p) ∙ (members-of (bit_xor x (bit_and x y)) (by_dom-of t (bit_xor x (bit_and x y)) j)).1)) (f.within p (ltb-false p n l))))
          (Memᴰ.append_cases (by_dom t (bit_and x y)) i)

      inherited-is : inherited_bits t a r (mask_at t k) ≡ item_bits (inherited_making m T r)
      unfolding inherited_bits inherited_making
      inherited-is =
          let x = bit_and (above_at t a) (mask_at t k) in
          making-is r (map (λ p. dotted (name_in t p) r) (passing_in t (parents_at t a) (mask_at t k))) (classes_of t x) hr classes-below
          ∙ ap₂ (λ (Cs : List LineType) (ps : List Name). item_bits (making_of m T r Cs ps)) classes-are firsts-are

      word-is : word_items t a k ≡ map item_bits (set_items_at m T r)
      unfolding word_items set_items_at
      word-is =
          let x = bit_and (above_at t a) (mask_at t k) in
          let S : Set = both (above_set m T) (masked r) in
          let some_is : some m S ≡ not (eqb x 0) = holds-some m x S (masked-fits (above_at t a)) (masked-is (above_at t a) (above_set m T) (c.sets a ha).above) in
          let inherited : cond (eqb x 0) [] (inherited_bits t a r (mask_at t k) ∷ []) ≡ map item_bits (map (inherited_making m T) (filter (λ q. some m (both (above_set m T) (masked q))) (r ∷ []))) =
          by (eqb x 0)
          (λ e. rw (e, some_is ∙ ap not e))
          (λ e. rw (e, some_is ∙ ap not e) (ap (λ (y : List Bool). y ∷ []) inherited-is)) in
          let line : line_bits (key_at t a) (head_at t a) r ≡ item_bits (extension_line T r) = line-is r in
          ap₂ (λ (l k : List (List Bool)). l ++ k) owns-are (ap₂ (λ (l : List (List Bool)) (y : List Bool). l ++ (y ∷ [])) inherited line)
          ∙ sym (
          map-append item_bits (map (own_making m T r) (filter (both (own_set T) (masked r)) m.types)) (map (inherited_making m T) (filter (λ q. some m (both (above_set m T) (masked q))) (r ∷ [])) ++ (extension_line T r ∷ []))
          ∙ ap (λ (l : List (List Bool)). map item_bits (map (own_making m T r) (filter (both (own_set T) (masked r)) m.types)) ++ l)
          (map-append item_bits (map (inherited_making m T) (filter (λ q. some m (both (above_set m T) (masked q))) (r ∷ []))) (extension_line T r ∷ []))
          )

    -- ---- the type

    -- whether a word has a making
    abbrev made : ℕ → Bool
    made q = some m (both (made_set m T) (masked q))

    makes-is : (k : ℕ) → k < t.word_count → makes t a k ≡ made (word_at t k)
    unfolding made_set
    makes-is k h =
        let row = bit_or (own_at t a) (above_at t a) in
        let z = c.sets a ha in
        sym (holds-some m (bit_and row (mask_at t k)) (both (λ D. own_set T D || above_set m T D) (masked (word_at t k))) (masked-fits k h row)
        (masked-is k h row (λ D. own_set T D || above_set m T D) (holds-either m (own_at t a) (above_at t a) (own_set T) (above_set m T) z.own z.above)))

    -- a word with a making is the last of a type's name
    word-of-type : (q : ℕ) → (some m (masked q) && made q) ≡ made q
    word-of-type q =
        same_test
        (λ e. and_right (some m (masked q)) (made q) e)
        (λ e.
        let x = any_of (both (made_set m T) (masked q)) m.types e in
        and_both (any-in (masked q) x.1 (and_right (made_set m T x.0) (masked q x.0) x.2)) e)

    -- the words with a making, by their places
    words_are : map (word_at t) (below (makes t a) (t.word_count)) ≡ below made W
    words_are =
        let K = t.word_count in
        let G : ℕ → Bool = λ q. some m (masked q) in
        ap (map (word_at t)) (below-same (makes t a) (λ k. made (word_at t k)) K makes-is)
        ∙ sym (filter-tabulate made (word_at t) K)
        ∙ ap (filter made) c.worded.words
        ∙ ap (filter made) (sym (map-self (λ x. x) (below G W) (λ x i. refl)))
        ∙ filter-below made (λ x. x) G W
        ∙ map-self (λ x. x) (below (λ q. G q && made q) W) (λ x i. refl)
        ∙ below-same (λ q. G q && made q) made W (λ q h. word-of-type q)

    pub type-is : type_items t a ≡ map item_bits (set_items_for W m T)
    unfolding type_items set_items_for
    type-is =
        each_same (word_items t a) (λ k. map item_bits (set_items_at m T (word_at t k))) (below (makes t a) (t.word_count)) (λ k i. word-is k (below_of (makes t a) (t.word_count) i).0)
        ∙ sym (each_map (λ q. map item_bits (set_items_at m T q)) (word_at t) (below (makes t a) (t.word_count)))
        ∙ ap (each (λ q. map item_bits (set_items_at m T q))) words_are
        ∙ sym (map_each item_bits (set_items_at m T) (below made W))

  -- ---- all types

  pub items-are : all_items t ≡ map item_bits (set_items W m)
  unfolding all_items set_items
  items-are =
      let types : m.types ≡ tabulate (type_at m) n = sym (Seq.take_all n m.types (omega arith)) ∙ taken m.types no_type n (omega arith) in
      ap (λ (k : ℕ). each (type_items t) (tabulate (λ a. a) k)) c.listed.count
      ∙ each_same (type_items t) (λ a. map item_bits (set_items_for W m (type_at m a))) (tabulate (λ a. a) n)
      (λ a i. let x = tabulate-of (λ a. a) n i in type-is a (subst (λ (y : ℕ). y < n) (sym x.2) x.1))
      ∙ sym (
      map_each item_bits (set_items_for W m) m.types
      ∙ ap (each (λ D. map item_bits (set_items_for W m D))) (types ∙ sym (map-tabulate (type_at m) (λ a. a) n))
      ∙ each_map (λ D. map item_bits (set_items_for W m D)) (type_at m) (tabulate (λ a. a) n)
      )
