-- The same map where it is filled: what stands in the catalogue then is no empty demand either.
use Rattle.std.specs.Prelude.{Bool, true, false, List, ◌∷◌, map, ◌≡◌, refl, ℕ, zero, suc, ◌+◌, ◌/◌, ◌≤◌, ◌<◌, eqb, length, get_or, take, set, replicate}
use Rattle.std.proofs.Common.{sym, ap, ◌∙◌, subst, arith, ne_eqb, eqb-true, le-ltb, length-set}
use Rattle.std.proofs.lemmas.Bool.{eqb-false}
use Rattle.std.proofs.lemmas.List.{length-replicate}
use Rattle.std.specs.Int.Count.{count_trailing_zeros}
use Rattle.lists.specs.Lists.{Sorted, any, insert, sort, list_before}
use Rattle.lists.specs.Members.{map-sorted}
use Rattle.lists.specs.Lexicographic.{list-strict}
use Rattle.lists.specs.Sorting.{ascends-sorted}
use Rattle.lists.specs.Tests.{by, never}
use Rattle.lists.specs.Places.{zero-at}
use Rattle.lists.specs.Tabulating.{tabulate}
use Rattle.rows.specs.Rows.{has_bit}
use Rattle.rows.specs.RowLaws.{bit-one, bit-none}
use Rattle.definitions.specs.Records.{Name, TypeInfo}
use Rattle.definitions.specs.Comparisons.{name_before, bytes_before, elem_name}
use Rattle.definitions.specs.Map.{LineType, number_of, type_map_of, line_type_of, line_map_of}
use Rattle.law_lines.specs.Statements.{line_map}
use Rattle.order_form.specs.Lists.{elem}
use Rattle.order_form.specs.Reading.{type_at}
use Rattle.item_spread.specs.Spread.{Ordered}
use Rattle.catalogue.specs.Layout.{no_word, blank, parents_at, first_at, second_at}
use Rattle.catalogue.specs.declared.Catalogue.{Catalogue}
use Rattle.catalogue.specs.declared.Word.{Word}
use Rattle.sheet_draft.specs.declared.entry.Entry.{Entry}
use Rattle.item_names.specs.Names.{second_of, NoSets, KeysPut, SetsPut, OwnersPut, WordsPut, WordPut, FewWords, mask_of, NamesPut}
use Rattle.item_names.specs.NamesLaws.{keys_none, keys-more, sets-none, sets_more, sets-kept, owners-none, owners-more, words-none, words_more, words-few, names-put}
use Rattle.item_names.specs.Holding.{Holds}
use Rattle.item_names.specs.Instance.{blank-sets}
use Rattle.item_entries.specs.Entries.{key_in, firsts_of, seconds_of, KeysFit}
use Rattle.item_entries.specs.EntryLaws.{first-at, key-at}
use Rattle.order_rounds.specs.declared.sequence.Order.{Order}
use Rattle.item_draft.specs.Fill.{NamesStand, ParentsStand, Stands, Fillable}
use Rattle.item_draft.specs.Instance.{small, small_bits, small_draft, small_entries, small-drawn}
use Rattle.sheet_draft.specs.declared.Decoding.{Decoding}
use Rattle.item_draft.specs.declared.Placing.{Placing}

-- a catalogue that differs from the blank one in its keys alone has columns as long
module _ (t : Catalogue) (k : t ≡ record blank { keys = t.keys }) where
  blank-firsts : length t.firsts ≡ 256
  unfolding blank
  blank-firsts = ap (λ (c : Catalogue). length c.firsts) k ∙ length-replicate {A = ℕ} 256 0

  blank-seconds : length t.seconds ≡ 256
  unfolding blank
  blank-seconds = ap (λ (c : Catalogue). length c.seconds) k ∙ length-replicate {A = ℕ} 256 0

  blank-owners : length t.owners ≡ 64
  unfolding blank
  blank-owners = ap (λ (c : Catalogue). length c.owners) k ∙ length-replicate {A = ℕ} 64 0

  blank-words : length t.words ≡ 64
  unfolding blank
  blank-words = ap (λ (c : Catalogue). length c.words) k ∙ length-replicate {A = Word} 64 no_word

-- ---- names that were put, out of any two entries

module _ (entries : List Entry) (fit : KeysFit entries 2) where
  abbrev F : List ℕ
  F = firsts_of entries

  abbrev S : List ℕ
  S = seconds_of entries

  keyed : (t : Catalogue) × KeysPut F S 2 blank t
  unfolding blank
  keyed =
      let a = keys-more F S 0 blank blank (key_in entries 0) (omega arith) (length-replicate {A = ℕ} 64 0) (key-at entries 0 (omega arith), fit.small 0 (omega arith)) refl (keys_none F S blank) in (
        _,
        keys-more F S 1 blank _ (key_in entries 1) (omega arith) (length-set {A = ℕ} (replicate 64 0) 0 (key_in entries 0) ∙ length-replicate {A = ℕ} 64 0) (key-at entries 1 (omega arith), fit.small 1 (omega arith)) refl a,
      )

  in-sets : (t : Catalogue) → (length t.firsts ≡ 256) × (length t.seconds ≡ 256) → NoSets t → (u : Catalogue) × SetsPut F S 2 t u
  in-sets t l z =
      let b0 : get_or F 0 0 < 256 = omega (arith, first-at entries 0 (omega arith), fit.small 0 (omega arith)) in
      let b1 : get_or F 1 0 < 256 = omega (arith, first-at entries 1 (omega arith), fit.small 1 (omega arith)) in
      let a = sets_more F S 0 t t (omega arith) b0 l (sets-none F S t z) refl in
      (_, sets_more F S 1 t _ (omega arith) b1 (length-set t.firsts _ _ ∙ l.0, length-set t.seconds _ _ ∙ l.1) a refl)

  with-owners : (t : Catalogue) → length t.owners ≡ 64 → (u : Catalogue) × OwnersPut 2 t u
  with-owners t l =
      let a = owners-more 0 t t _ (omega arith) l refl refl (owners-none t) in
      (_, owners-more 1 t _ _ (omega arith) (length-set t.owners _ _ ∙ l) refl refl a)

  -- a word is put or not
  word-put : (n w mask : ℕ) (t : Catalogue) → (u : Catalogue) × (r : ℕ) × WordPut n w mask t u r × (length u.words ≡ length t.words)
  word-put n w mask t =
      by (eqb mask 0)
      (λ e. (t, n, record { none = λ z. (refl, refl); some = λ z. absurd (z (eqb-true mask 0 e)) }, refl))
      (λ e. (
        record t { words = set t.words n (record { word = w; types = mask }) },
        n + 1,
        record { none = λ z. absurd (eqb-false mask 0 e z); some = λ z. (refl, refl) },
        length-set t.words n _,
      ))

  with-words : (t : Catalogue) → length t.words ≡ 64 → FewWords 2 t → (u : Catalogue) × (r : ℕ) × WordsPut 2 t u r
  with-words t l f =
      let x = word-put 0 0 (mask_of t 0) t in
      let a = words_more 2 0 0 t t f (omega arith) (words-none t) l x.0 x.1 x.2 in
      let y = word-put x.1 1 (mask_of t 1) x.0 in
      (y.0, y.1, words_more 2 1 x.1 t x.0 f (omega arith) a (x.3 ∙ l) y.0 y.1 y.2)

  pub names-exist : (t : Catalogue) × (r : ℕ) × NamesPut F S 2 2 blank t r
  names-exist =
      let a = keyed in
      let b = in-sets a.0 (blank-firsts a.0 a.1.kept, blank-seconds a.0 a.1.kept) (sets-kept blank a.0 blank-sets a.1.kept) in
      let c = with-owners b.0 (ap (λ (t : Catalogue). length t.owners) b.1.kept ∙ blank-owners a.0 a.1.kept) in
      let f = words-few F S 2 2 a.0 b.0 c.0 (omega arith) (omega arith) b.1 c.1 in
      let d = with-words c.0 (ap (λ (t : Catalogue). length t.words) c.1.kept ∙ ap (λ (t : Catalogue). length t.words) b.1.kept ∙ blank-words a.0 a.1.kept) f in
      (d.0, d.1, names-put F S 2 2 blank a.0 b.0 c.0 d.0 d.1 a.1 b.1 c.1 d.2)

-- ---- the table

-- `resource`, at place 0, is the parent of resource.self, at place 1, and its owner
pub small_table : Catalogue
small_table = record blank {
  keys = 0 ∷ 2 ∷ replicate 62 0;
  parents = 0 ∷ 1 ∷ replicate 62 0;
  owners = 64 ∷ 0 ∷ replicate 62 0;
  words = record { word = 0; types = 1 } ∷ record { word = 1; types = 2 } ∷ replicate 62 no_word;
  firsts = 3 ∷ replicate 255 0;
  seconds = 1 ∷ 0 ∷ 2 ∷ replicate 253 0;
}

pub small_known : Decoding
small_known = record { width = 2; count = 2; extensions = 0; resource = 0; own = 1; hyphens = false }

pub small_placing : Placing
small_placing = record { words = 2; childed = 1 }

-- a fact of both places
below_two : (P : ℕ → Type 0) → P 0 → P 1 → (a : ℕ) → a < 2 → P a
below_two P p q zero h = p
below_two P p q (suc zero) h = q
below_two P p q (suc (suc a)) h = absurd (omega arith)

abbrev pub small_places : List ℕ
small_places = 0 ∷ 1 ∷ replicate 62 0

pub small-within : (i : ℕ) → i < 2 → get_or small_places i 0 < 64
small-within = below_two (λ i. get_or small_places i 0 < 64) (omega arith) (omega arith)

pub small-few : 2 ≤ 64
small-few = omega arith

abbrev pub small_order : Order
small_order = record { types = record { count = 2; items = small_places; few = small-few; long = refl }; within = small-within }

-- a set of the two types has no other
few-bits : (x a : ℕ) → x < 4 → 2 ≤ a → has_bit x a ≡ false
unfolding has_bit
few-bits x zero l h = absurd (omega arith)
few-bits x (suc zero) l h = absurd (omega arith)
few-bits x (suc (suc a)) l h = let e : x / 2 / 2 ≡ 0 = omega arith in rw e (bit-none a)

two-bits : (x : ℕ) (f : ℕ → Bool) → x < 4 → has_bit x 0 ≡ f 0 → has_bit x 1 ≡ f 1 → Holds 2 x f
two-bits x f l e g zero = e
two-bits x f l e g (suc zero) = g
two-bits x f l e g (suc (suc a)) = few-bits x (suc (suc a)) l (omega arith) ∙ sym (rw (le-ltb (suc (suc a)) 2 (omega arith)))

-- an empty one
no-bits : (x : ℕ) (f : ℕ → Bool) → x ≡ 0 → f 0 ≡ false → f 1 ≡ false → Holds 2 x f
no-bits x f z e g = rw z (two-bits 0 f (omega arith) (bit-none 0 ∙ sym e) (bit-none 1 ∙ sym g))

-- ---- names

firsts-right : (w : ℕ) → w < 256 → Holds 2 (first_at small_table w) (λ a. eqb (get_or (firsts_of small_entries) a 0) w)
unfolding small_table firsts_of tabulate has_bit
firsts-right zero h = two-bits 3 (λ a. eqb (get_or (firsts_of small_entries) a 0) 0) (omega arith) refl refl
firsts-right (suc w) h =
    let past : eqb 0 (suc w) ≡ false = ne_eqb 0 (suc w) (λ e. absurd (omega arith)) in
    no-bits (first_at small_table (suc w)) (λ a. eqb (get_or (firsts_of small_entries) a 0) (suc w)) (zero-at 255 w) past past

seconds-right : (w : ℕ) → w < 256 → Holds 2 (second_at small_table w) (λ a. eqb (second_of (get_or (seconds_of small_entries) a 0)) w)
unfolding small_table seconds_of tabulate has_bit
seconds-right zero h = two-bits 1 (λ a. eqb (second_of (get_or (seconds_of small_entries) a 0)) 0) (omega arith) refl refl
seconds-right (suc zero) h = two-bits 0 (λ a. eqb (second_of (get_or (seconds_of small_entries) a 0)) 1) (omega arith) refl refl
seconds-right (suc (suc zero)) h = two-bits 2 (λ a. eqb (second_of (get_or (seconds_of small_entries) a 0)) 2) (omega arith) refl refl
seconds-right (suc (suc (suc w))) h =
    let v = suc (suc (suc w)) in
    no-bits (second_at small_table v) (λ a. eqb (second_of (get_or (seconds_of small_entries) a 0)) v) (zero-at 253 w) (ne_eqb 0 v (λ e. absurd (omega arith))) (ne_eqb 2 v (λ e. absurd (omega arith)))

names-right : NamesStand (firsts_of small_entries) (seconds_of small_entries) 2 2 small_table 2
unfolding small_table firsts_of seconds_of tabulate count_trailing_zeros
names-right = record {
  key = below_two _ refl refl;
  first = firsts-right;
  second = seconds-right;
  owner = below_two _ refl refl;
  words = refl;
  masks = below_two _ refl refl;
}

-- ---- parents

two-types : length (type_map_of small).types ≡ 2
unfolding type_map_of sort insert name_before bytes_before
two-types = refl

bits-right : (a b : ℕ) → a < 2 → b < 2 → has_bit (parents_at small_table a) b ≡ elem_name (type_at (type_map_of small) b).name (type_at (type_map_of small) a).parents
unfolding small_table has_bit type_map_of sort insert name_before bytes_before
bits-right a b h l =
    below_two (λ a. has_bit (parents_at small_table a) b ≡ elem_name (type_at (type_map_of small) b).name (type_at (type_map_of small) a).parents)
    (below_two (λ b. has_bit (parents_at small_table 0) b ≡ elem_name (type_at (type_map_of small) b).name (type_at (type_map_of small) 0).parents) refl refl b l)
    (below_two (λ b. has_bit (parents_at small_table 1) b ≡ elem_name (type_at (type_map_of small) b).name (type_at (type_map_of small) 1).parents) refl refl b l)
    a h

bits-past : (a b : ℕ) → a < 2 → 2 ≤ b → has_bit (parents_at small_table a) b ≡ false
unfolding small_table
bits-past a b h l = below_two (λ a. has_bit (parents_at small_table a) b ≡ false) (few-bits 0 b (omega arith) l) (few-bits 1 b (omega arith) l) a h

childed-right : (b : ℕ) → b < 2 → has_bit 1 b ≡ any (λ (T : TypeInfo). elem_name (type_at (type_map_of small) b).name T.parents) (type_map_of small).types
unfolding has_bit type_map_of sort insert name_before bytes_before
childed-right = below_two (λ b. has_bit 1 b ≡ any (λ (T : TypeInfo). elem_name (type_at (type_map_of small) b).name T.parents) (type_map_of small).types) refl refl

parents-stand : ParentsStand (type_map_of small) small_table 1
parents-stand = record {
  bits = λ a b h l. bits-right a b (omega (arith, two-types)) (omega (arith, two-types));
  within = λ a b h l. bits-past a b (omega (arith, two-types)) (omega (arith, two-types));
  childed = λ b h. childed-right b (omega (arith, two-types));
}

-- ---- the order

order-right : Ordered small_places 2 small_table.parents
unfolding small_table
order-right = record {
  room = omega arith;
  few = omega arith;
  place = small-within;
  before = λ i p h l e. earlier i p h e;
}
  where
    earlier : (i p : ℕ) → i < 2 → has_bit (get_or (0 ∷ 1 ∷ replicate 62 0) (get_or small_places i 0) 0) p ≡ true → elem p (take i small_places) ≡ true
    earlier zero p h e = never e (bit-none p)
    earlier (suc zero) p h e = let z : 0 ≡ p = eqb-true 0 p (sym (bit-one 0 p) ∙ e) in subst (λ q. elem q (take 1 small_places) ≡ true) z refl
    earlier (suc (suc i)) p h e = absurd (omega arith)

resource-number : 0 ≡ (type_map_of small).resource
unfolding type_map_of number_of
resource-number = refl

-- its types ascend by word numbers
small-numbered : Sorted (λ (P Q : LineType). list_before P.name Q.name ≡ true) (line_map small).types
unfolding line_map_of line_type_of type_map_of sort insert name_before bytes_before
small-numbered =
    map-sorted (λ (a b : Name). list_before a b ≡ true) (λ (D : LineType). D.name) (line_map small).types
    (ascends-sorted list-strict (map (λ (D : LineType). D.name) (line_map small).types) refl)

pub small-stands : Stands small small_bits small_draft small_entries small_order small_table small_known small_placing
unfolding small_known small_placing tabulate
small-stands = record {
  drawn = small-drawn;
  wide = refl;
  word = resource-number;
  names = names-right;
  parents = parents-stand;
  ordered = order-right;
  placed = below_two (λ a. elem a (take 2 small_places) ≡ true) refl refl;
  extensions = refl;
  numbered = λ e. small-numbered;
}

pub small-fillable : Fillable small_bits small_draft small_entries small_order small_table small_known small_placing
small-fillable = record { sheet = small; stands = small-stands }
