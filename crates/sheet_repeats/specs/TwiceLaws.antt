-- Laws of what stands twice.
use Rattle.std.specs.Prelude.{Bool, true, false, ◌&&◌, ◌||◌, cond, ◌≡◌, refl, ℕ, zero, suc, ◌+◌, ◌-◌, ◌/◌, ◌%◌, ◌≤◌, ◌<◌, length, take, drop}
use Rattle.std.specs.List.{IsAllAdjacentAnswer, list_any, range_with_len}
use Rattle.std.proofs.Math.Bool.{not, and-false}
use mathlib.Core.List.Memᴰ
use mathlib.Core.List.Permᴰ
use mathlib.Core.List.{List, [], ◌∷◌, map}
use Rattle.std.proofs.Math.Path.{sym, ap, ap₂}
use Rattle.std.proofs.Common.{◌∙◌, subst, eq-eqb, ne_eqb, eqb-true}
use native.Mathlib.Omega.{arith}
use Rattle.std.proofs.lemmas.Bool.{eqb-false}
use Rattle.std.proofs.Math.Dec.{eqb}
use Rattle.std.proofs.Math.ListN.{get_or}
use Rattle.lists.specs.Lists.{In, Sorted, any, repeats, ascends, insert, sort, same_list}
use Rattle.lists.specs.Tests.{by, never, not_so, same_test, and_left, and_right, and_both, or-false-both, any_none, cons-elim}
use Rattle.lists.specs.Places.{any_step, any-end, repeats-step, repeats-end}
use Rattle.lists.specs.Sorting.{sorted-imp, sorted-ascends, repeats-not, perm-sorted, sort-perm}
use Rattle.lists.specs.Appending.{repeats-map, repeats-alike}
use Rattle.lists.specs.Tabulating.{tabulate, map-tabulate, length-tabulate, get_d_tabulate, tabulate-of}
use Rattle.lists.specs.Strict.{Strict, asymmetric, total}
use Rattle.lists.specs.Lexicographic.{numbers-same}
use Rattle.definitions.specs.Comparisons.{same_name, name_before}
use Rattle.law_orders.specs.Comparisons.{name-strict}
use Rattle.definitions.specs.Checks.{something_twice}
use Rattle.definitions.specs.Records as records
use Rattle.sheet_same.specs.RangeLaws.{any-range}
use Rattle.sheet_same.specs.Repeats.{repeats_in, type_repeats, same_type_name, same_extension_key}
use Rattle.sheet_same.specs.RepeatLaws.{something-twice}
use Rattle.sheet_keys.specs.Keys.{name_of_key}
use Rattle.sheet_notes.specs.Notes.{notes}
use Rattle.sheet_draft.specs.declared.Decoding.{Decoding}
use Rattle.sheet_draft.specs.declared.Draft.{Draft}
use Rattle.sheet_draft.specs.declared.entry.Entry.{Entry}
use Rattle.sheet_draft.specs.Draft.{key_at, place_at, notes_of, notes_at, type_in, types_in}
use Rattle.sheet_draft.specs.Drafted.{no_entry, entry_at, entry_before, entries_of, Entered}
use Rattle.catalogue.specs.declared.Catalogue.{Catalogue}
use Rattle.catalogue.specs.Layout.{extension_key_at}
use Rattle.sheet_extensions.specs.Records.{record_in, records_in}
use Rattle.sheet_repeats.specs.Twice.{apart, keys_in, twice_in}

-- ---- lists

-- only members are compared
repeats-same : {A : Type 0} (s r : A → A → Bool) (l : List A) → ((x y : A) → In x l → In y l → s x y ≡ r x y) → repeats s l ≡ repeats r l
repeats-same s r [] h = refl
repeats-same {A} s r (x ∷ l) h =
    ap₂ (λ (a b : Bool). a || b) (any-same-in l (λ y i. h x y (Memᴰ.head refl) (Memᴰ.tail i)))
    (repeats-same s r l (λ y z i j. h y z (Memᴰ.tail i) (Memᴰ.tail j)))
  where
    any-same-in : (k : List A) → ((y : A) → In y k → s x y ≡ r x y) → any (s x) k ≡ any (r x) k
    any-same-in [] g = refl
    any-same-in (y ∷ k) g = ap₂ (λ (a b : Bool). a || b) (g y (Memᴰ.head refl)) (any-same-in k (λ z i. g z (Memᴰ.tail i)))

-- a list of which no two elements are the same does not repeat one
not-repeats : {A : Type 0} (s : A → A → Bool) (l : List A) → Sorted (λ x y. s x y ≡ false) l → repeats s l ≡ false
not-repeats s [] h = refl
not-repeats s (x ∷ l) h = or-false-both (any_none (s x) l h.0) (not-repeats s l h.1)

-- ---- names

-- two keys are the same where their names are
pub same_key : (a b : ℕ) → same_name (name_of_key a) (name_of_key b) ≡ eqb a b
unfolding name_of_key
same_key a b =
    same_test
    (λ e.
    let f : a / 256 ≡ b / 256 = eqb-true (a / 256) (b / 256) (and_left _ _ e) in
    let s : a % 256 ≡ b % 256 = second (eqb (a % 256) 0) (eqb (b % 256) 0) refl refl (and_right (eqb (a / 256) (b / 256)) _ e) in
    eq-eqb a b (omega (arith, f, s)))
    (λ e. let q = eqb-true a b e in rw q (itself (eqb (b % 256) 0)))
  where
    second : (s t : Bool) → eqb (a % 256) 0 ≡ s → eqb (b % 256) 0 ≡ t →
        same_list eqb (cond s [] ((a % 256 - 1) ∷ [])) (cond t [] ((b % 256 - 1) ∷ [])) ≡ true → a % 256 ≡ b % 256
    second true true p q e = eqb-true (a % 256) 0 p ∙ sym (eqb-true (b % 256) 0 q)
    second true false p q e = never {b = false} e refl
    second false true p q e = never {b = false} e refl
    second false false p q e =
        let r = eqb-true (a % 256 - 1) (b % 256 - 1) (and_left (eqb (a % 256 - 1) (b % 256 - 1)) true e) in
        omega (arith, r, eqb-false (a % 256) 0 p, eqb-false (b % 256) 0 q)

    itself : (t : Bool) → same_name ((b / 256) ∷ cond t [] ((b % 256 - 1) ∷ [])) ((b / 256) ∷ cond t [] ((b % 256 - 1) ∷ [])) ≡ true
    itself true = rw (eq-eqb (b / 256) (b / 256) refl)
    itself false = rw (eq-eqb (b / 256) (b / 256) refl, eq-eqb (b % 256 - 1) (b % 256 - 1) refl)

abbrev same_entry : Entry → Entry → Bool
same_entry e f = eqb e.key f.key

abbrev Apart : Entry → Entry → Type 0
Apart x y = same_entry x y ≡ false

-- a key is that of its name
key-named : (k l : ℕ) → name_of_key k ≡ name_of_key l → k ≡ l
key-named k l e = eqb-true k l (sym (same_key k l) ∙ numbers-same e)

-- of two entries in name order the second does not come before the first
abbrev Behind : List (List ℕ) → Entry → Entry → Type 0
Behind ws x y = entry_before ws y x ≡ false

module _ (ws : List (List ℕ)) where
  abbrev before : Entry → Entry → Bool
  before = entry_before ws

  strict : Strict (name_before ws)
  strict = name-strict ws

  insert-of : (x : Entry) (l : List Entry) {z : Entry} → In z (insert before x l) → In z (x ∷ l)
  unfolding insert
  insert-of x [] i = i
  insert-of x (y ∷ l) i =
      by (before x y)
      (λ b. rw b at i)
      (λ b.
      cons-elim (rw b at i)
      (λ q. Memᴰ.tail (Memᴰ.head q))
      (λ j. cons-elim (insert-of x l j) (λ q. Memᴰ.head q) (λ k. Memᴰ.tail (Memᴰ.tail k))))

  -- what comes before something does not come behind what is not before it
  behind-more : (x y z : Entry) → before x y ≡ true → Behind ws y z → Behind ws x z
  behind-more x y z p q =
      not_so (λ e. never (strict.transitive (name_of_key z.key) (name_of_key x.key) (name_of_key y.key) e p) q)

  behind-insert : (x : Entry) (l : List Entry) → Sorted (Behind ws) l → Sorted (Behind ws) (insert before x l)
  unfolding insert
  behind-insert x [] s = (λ y i. absurd (Memᴰ.not-nil i), tt)
  behind-insert x (y ∷ l) s =
      by (before x y)
      (λ b.
      rw b (
        λ z i. cons-elim i
            (λ e. subst (Behind ws x) (sym e) (not_so (λ f. asymmetric strict (name_of_key x.key) (name_of_key y.key) b f)))
            (λ j. behind-more x y z b (s.0 z j)),
        s,
      ))
      (λ b. rw b (λ z i. cons-elim (insert-of x l i) (λ e. subst (Behind ws y) (sym e) b) (s.0 z), behind-insert x l s.1))

  behind-sort : (l : List Entry) → Sorted (Behind ws) (sort before l)
  unfolding sort
  behind-sort [] = tt
  behind-sort (x ∷ l) = behind-insert x (sort before l) (behind-sort l)

  -- entries in name order of which no two neighbours have one key have no key twice
  apart-all : (l : List Entry) → Sorted (Behind ws) l → ascends apart l ≡ true → Sorted (λ x y. before x y ≡ true) l
  apart-all [] s e = tt
  apart-all (x ∷ []) s e = (λ y i. absurd (Memᴰ.not-nil i), tt)
  apart-all (x ∷ y ∷ l) s e =
      let r = apart-all (y ∷ l) s.1 (and_right (apart x y) (ascends apart (y ∷ l)) e) in
      let n = and_left (apart x y) (ascends apart (y ∷ l)) e in
      let p : before x y ≡ true =
      total strict (name_of_key y.key) (name_of_key x.key) (s.0 y (Memᴰ.head refl))
      (λ q. never n (rw (eq-eqb x.key y.key (sym (key-named y.key x.key q))) refl)) in (
        λ z i. cons-elim i (λ q. subst (λ (w : Entry). before x w ≡ true) (sym q) p)
            (λ j. strict.transitive (name_of_key x.key) (name_of_key y.key) (name_of_key z.key) p (r.0 z j)),
        r,
      )

  before-apart : (x y : Entry) → before x y ≡ true → Apart x y
  before-apart x y p =
      not_so (λ e. never p (rw (eqb-true x.key y.key e) (strict.irreflexive (name_of_key y.key))))

  -- neighbours of the sorted list decide
  neighbours : (l : List Entry) → not (ascends apart (sort before l)) ≡ repeats same_entry l
  neighbours l =
      by (repeats same_entry l)
      (λ e.
      by (ascends apart (sort before l))
      (λ a. never e (not-repeats same_entry l (perm-sorted Apart flip (Permᴰ.symm (sort-perm before l))
      (sorted-imp (sort before l) (λ x y i j h. before-apart x y h) (apart-all (sort before l) (behind-sort l) a)))))
      (λ a. rw (a, e)))
      (λ e.
      let s = perm-sorted Apart flip (sort-perm before l) (repeats-not same_entry l e) in
      rw (e, sorted-ascends apart (sort before l) (sorted-imp (sort before l) (λ x y i j h. ap not h) s)))
    where
      flip : (x y : Entry) → Apart x y → Apart y x
      flip x y h = ne_eqb y.key x.key (λ q. eqb-false x.key y.key h (sym q))

behind : (k : ℕ) → suc k + 1 ≡ suc (k + 1)
behind k = omega arith

-- what the library's test of neighbours answers
pub neighbours-ascend : (l : List Entry) (r : Bool) → IsAllAdjacentAnswer (λ x y b. b ≡ apart x y) l r → r ≡ ascends apart l
neighbours-ascend l true h = sym (up l h)
  where
    up : (l : List Entry) → ((k : ℕ) (d : Entry) → k + 1 < length l → true ≡ apart (get_or l k d) (get_or l (k + 1) d)) → ascends apart l ≡ true
    up [] h = refl
    up (x ∷ []) h = refl
    up (x ∷ y ∷ l) h =
        and_both (sym (h 0 x (omega arith)))
        (up (y ∷ l) (λ k d q. h (suc k) d (omega arith) ∙ ap (λ j. apart (get_or (y ∷ l) k d) (get_or (x ∷ y ∷ l) j d)) (behind k)))
neighbours-ascend l false h = sym (down l h.0 h.1 (h.2 no_entry))
  where
    down : (l : List Entry) (k : ℕ) → k + 1 < length l → false ≡ apart (get_or l k no_entry) (get_or l (k + 1) no_entry) → ascends apart l ≡ false
    down [] k q e = absurd (omega arith)
    down (x ∷ []) k q e = absurd (omega arith)
    down (x ∷ y ∷ l) zero q e = ap (λ b. b && ascends apart (y ∷ l)) (sym e)
    down (x ∷ y ∷ l) (suc k) q e =
        let s = e ∙ ap (λ j. apart (get_or (y ∷ l) k no_entry) (get_or (x ∷ y ∷ l) j no_entry)) (behind k) in
        ap (λ b. apart x y && b) (down (y ∷ l) k (omega arith) s) ∙ and-false (apart x y)

module _ (W : ℕ) (bs : List Bool) (d : Draft) (n : ℕ) where
  as-entries : types_in W bs d n ≡ map (λ (e : Entry). type_in W bs d e.row) (entries_of d n)
  unfolding types_in entries_of
  as-entries = sym (map-tabulate (λ (e : Entry). type_in W bs d e.row) (entry_at d) n)

  key-of-entry : (e : Entry) → In e (entries_of d n) → key_at d e.row ≡ e.key
  unfolding entries_of
  key-of-entry e i =
      let r = tabulate-of (entry_at d) n i in
      subst (λ (x : Entry). key_at d x.row ≡ x.key) (sym r.2) refl

  -- two types have one name exactly if two neighbours do
  pub names-twice : (ws : List (List ℕ)) (entries : List Entry) → Entered ws d entries n → not (ascends apart (take n entries)) ≡ repeats same_type_name (types_in W bs d n)
  unfolding type_in
  names-twice ws entries en =
      ap (λ (l : List Entry). not (ascends apart l)) en.sorted
      ∙ neighbours ws (entries_of d n)
      ∙ sym (ap (repeats same_type_name) as-entries
      ∙ repeats-map same_type_name (λ (e : Entry). type_in W bs d e.row) (entries_of d n)
      ∙ repeats-same _ same_entry (entries_of d n)
      (λ x y i j. same_key (key_at d x.row) (key_at d y.row) ∙ ap₂ eqb (key-of-entry x i) (key-of-entry y j)))

-- ---- extension records

pub length-keys : (t : Catalogue) (n : ℕ) → length (keys_in t n) ≡ n
unfolding keys_in
length-keys t n = length-tabulate (extension_key_at t) n

pub key_in : (t : Catalogue) (n i : ℕ) → i < n → get_or (keys_in t n) i 0 ≡ extension_key_at t i
unfolding keys_in
key_in t n i h = get_d_tabulate (extension_key_at t) n i 0 h

-- a test of the keys from a place on
pub keys-any : (t : Catalogue) (n key from : ℕ) →
    list_any (λ j. eqb key (extension_key_at t j)) (range_with_len from (n - from)) ≡ any (eqb key) (drop from (keys_in t n))
keys-any t n key from =
    any-range
    (λ j. eqb key (extension_key_at t j))
    (λ j. any (eqb key) (drop j (keys_in t n)))
    n
    (λ j h. any_step (eqb key) (keys_in t n) j 0 (omega (arith, length-keys t n)) ∙ rw (key_in t n j h))
    (λ j h. any-end (eqb key) (keys_in t n) j (omega (arith, length-keys t n)))
    from

-- a key and the keys behind it
pub keys-behind : (t : Catalogue) (n : ℕ) →
    list_any (λ i. any (eqb (extension_key_at t i)) (drop (i + 1) (keys_in t n))) (range_with_len 0 (n - 0)) ≡ repeats eqb (keys_in t n)
keys-behind t n =
    any-range
    (λ i. any (eqb (extension_key_at t i)) (drop (i + 1) (keys_in t n)))
    (λ i. repeats eqb (drop i (keys_in t n)))
    n
    (λ i h. repeats-step eqb (keys_in t n) i 0 (omega (arith, length-keys t n)) ∙ rw (key_in t n i h))
    (λ i h. repeats-end eqb (keys_in t n) i (omega (arith, length-keys t n)))
    0

same-record : (k l : ℕ) → (same_name (name_of_key (k / 256)) (name_of_key (l / 256)) && eqb (k % 256) (l % 256)) ≡ eqb k l
same-record k l =
    ap (λ (b : Bool). b && eqb (k % 256) (l % 256)) (same_key (k / 256) (l / 256))
    ∙ same_test
    (λ e.
    let f = eqb-true (k / 256) (l / 256) (and_left (eqb (k / 256) (l / 256)) (eqb (k % 256) (l % 256)) e) in
    let s = eqb-true (k % 256) (l % 256) (and_right (eqb (k / 256) (l / 256)) (eqb (k % 256) (l % 256)) e) in
    eq-eqb k l (omega (arith, f, s)))
    (λ e. let q = eqb-true k l e in rw q (and_both (eq-eqb (l / 256) (l / 256) refl) (eq-eqb (l % 256) (l % 256) refl)))

-- name and word are the same exactly if the keys are
pub keys-twice : (t : Catalogue) (n : ℕ) → repeats eqb (keys_in t n) ≡ repeats same_extension_key (records_in t n)
unfolding keys_in records_in record_in
keys-twice t n =
    let is : List ℕ = tabulate (λ i. i) n in
    ap (repeats eqb) (sym (map-tabulate (extension_key_at t) (λ i. i) n))
    ∙ repeats-map eqb (extension_key_at t) is
    ∙ sym (ap (repeats same_extension_key) (sym (map-tabulate (record_in t) (λ i. i) n))
    ∙ repeats-map same_extension_key (record_in t) is
    ∙ repeats-alike _ (λ i j. eqb (extension_key_at t i) (extension_key_at t j)) (λ i j. same-record (extension_key_at t i) (extension_key_at t j)) is)

-- ---- within a type

pub length_types : (W : ℕ) (bs : List Bool) (d : Draft) (n : ℕ) → length (types_in W bs d n) ≡ n
unfolding types_in
length_types W bs d n = length-tabulate (type_in W bs d) n

pub row-repeats : (W : ℕ) (bs : List Bool) (d : Draft) (n i : ℕ) (T : records.TypeInfo) → i < n →
    type_repeats (get_or (types_in W bs d n) i T) ≡ repeats_in (notes_of (notes W (eqb (key_at d i % 256) 0) (drop (place_at d i) bs))).annotations
unfolding types_in type_in notes_at
row-repeats W bs d n i T h = ap type_repeats (get_d_tabulate (type_in W bs d) n i T h)

-- the test of one type
abbrev pub row_repeats : ℕ → List Bool → Draft → ℕ → Bool
row_repeats W bs d i = repeats_in (notes_of (notes W (eqb (key_at d i % 256) 0) (drop (place_at d i) bs))).annotations

pub types-repeat : (W : ℕ) (bs : List Bool) (d : Draft) (n : ℕ) → list_any (row_repeats W bs d) (range_with_len 0 (n - 0)) ≡ any type_repeats (types_in W bs d n)
types-repeat W bs d n =
    let T = type_in W bs d 0 in
    let L = types_in W bs d n in
    any-range
    (row_repeats W bs d)
    (λ i. any type_repeats (drop i L))
    n
    (λ i h. any_step type_repeats L i T (omega (arith, length_types W bs d n)) ∙ rw (row-repeats W bs d n i T h))
    (λ i h. any-end type_repeats L i (omega (arith, length_types W bs d n)))
    0

-- ---- refusal 6

pub twice-is : (s : records.Sheet) (bs : List Bool) (d : Draft) (entries : List Entry) (t : Catalogue) (n : Decoding) → n.count ≤ 64 → Entered s.words d entries n.count → n.width ≡ length s.words
    → types_in n.width bs d n.count ≡ s.types → records_in t n.extensions ≡ s.extensions → twice_in n bs d entries t ≡ something_twice s
twice-is s bs d entries t n few en w ts es =
    rw (names-twice n.width bs d n.count s.words entries en, keys-twice t n.extensions, ts, es) (sym (something-twice s))
