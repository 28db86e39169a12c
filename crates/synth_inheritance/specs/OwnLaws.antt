-- An own associate, read from a row of words and a table of dom sets.
use Rattle.std.specs.Prelude.{true, false, cond, List, [], ◌∷◌, ◌++◌, map, ◌⊎◌, ◌≡◌, refl, ℕ, zero, suc, ◌+◌, ◌<◌, ◌≤◌, eqb, ltb, length, get_or, take, set}
use Rattle.std.proofs.Common.{map-id, ⊎_elim, ap₂, ◌∙◌, add-one, not-suc-le-zero, le_of_suc-le-suc, arith, eq-eqb, ne_eqb, eqb-true, ltb-true}
use Rattle.std.proofs.Math.Option.{some}
use Rattle.std.proofs.Math.Path.{sym, ap}
use Rattle.std.proofs.lemmas.Bool.{eqb-false}
use lib.Seq.{take-suc, take-length, get_or-set_same, get_or-set_other, get_or-take, length-take-le}
use Rattle.lists.specs.Lists.{ascends, include, set_of}
use Rattle.lists.specs.Tests.{eqb-flip, by, never, or_left, or_right, and_left, and_right}
use Rattle.lists.specs.Appending.{map-append}
use Rattle.lists.specs.Places.{any-taken}
use Rattle.rows.specs.declared.Row.{Row}
use Rattle.rows.specs.Rows.{has, either, single, none, empty}
use Rattle.rows.specs.RowLaws.{has_either, has-single, has-none}
use Rattle.rows.specs.Lists.{elem, below, between-same, set-places, climbing-numbers}
use Rattle.definitions.specs.Records.{Name, AssociatedResource, associate}
use Rattle.definitions.specs.Inherited.{InheritedAnnotation, dedup_one, dedup_onto, as_associate}
use Rattle.sheet_records.specs.declared.Kind.TheVariants.{Associate, NestAssociate}
use Rattle.synth_annotations.specs.declared.info.AnnotationInfo.{AnnotationInfo}
use Rattle.synth_annotations.specs.Reading.{doms_of, pairs, resources_in, info_of}
use Rattle.synth_dedup.specs.declared.Entry.{Entry}
use Rattle.synth_dedup.specs.declared.inherited.Inherited.{Inherited}
use Rattle.synth_dedup.specs.Entries.{Entries, entries_of, Sound, covers}
use Rattle.synth_dedup.specs.Reading.{resources_at, names_at, read, read_all, table_of, inherited_of, joined, Good, Joins, JoinsAll, under'}
use Rattle.synth_dedup.specs.ReadingLaws.{read_is, same_tables, join-clean}
use Rattle.synth_inheritance.specs.declared.own.OwnAssociate.{OwnAssociate}
use Rattle.synth_inheritance.specs.Kinds.{inherited_kind, handed_on-which}
use Rattle.synth_inheritance.specs.Own.{words_in, rows_in, Own, row_for, WordsOf, DomsWith, handed, handed_own, JoinsOwn, JoinsOwns, JoinsParent}

-- ---- ascending words

map_same : {A : Type 0} (g h : ℕ → A) (l : List ℕ) → ((w : ℕ) → elem w l ≡ true → g w ≡ h w) → map g l ≡ map h l
map_same g h [] e = refl
map_same g h (w ∷ l) e =
    ap₂ (λ x k. x ∷ k) (e w (or_left (elem w l) (eq-eqb w w refl))) (map_same g h l (λ v t. e v (or_right (eqb v w) t)))

-- what ascends is its own set
set-ascending : (l : List ℕ) → ascends ltb l ≡ true → set_of ltb l ≡ l
unfolding set_of include
set-ascending [] e = refl
set-ascending (x ∷ []) e = refl
set-ascending (x ∷ y ∷ l) e =
    let p : ltb x y ≡ true = and_left (ltb x y) (ascends ltb (y ∷ l)) e in
    rw (set-ascending (y ∷ l) (and_right (ltb x y) (ascends ltb (y ∷ l)) e), p)

pub ascending-is : (l : List ℕ) (n : ℕ) → ascends ltb l ≡ true → ((w : ℕ) → elem w l ≡ true → w < n) → below (λ w. elem w l) n ≡ l
ascending-is l n e h =
    sym (map-id (below (λ w. elem w l) n)) ∙ sym (set-places ltb (λ i. i) n (climbing-numbers n) l h) ∙ ap (set_of ltb) (map-id l) ∙ set-ascending l e

-- the first is none of the others
first-apart : (x : ℕ) (l : List ℕ) (w : ℕ) → ascends ltb (x ∷ l) ≡ true → elem w l ≡ true → eqb w x ≡ false
first-apart x [] w e t = never t refl
first-apart x (y ∷ l) w e t =
    let p : x < y = ltb-true x y (and_left (ltb x y) (ascends ltb (y ∷ l)) e) in
    ne_eqb w x (λ q. absurd (omega (arith, above y l w (and_right (ltb x y) (ascends ltb (y ∷ l)) e) t)))
  where
    above : (y : ℕ) (l : List ℕ) (w : ℕ) → ascends ltb (y ∷ l) ≡ true → elem w (y ∷ l) ≡ true → y ≤ w
    above y [] w e t = by (eqb w y) (λ q. omega (arith, eqb-true w y q)) (λ q. never (rw q at t) refl)
    above y (z ∷ l) w e t =
        by (eqb w y)
        (λ q. omega (arith, eqb-true w y q))
        (λ q.
        let r : elem w (z ∷ l) ≡ true = rw q at t in
        omega (arith, ltb-true y z (and_left (ltb y z) (ascends ltb (z ∷ l)) e), above z l w (and_right (ltb y z) (ascends ltb (z ∷ l)) e) r))

rest : (x : ℕ) (l : List ℕ) → ascends ltb (x ∷ l) ≡ true → ascends ltb l ≡ true
rest x [] e = refl
rest x (y ∷ l) e = and_right (ltb x y) (ascends ltb (y ∷ l)) e

-- resources in two arrays, by the words
pairs-are : (ws : List ℕ) (ds : List Row) → length ws ≡ length ds → ascends ltb ws ≡ true
    → map (λ w. record { word = w; doms = doms_of (row_for ws ds w) }) ws ≡ pairs ws ds
pairs-are [] ds e a = refl
pairs-are (v ∷ ws) [] e a = absurd (omega (arith, e))
pairs-are (v ∷ ws) (d ∷ ds) e a =
    ap₂ (λ (x : AssociatedResource) (k : List AssociatedResource). x ∷ k)
    (rw (eq-eqb v v refl) refl)
    (map_same (λ w. record { word = w; doms = doms_of (row_for (v ∷ ws) (d ∷ ds) w) }) (λ w. record { word = w; doms = doms_of (row_for ws ds w) }) ws
    (λ w t. rw (first-apart v ws w a t) refl)
    ∙ pairs-are ws ds (omega (arith, e)) (rest v ws a))

-- ---- one word more

-- the row holds the first i words
abbrev pub Holds : List ℕ → Row → ℕ → Type 0
Holds ws row i = (w : ℕ) → has row w ≡ elem w (take i ws)

pub holds-none : (ws : List ℕ) → Holds ws empty 0
unfolding none
holds-none ws w = has-none empty w refl

pub holds-step : (ws : List ℕ) (row : Row) (i : ℕ) → i < length ws → get_or ws i 0 < 200 → Holds ws row i → Holds ws (either row (single (get_or ws i 0))) (i + 1)
holds-step ws row i h l u w =
    has_either row (single (get_or ws i 0)) w
    ∙ rw (u w, has-single (get_or ws i 0) w (omega arith), any-taken (eqb w) ws i 0 h, eqb-flip (get_or ws i 0) w)

elem-bound : (ws : List ℕ) (n w : ℕ) → ((i : ℕ) → i < n → get_or ws i 0 < 200) → elem w (take n ws) ≡ true → w < 200
elem-bound ws zero w h e = never e refl
elem-bound [] (suc n) w h e = never e refl
elem-bound (v ∷ ws) (suc n) w h e =
    by (eqb w v)
    (λ q. rw (eqb-true w v q) (h 0 (omega arith)))
    (λ q. elem-bound ws n w (λ i l. h (suc i) (omega arith)) (rw q at e))

-- ---- one dom set more

row_snoc : (ws : List ℕ) (ds : List Row) (v : ℕ) (d : Row) (w : ℕ) → length ws ≡ length ds
    → row_for (ws ++ (v ∷ [])) (ds ++ (d ∷ [])) w ≡ cond (elem w ws) (row_for ws ds w) (cond (eqb w v) d empty)
row_snoc [] [] v d w e = refl
row_snoc [] (y ∷ ds) v d w e = absurd (omega (arith, e))
row_snoc (x ∷ ws) [] v d w e = absurd (omega (arith, e))
row_snoc (x ∷ ws) (y ∷ ds) v d w e =
    by (eqb w x)
    (λ q. rw q refl)
    (λ q. rw q (row_snoc ws ds v d w (omega (arith, e))))

elem_at : (l : List ℕ) (i : ℕ) → i < length l → elem (get_or l i 0) l ≡ true
elem_at [] i h = absurd (not-suc-le-zero h)
elem_at (x ∷ l) zero h = or_left (elem x l) (eq-eqb x x refl)
elem_at (x ∷ l) (suc i) h = or_right (eqb (get_or l i 0) x) (elem_at l i (le_of_suc-le-suc h))

new_apart : (l : List ℕ) (i : ℕ) → ascends ltb l ≡ true → i < length l → elem (get_or l i 0) (take i l) ≡ false
new_apart [] i e h = absurd (not-suc-le-zero h)
new_apart (x ∷ l) zero e h = refl
new_apart (x ∷ l) (suc i) e h =
    rw (first-apart x l (get_or l i 0) e (elem_at l i (le_of_suc-le-suc h))) (new_apart l i (rest x l e) (le_of_suc-le-suc h))

-- the table with the dom sets of the first i words
abbrev pub WithFirst : List Row → List ℕ → List Row → List Row → ℕ → Type 0
WithFirst D ws ds E i = (w : ℕ) → w < 200 → table_of E w ≡ joined (table_of D) (λ v. elem v (take i ws)) (row_for (take i ws) (take i ds)) w

module _ (D : List Row) (ws : List ℕ) (ds : List Row) where
  pub first-none : WithFirst D ws ds D 0
  first-none w b = refl

  pub first_step : (E : List Row) (n i : ℕ) → length E ≡ 200 → i < n → n ≤ length ws → n ≤ length ds → ascends ltb (take n ws) ≡ true → get_or ws i 0 < 200
      → WithFirst D ws ds E i → WithFirst D ws ds (set E (get_or ws i 0) (either (table_of E (get_or ws i 0)) (get_or ds i empty))) (i + 1)
  first_step E n i l p q r a b u w c =
      let v = get_or ws i 0 in
      let d = get_or ds i empty in
      let z = either (table_of E v) d in
      let f : elem v (take i ws) ≡ false =
      ap₂ (λ (x : ℕ) (k : List ℕ). elem x k) (sym (get_or-take n ws i 0 p)) (sym (lib.Seq.take-take i n ws (omega arith)))
      ∙ new_apart (take n ws) i a (omega (arith, length-take-le n ws q)) in
      let g : row_for (take (i + 1) ws) (take (i + 1) ds) w ≡ cond (elem w (take i ws)) (row_for (take i ws) (take i ds) w) (cond (eqb w v) d empty) =
      rw (add-one, take-suc ws i 0 (omega arith), take-suc ds i empty (omega arith))
      (row_snoc (take i ws) (take i ds) v d w (length-take-le i ws (omega arith) ∙ sym (length-take-le i ds (omega arith)))) in
      rw (any-taken (eqb w) ws i 0 (omega arith), g)
      (by (eqb w v)
      (λ e.
      let y : w ≡ v = eqb-true w v e in
      let k : elem w (take i ws) ≡ false = ap (λ (x : ℕ). elem x (take i ws)) y ∙ f in
      rw (k, e)
      (ap (λ (x : ℕ). table_of (set E v z) x) y ∙ get_or-set_same E v z empty (omega (arith, l))
      ∙ ap (λ (x : Row). either x d) (ap (table_of E) (sym y) ∙ u w c ∙ rw k refl)))
      (λ e.
      get_or-set_other E v w z empty (eqb-false w v e) ∙ u w c
      ∙ by (elem w (take i ws)) (λ k. rw k refl) (λ k. rw (k, e) refl)))

-- ---- what `inherit_own` ensures

pub own-is : (a : OwnAssociate) → Own a.info
own-is a = record { kind = handed_on-which a.info.kind a.associate; below = a.below; ascending = a.ascending }

associate-of : (a : AnnotationInfo) → (a.kind ≡ Associate) ⊎ (a.kind ≡ NestAssociate) → as_associate (info_of a) ≡ associate (resources_in a)
unfolding info_of
associate-of a k = ⊎_elim (λ (e : a.kind ≡ Associate). rw e refl) (λ (e : a.kind ≡ NestAssociate). rw e refl) k

resources-are : (a : AnnotationInfo) (row : Row) → Own a → WordsOf a row → a.count ≤ length a.words → a.count ≤ length a.doms
    → resources_at (row_for (words_in a) (rows_in a)) row ≡ resources_in a
unfolding resources_at resources_in
resources-are a row o s p q =
    ap (map (λ w. record { word = w; doms = doms_of (row_for (words_in a) (rows_in a) w) }))
    (between-same (has row) (λ w. elem w (words_in a)) 0 200 (λ w b c. s.at w)
    ∙ ascending-is (words_in a) 200 o.ascending (λ w e. elem-bound a.words a.count w o.below e))
    ∙ pairs-are (words_in a) (rows_in a) (length-take-le a.count a.words p ∙ sym (length-take-le a.count a.doms q)) o.ascending

-- the entry of an own associate
abbrev pub entry_of : AnnotationInfo → Row → ℕ → Entry
entry_of a row parent = record { kind = inherited_kind a.kind; words = row; parents = parent }

pub own-sound : (a : AnnotationInfo) (row : Row) (parent : ℕ) → Own a → WordsOf a row → Sound (entry_of a row parent)
own-sound a row parent o s =
    record {
      kind = ⊎_elim (λ (e : a.kind ≡ Associate). rw e refl) (λ (e : a.kind ≡ NestAssociate). rw e refl) o.kind;
      small = s.small;
      words = λ w e. elem-bound a.words a.count w o.below (sym (s.at w) ∙ e);
    }

module _ (h : Inherited) (a : AnnotationInfo) (parent : ℕ) (row : Row) (list : Entries) (ds : List Row) (o : Own a) (s : WordsOf a row)
    (j : Joins h.list (entry_of a row parent) list) (d : DomsWith h.doms a ds) where
  own_read : (names : List Name) → read names (row_for (words_in a) (rows_in a)) (entry_of a row parent) ≡ handed (names_at names parent) a
  unfolding handed
  own_read names =
      read_is names (row_for (words_in a) (rows_in a)) (entry_of a row parent) (own-sound a row parent o s)
      ∙ ap (λ x. record { annotation = x; parents = names_at names parent }) (ap associate (resources-are a row o s d.words d.doms) ∙ sym (associate-of a o.kind))

  own-tables : (w : ℕ) → w < 200 → table_of ds w ≡ joined (table_of h.doms) (has row) (row_for (words_in a) (rows_in a)) w
  own-tables w b = d.at w b ∙ rw (s.at w) refl

  pub joins-own-good : list.count ≤ length list.items → Good list ds
  joins-own-good b =
      let G = row_for (words_in a) (rows_in a) in
      let c = join-clean (table_of h.doms) G (entries_of h.list) (entry_of a row parent) h.good.kept.apart (own-sound a row parent o s) h.good.clean in
      record { fits = b; kept = j.kept; clean = λ w b e. own-tables w b ∙ c w b (ap (λ l. covers l w) (sym j.joins) ∙ e) }

  pub joins-own-by : (g : Good list ds) → JoinsOwn h a parent (record { list = list; doms = ds; good = g })
  unfolding inherited_of
  joins-own-by g =
      let G = row_for (words_in a) (rows_in a) in
      record {
        dedup = λ ws names asc.
            same_tables names (joined (table_of h.doms) (has row) G) (table_of ds) (entries_of list) (λ w b e. own-tables w b)
            ∙ j.dedup ws names asc (table_of h.doms) G h.good.clean
            ∙ ap (λ x. dedup_one ws (read_all names (table_of h.doms) (entries_of h.list)) (some x)) (own_read names);
      }

-- ---- several newcomers

pub onto-append : (ws : List (List ℕ)) (out a b : List InheritedAnnotation) → dedup_onto ws out (a ++ b) ≡ dedup_onto ws (dedup_onto ws out a) b
unfolding dedup_onto
onto-append ws out [] b = refl
onto-append ws out (n ∷ a) b = onto-append ws (dedup_one ws out (some n)) a b

pub onto-step : (ws : List (List ℕ)) (f : OwnAssociate → InheritedAnnotation) (own : List OwnAssociate) (i : ℕ) (d : OwnAssociate) (out : List InheritedAnnotation) → i < length own
    → dedup_one ws (dedup_onto ws out (map f (take i own))) (some (f (get_or own i d))) ≡ dedup_onto ws out (map f (take (i + 1) own))
unfolding dedup_onto
onto-step ws f own i d out h =
    rw (add-one, take-suc own i d h, map-append f (take i own) (get_or own i d ∷ []), onto-append ws out (map f (take i own)) (f (get_or own i d) ∷ []))

pub joins-parent-by : (h f r : Inherited) (own : List OwnAssociate) (count : ℕ) (p : Inherited) (parent : ℕ) → JoinsOwns h own count parent f → JoinsAll f p parent r
    → JoinsParent h own count p parent r
joins-parent-by h f r own count p parent a b =
    record {
      dedup = λ ws names asc.
          b.dedup ws names asc
          ∙ ap (λ z. dedup_onto ws z (map (under' (names_at names parent)) (inherited_of names p))) (a.dedup ws names asc)
          ∙ sym (onto-append ws (inherited_of names h) (map (handed_own (names_at names parent)) (take count own)) (map (under' (names_at names parent)) (inherited_of names p)));
    }

-- ---- the first of an array, as a slice

pub joins-taken : (h : Inherited) (own : List OwnAssociate) (n : ℕ) (p : Inherited) (parent : ℕ) (r : Inherited)
    → JoinsParent h (take n own) (length (take n own)) p parent r → JoinsParent h own n p parent r
joins-taken h own n p parent r j =
    record { dedup = λ ws names asc. rw (take-length (take n own)) at (j.dedup ws names asc) }
