-- The dedup of entries, read, is the definitions' dedup of what was read.
use mathlib.Core.Bool.{Bool, true, false, ◌&&◌, ◌||◌, not}
use mathlib.Core.List.{List, [], ◌∷◌, ◌++◌, map, append-nil}
use Rattle.std.proofs.Math.Option.{some}
use Rattle.std.specs.Prelude.{◌≡◌, ℕ, ◌<◌, eqb, length, drop}
use Rattle.std.proofs.Math.Path.{refl, sym, ap, ap₂}
use Rattle.std.proofs.Common.{◌∙◌, subst, arith}
use borrow.Author.Tests.{not-false}
use Rattle.std.specs.Int.Bits.{bit_or}
use Rattle.std.proofs.Math.ListN.{get_or}
use Rattle.lists.specs.Lists.{any, all, null, filter, set_of, ascends}
use Rattle.lists.specs.Tests.{by, never, and_left, and_right, or_left, or_right, neither, eqb-flip}
use Rattle.lists.specs.Appending.{map-append, map-map, filter_map, any-map, any-alike}
use Rattle.rows.specs.declared.Row.{Row}
use Rattle.rows.specs.Rows.{has, either, common, without, empty, has_bit}
use Rattle.rows.specs.RowLaws.{has-common, has-without, has_either, has-none, some-there, bit-either}
use Rattle.rows.specs.Lists.{elem, below, between_none, map-between, filter-between, elem-between, set-either}
use Rattle.definitions.specs.Records.{Name, Dom, AssociatedResource, associate}
use Rattle.definitions.specs.Comparisons.{name_before, dom_before}
use Rattle.definitions.specs.Annotations.{has_associated_word, doms_in, united, shared, less, some_if, overlap_of, intersection, difference}
use Rattle.definitions.specs.Inherited.{InheritedAnnotation, under_parents, shared_entry, rest_entry, to_list, dedup_one, dedup_onto}
use Rattle.sheet_records.specs.declared.Kind.{Kind}
use Rattle.sheet_records.specs.Kinds.{number_of}
use Rattle.synth_annotations.specs.Reading.{dom_at, doms_of, of_kind}
use Rattle.law_orders.specs.Comparisons.{name-strict}
use Rattle.synth_annotations.specs.Laws.{climbing-doms}
use Rattle.synth_dedup.specs.declared.Entry.{Entry}
use Rattle.synth_dedup.specs.Lists.{filter-one, climbing}
use Rattle.synth_dedup.specs.Entries.{inter, diff, stands, unless_empty, merge, join, join_all, Sound, covers, Apart, nil, cons, Full}
use Rattle.synth_dedup.specs.EntryLaws.{diff_is, inter-is, has-diff, sound-diff, sound-inter, merge-full, merge-empty, join-covers, join_apart}
use Rattle.synth_dedup.specs.Reading.{resources_at, names_at, read, read_all, read_some, joined, Clean, under', under_place}

-- ---- words and dom sets of resources by a table

abbrev pub at : (ℕ → Row) → ℕ → AssociatedResource
at D w = record { word = w; doms = doms_of (D w) }

any-elem : (w : ℕ) (l : List ℕ) → any (λ v. eqb v w) l ≡ elem w l
any-elem w l = any-alike (λ v. eqb v w) (eqb w) (λ v. eqb-flip v w) l

has-at : (D : ℕ → Row) (r : Row) (w : ℕ) → w < 200 → has_associated_word (resources_at D r) w ≡ has r w
unfolding resources_at
has-at D r w h =
    any-map (λ (u : AssociatedResource). eqb u.word w) (at D) (below (has r) 200) ∙ any-elem w (below (has r) 200) ∙ elem-between (has r) w 0 200 (omega arith) h

doms-at : (D : ℕ → Row) (r : Row) (w : ℕ) → w < 200 → has r w ≡ true → doms_in (resources_at D r) w ≡ doms_of (D w)
unfolding resources_at
doms-at D r w h e =
    rw (filter_map (λ (u : AssociatedResource). eqb u.word w) (at D) (below (has r) 200), filter-one (has r) w 0 200 (omega arith) h e) (append-nil (doms_of (D w)))

-- equal rows where the words are
pub same-resources : (D E : ℕ → Row) (r : Row) → ((w : ℕ) → w < 200 → has r w ≡ true → E w ≡ D w) → resources_at E r ≡ resources_at D r
unfolding resources_at
same-resources D E r h = map-between (has r) (has r) (at E) (at D) 0 200 (λ w p q. refl) (λ w p q e. ap (λ (x : Row). record { word = w; doms = doms_of x }) (h w (omega arith) e))

not_right : (a b : Bool) → (a && not b) ≡ true → b ≡ false
not_right true true e = sym e
not_right true false e = refl
not_right false b e = never e refl

-- resources that are kept, by their words
filter-at : (D : ℕ → Row) (p : ℕ → Bool) (r : Row) → filter (λ (u : AssociatedResource). p u.word) (resources_at D r) ≡ map (at D) (below (λ v. has r v && p v) 200)
unfolding resources_at
filter-at D p r = filter_map (λ (u : AssociatedResource). p u.word) (at D) (below (has r) 200) ∙ ap (map (at D)) (filter-between p (has r) 0 200)

opened : (E : ℕ → Row) (r : Row) → resources_at E r ≡ map (at E) (below (has r) 200)
unfolding resources_at
opened E r = refl

unite : (d g : Row) → doms_of (either d g) ≡ set_of dom_before (doms_of d ++ doms_of g)
unfolding doms_of
unite d g = sym (set-either dom_before dom_at 201 climbing-doms (has d) (has g) (has (either d g)) (λ k l. has_either d g k))

module _ (D G E : ℕ → Row) (x y : Row) where
  pub less-is : ((w : ℕ) → w < 200 → has x w ≡ true → has y w ≡ false → E w ≡ D w) → resources_at E (without x y) ≡ less (resources_at D x) (resources_at G y)
  unfolding less
  less-is h =
      opened E (without x y)
      ∙ map-between (has (without x y)) (λ v. has x v && not (has_associated_word (resources_at G y) v)) (at E) (at D) 0 200
      (λ w p q. has-without x y w ∙ ap (λ b. has x w && not b) (sym (has-at G y w (omega arith))))
      (λ w p q e.
      let t : (has x w && not (has y w)) ≡ true = sym (has-without x y w) ∙ e in
      ap (λ (r : Row). record { word = w; doms = doms_of r }) (h w (omega arith) (and_left _ _ t) (not_right (has x w) (has y w) t)))
      ∙ sym (filter-at D (λ v. not (has_associated_word (resources_at G y) v)) x)

  pub shared-is : ((w : ℕ) → w < 200 → has x w ≡ true → has y w ≡ true → E w ≡ either (D w) (G w)) → resources_at E (common x y) ≡ shared (resources_at D x) (resources_at G y)
  unfolding shared
  shared-is h =
      opened E (common x y)
      ∙ map-between (has (common x y)) (λ v. has x v && has_associated_word (resources_at G y) v) (at E) (λ v. united (resources_at G y) (at D v)) 0 200
      (λ w p q. has-common x y w ∙ ap (λ b. has x w && b) (sym (has-at G y w (omega arith))))
      (λ w p q e.
      let t : (has x w && has y w) ≡ true = sym (has-common x y w) ∙ e in
      let s : has y w ≡ true = and_right (has x w) (has y w) t in
      ap (λ (ds : List Dom). record { word = w; doms = ds })
      (ap doms_of (h w (omega arith) (and_left _ _ t) s) ∙ unite (D w) (G w)
      ∙ ap (λ (ds : List Dom). set_of dom_before (doms_of (D w) ++ ds)) (sym (doms-at G y w (omega arith) s))))
      ∙ sym (map-map (united (resources_at G y)) (at D) (below (λ v. has x v && has_associated_word (resources_at G y) v) 200))
      ∙ ap (map (united (resources_at G y))) (sym (filter-at D (λ v. has_associated_word (resources_at G y) v) x))

none-at : (D : ℕ → Row) (r : Row) → Rattle.rows.specs.Rows.none r ≡ true → resources_at D r ≡ []
unfolding resources_at
none-at D r p = ap (map (at D)) (between_none (has r) 0 200 (λ w. has-none r w p))

-- an entry without words has no resources
null_is : (D : ℕ → Row) (e : Entry) → Sound e → not (null (resources_at D e.words)) ≡ stands e
null_is D e s =
    by (Rattle.rows.specs.Rows.none e.words)
    (λ p. rw p (ap (λ us. not (null us)) (none-at D e.words p)))
    (λ p.
    let t = some-there e.words s.small p in
    rw p (there (resources_at D e.words) t.at (has-at D e.words t.at (s.words t.at t.there) ∙ t.there)))
  where
    there : (us : List AssociatedResource) (w : ℕ) → has_associated_word us w ≡ true → not (null us) ≡ true
    there [] w q = never q refl
    there (u ∷ us) w q = refl

-- ---- one entry

under_some : (b : Bool) (ps : List Name) (us : List AssociatedResource)
    → under_parents ps (some_if b (associate us)) ≡ some_if b (record { annotation = associate us; parents = ps })
under_some true ps us = refl
under_some false ps us = refl

read-tables : (names : List Name) (D E : ℕ → Row) (e : Entry) → ((w : ℕ) → w < 200 → has e.words w ≡ true → E w ≡ D w) → read names E e ≡ read names D e
unfolding read
read-tables names D E e h =
    ap (λ us. record { annotation = of_kind (number_of e.kind) 0 us; parents = names_at names e.parents }) (same-resources D E e.words h)

-- an Associate, read
pub read_is : (names : List Name) (D : ℕ → Row) (e : Entry) → Sound e
    → read names D e ≡ record { annotation = associate (resources_at D e.words); parents = names_at names e.parents }
unfolding read
read_is names D e s = ap (λ (k : Kind). record { annotation = of_kind (number_of k) 0 (resources_at D e.words); parents = names_at names e.parents }) s.kind

module _ (ws : List (List ℕ)) (names : List Name) (asc : ascends (name_before ws) names ≡ true) where
  names-either : (p q : ℕ) → set_of (name_before ws) (names_at names p ++ names_at names q) ≡ names_at names (bit_or p q)
  unfolding names_at
  names-either p q =
      set-either (name_before ws) (λ i. get_or names i []) (length names) (climbing (name-strict ws) names asc) (has_bit p) (has_bit q) (has_bit (bit_or p q)) (λ k l. bit-either p q k)

  -- what is left of an entry
  pub rest-is : (D G E : ℕ → Row) (a n : Entry) → Sound a → Sound n
      → ((w : ℕ) → w < 200 → has a.words w ≡ true → has n.words w ≡ false → E w ≡ D w)
      → rest_entry (read names D a) (read names G n) ≡ read_some names E (diff a n)
  unfolding rest_entry difference overlap_of read read_some diff
  rest-is D G E a n s t h =
      let ps = names_at names a.parents in
      let us = less (resources_at D a.words) (resources_at G n.words) in
      let r = without a.words n.words in
      rw (s.kind, t.kind)
      (under_some (not (null us)) ps us
      ∙ ap (λ vs. some_if (not (null vs)) (record { annotation = associate vs; parents = ps })) (sym (less-is D G E a.words n.words h))
      ∙ ap (λ b. some_if b (record { annotation = associate (resources_at E r); parents = ps }))
      (null_is E (record { kind = a.kind; words = r; parents = a.parents }) (subst Sound (diff_is a n s t) (sound-diff a n s t))))

  -- what two entries share
  pub both_is : (D G E : ℕ → Row) (a n : Entry) → Sound a → Sound n
      → ((w : ℕ) → w < 200 → has a.words w ≡ true → has n.words w ≡ true → E w ≡ either (D w) (G w))
      → shared_entry ws (read names D a) (read names G n) ≡ read_some names E (inter a n)
  unfolding shared_entry intersection overlap_of read read_some inter
  both_is D G E a n s t h =
      let ps = names_at names (bit_or a.parents n.parents) in
      let us = shared (resources_at D a.words) (resources_at G n.words) in
      let r = common a.words n.words in
      rw (s.kind, t.kind)
      (under_some (not (null us)) (set_of (name_before ws) (names_at names a.parents ++ names_at names n.parents)) us
      ∙ ap (λ qs. some_if (not (null us)) (record { annotation = associate us; parents = qs })) (names-either a.parents n.parents)
      ∙ ap (λ vs. some_if (not (null vs)) (record { annotation = associate vs; parents = ps })) (sym (shared-is D G E a.words n.words h))
      ∙ ap (λ b. some_if b (record { annotation = associate (resources_at E r); parents = ps }))
      (null_is E (record { kind = a.kind; words = r; parents = bit_or a.parents n.parents }) (subst Sound (inter-is a n s t) (sound-inter a n s t))))

-- ---- the list

-- what the new table E has: dom sets united where a word is shared, and kept or taken where it is not
pub record United (D G E : ℕ → Row) (l : List Entry) (n : Entry) : Type 0 where
  pub kept : (w : ℕ) → w < 200 → covers l w ≡ true → has n.words w ≡ false → E w ≡ D w
  pub both : (w : ℕ) → w < 200 → covers l w ≡ true → has n.words w ≡ true → E w ≡ either (D w) (G w)
  pub new : (w : ℕ) → w < 200 → covers l w ≡ false → has n.words w ≡ true → E w ≡ G w

-- what is left of the newcomer meets what is left of the list
onward : (D G E : ℕ → Row) (a : Entry) (l : List Entry) (n : Entry) → Sound a → Sound n → ((w : ℕ) → has a.words w ≡ true → covers l w ≡ false)
    → United D G E (a ∷ l) n → United D G E l (diff n a)
onward D G E a l n sa s h u =
    record {
      kept = λ w b c e. u.kept w b (or_right (has a.words w) c) (still w c ∙ sym (has-diff n a s sa w) ∙ e);
      both = λ w b c e. u.both w b (or_right (has a.words w) c) (still w c ∙ sym (has-diff n a s sa w) ∙ e);
      new = λ w b c e.
          let q : (has n.words w && not (has a.words w)) ≡ true = sym (has-diff n a s sa w) ∙ e in
          u.new w b (rw (not_right (has n.words w) (has a.words w) q) c) (and_left _ _ q);
    }
  where
    keeps : (x y : Bool) → y ≡ false → x ≡ (x && not y)
    keeps true y e = rw e
    keeps false y e = refl

    still : (w : ℕ) → covers l w ≡ true → has n.words w ≡ (has n.words w && not (has a.words w))
    still w c = keeps (has n.words w) (has a.words w) (by (has a.words w) (λ t. never c (h w t)) (λ t. t))

pub same_tables : (names : List Name) (D E : ℕ → Row) (l : List Entry) → ((w : ℕ) → w < 200 → covers l w ≡ true → E w ≡ D w) → read_all names E l ≡ read_all names D l
same_tables names D E [] h = refl
same_tables names D E (e ∷ l) h =
    ap₂ (λ (x : InheritedAnnotation) (y : List InheritedAnnotation). x ∷ y)
    (read-tables names D E e (λ w b t. h w b (or_left (covers l w) t)))
    (same_tables names D E l (λ w b t. h w b (or_right (has e.words w) t)))

listed : (names : List Name) (E : ℕ → Row) (e : Entry) → read_all names E (unless_empty e) ≡ to_list (read_some names E e)
unfolding unless_empty read_some
listed names E e = by (stands e) (λ p. rw p) (λ p. rw p)

module _ (ws : List (List ℕ)) (names : List Name) (asc : ascends (name_before ws) names ≡ true) (D G E : ℕ → Row) where
  -- a newcomer meets the first entry
  merge_step : (a : Entry) (l : List Entry) (n : Entry) → Sound a → Sound n → United D G E (a ∷ l) n
      → read_all names E (merge l (diff n a)) ≡ dedup_one ws (read_all names D l) (read_some names G (diff n a))
      → read_all names E (merge (a ∷ l) n) ≡ dedup_one ws (read_all names D (a ∷ l)) (some (read names G n))
  unfolding merge dedup_one
  merge_step a l n s t u i =
      map-append (read names E) (unless_empty (diff a n)) (unless_empty (inter a n) ++ merge l (diff n a))
      ∙ ap₂ (λ (x y : List InheritedAnnotation). x ++ y)
      (listed names E (diff a n) ∙ ap to_list (sym (rest-is ws names asc D G E a n s t (λ w b x y. u.kept w b (or_left (covers l w) x) y))))
      (map-append (read names E) (unless_empty (inter a n)) (merge l (diff n a))
      ∙ ap₂ (λ (x y : List InheritedAnnotation). x ++ y)
      (listed names E (inter a n) ∙ ap to_list (sym (both_is ws names asc D G E a n s t (λ w b x y. u.both w b (or_left (covers l w) x) y))))
      (i ∙ ap (dedup_one ws (read_all names D l)) (sym (rest-is ws names asc G D G n a t s (λ w b x y. refl)))))

  -- a newcomer that may have nothing left meets entries with words
  merge-is : (l : List Entry) (n : Entry) → Apart l → Full l → Sound n → United D G E l n → read_all names E (merge l n) ≡ dedup_one ws (read_all names D l) (read_some names G n)
  unfolding merge dedup_one read_some
  merge-is [] n f u s t =
      listed names E n
      ∙ by (stands n)
      (λ p. rw p (ap (λ x. x ∷ []) (read-tables names G E n (λ w b h. t.new w b refl h))))
      (λ p. rw p refl)
  merge-is (a ∷ l) n (cons sa h f) u s t =
      by (stands n)
      (λ p. rw p (merge_step a l n sa s t (merge-is l (diff n a) f (and_right (stands a) (all stands l) u) (sound-diff n a s sa) (onward D G E a l n sa s h t))))
      (λ p.
      let q = not-false _ p in
      ap (read_all names E) (merge-empty (a ∷ l) n (cons sa h f) u s q) ∙ rw p (same_tables names D E (a ∷ l) (λ w b c. t.kept w b c (has-none n.words w q))))

either-empty : (x : Row) → either empty x ≡ x
unfolding either
either-empty x = refl

-- the table united at the newcomer's words
united-joined : (D G : ℕ → Row) (l : List Entry) (n : Entry) → Sound n → Clean D l → United D G (joined D (has n.words) G) l n
united-joined D G l n s c =
    record {
      kept = λ w b x y. rw y refl;
      both = λ w b x y. rw y refl;
      new = λ w b x y. rw (y, c w b x) (either-empty (G w));
    }

module _ (ws : List (List ℕ)) (names : List Name) (asc : ascends (name_before ws) names ≡ true) where
  -- `dedup_inherited_annotations_one`
  pub join_is : (D G : ℕ → Row) (l : List Entry) (n : Entry) → Apart l → Full (drop 1 l) → Sound n → Clean D l
      → read_all names (joined D (has n.words) G) (join l n) ≡ dedup_one ws (read_all names D l) (some (read names G n))
  unfolding join dedup_one
  join_is D G [] n f u s c =
      ap (λ x. x ∷ []) (read-tables names G (joined D (has n.words) G) n (λ w b h. (united-joined D G [] n s c).new w b refl h))
  join_is D G (a ∷ l) n (cons sa h f) u s c =
      let t = united-joined D G (a ∷ l) n s c in
      let E = joined D (has n.words) G in
      merge_step ws names asc D G E a l n sa s t (merge-is ws names asc D G E l (diff n a) f u (sound-diff n a s sa) (onward D G E a l n sa s h t))

pub join-clean : (D G : ℕ → Row) (l : List Entry) (n : Entry) → Apart l → Sound n → Clean D l → Clean (joined D (has n.words) G) (join l n)
join-clean D G l n f s c w b e =
    let q = neither (covers l w) (has n.words w) (sym (join-covers l n f s w) ∙ e) in
    rw q.1 (c w b q.0)

all_rest : (l : List Entry) → Full l → Full (drop 1 l)
all_rest [] u = refl
all_rest (a ∷ l) u = and_right (stands a) (all stands l) u

pub join-full : (l : List Entry) (n : Entry) → Full (drop 1 (join l n))
unfolding join
join-full [] n = refl
join-full (a ∷ l) n = all_rest (merge (a ∷ l) n) (merge-full (a ∷ l) n)

-- ---- several newcomers, of which no two share a word

tables_agree : (D G : ℕ → Row) (n : Entry) (ns : List Entry) (w : ℕ) → (has n.words w ≡ true → covers ns w ≡ false)
    → joined D (covers (n ∷ ns)) G w ≡ joined (joined D (has n.words) G) (covers ns) G w
tables_agree D G n ns w h =
    by (has n.words w)
    (λ p. rw (p, h p))
    (λ p. rw p)

module _ (ws : List (List ℕ)) (names : List Name) (asc : ascends (name_before ws) names ≡ true) (G : ℕ → Row) where
  -- `dedup_inherited_annotations`
  pub join-all-is : (D : ℕ → Row) (l ns : List Entry) → Apart l → Full (drop 1 l) → Clean D l → Apart ns
      → read_all names (joined D (covers ns) G) (join_all l ns) ≡ dedup_onto ws (read_all names D l) (read_all names G ns)
  unfolding join_all dedup_onto
  join-all-is D l [] f u c a = refl
  join-all-is D l (n ∷ ns) f u c (cons s h a) =
      let D₁ = joined D (has n.words) G in
      same_tables names (joined D₁ (covers ns) G) (joined D (covers (n ∷ ns)) G) (join_all (join l n) ns) (λ w b e. tables_agree D G n ns w (h w))
      ∙ join-all-is D₁ (join l n) ns (join_apart l n f s) (join-full l n) (join-clean D G l n f s c) a
      ∙ ap (λ z. dedup_onto ws z (read_all names G ns)) (join_is ws names asc D G l n f u s c)

pub join-all-covers : (l ns : List Entry) → Apart l → Apart ns → (w : ℕ) → covers (join_all l ns) w ≡ (covers l w || covers ns w)
unfolding join_all
join-all-covers l [] f a w = sym (mathlib.Core.Bool.or-false (covers l w))
join-all-covers l (n ∷ ns) f (cons s h a) w =
    join-all-covers (join l n) ns (join_apart l n f s) a w
    ∙ ap (λ b. b || covers ns w) (join-covers l n f s w)
    ∙ mathlib.Core.Bool.or_assoc (covers l w) (has n.words w) (covers ns w)

pub covers-under : (p : ℕ) (l : List Entry) (w : ℕ) → covers (map (under_place p) l) w ≡ covers l w
covers-under p l w = any-map (λ (e : Entry). has e.words w) (under_place p) l

pub sound-under : (p : ℕ) (e : Entry) → Sound e → Sound (under_place p e)
sound-under p e s = record { kind = s.kind; small = s.small; words = s.words }

pub apart-under : (p : ℕ) (l : List Entry) → Apart l → Apart (map (under_place p) l)
apart-under p [] f = nil
apart-under p (e ∷ l) (cons s h f) = cons (sound-under p e s) (λ w t. covers-under p l w ∙ h w t) (apart-under p l f)

pub read_under : (names : List Name) (G : ℕ → Row) (p : ℕ) (l : List Entry)
    → read_all names G (map (under_place p) l) ≡ map (under' (names_at names p)) (read_all names G l)
unfolding read
read_under names G p [] = refl
read_under names G p (e ∷ l) = ap (λ z. read names G (under_place p e) ∷ z) (read_under names G p l)
