-- Resources in flat arrays: one more, and those that are kept; dom sets; and what the kinds of two annotations have in common.
use mathlib.Core.Bool.{Bool, true, false, ◌||◌, not, cond, or-false, and-true}
use mathlib.Core.List.{List, [], ◌∷◌, ◌++◌, map, append-nil}
use Rattle.std.specs.Prelude.{◌⊎◌, ◌≡◌, ℕ, zero, suc, ◌+◌, ◌<◌, ◌≤◌, eqb, ltb}
use Rattle.std.proofs.Common.{inl, inr, ⊎_elim, ap₂, ◌∙◌, add-one, le_of_suc-le-suc, not-suc-le-zero, arith, take-suc, take-suc-set, length-take-le}
use Rattle.std.proofs.Math.Path.{refl, sym, ap}
use borrow.Author.Tests.{eq-eqb, ne_eqb, lt-ltb, le-ltb}
use lib.ListN.{length, get_or, take, set}
use Rattle.std.proofs.lemmas.List.{take-set-le}
use Rattle.std.specs.Bool.{then_some}
use Rattle.std.specs.List.{list_any}
use Rattle.lists.specs.Lists.{any, null, filter, set_of, list_before}
use Rattle.lists.specs.Tests.{by, never, or_right, neither}
use Rattle.lists.specs.Appending.{map-append, filter-append, any_append}
use Rattle.rows.specs.declared.Row.{Row}
use Rattle.rows.specs.Rows.{has, either, single, empty}
use Rattle.rows.specs.RowLaws.{has_either, has-single}
use Rattle.rows.specs.Lists.{elem, below, between-same, between-one, elem-between, elem_below, Climbs, set-united}
use Rattle.definitions.specs.Records.{Dom, AssociatedResource}
use Rattle.definitions.specs.Comparisons.{dom_before}
use Rattle.definitions.specs.Checks.{kind_of, resources_of}
use Rattle.definitions.specs.Annotations.{Overlap, nothing, whole, by_word, overlaps, overlap_of, alias_of, same_alias, has_associated_word, doms_in, united, shared, less, some_if, with_resources, unless_empty, intersection_by, intersection, difference_by, difference}
use Rattle.sheet_records.specs.declared.Kind.{Kind}
use Rattle.sheet_records.specs.declared.Kind.TheVariants.{MakeList, Associate, NestAssociate, Alias, Inherit, Derive, NoDerive}
use Rattle.sheet_records.specs.Kinds.{number_of}
use Rattle.synth_annotations.specs.declared.info.AnnotationInfo.{AnnotationInfo}
use Rattle.synth_annotations.specs.Reading.{dom_at, doms_of, pairs, resources_in, of_kind, info_of, part_of, overlap_at, With}

-- ---- resources in two arrays

-- the first k words with their dom sets
abbrev pub upto : ℕ → List ℕ → List Row → List AssociatedResource
upto k ws ds = pairs (take k ws) (take k ds)

-- a word with its dom set
abbrev pub resource : ℕ → Row → AssociatedResource
resource w d = record { word = w; doms = doms_of d }

pairs-snoc : (ws : List ℕ) (ds : List Row) (w : ℕ) (d : Row) → length ws ≡ length ds → pairs (ws ++ (w ∷ [])) (ds ++ (d ∷ [])) ≡ pairs ws ds ++ (resource w d ∷ [])
pairs-snoc [] [] w d e = refl
pairs-snoc [] (x ∷ ds) w d e = absurd (omega (arith, e))
pairs-snoc (v ∷ ws) [] w d e = absurd (omega (arith, e))
pairs-snoc (v ∷ ws) (x ∷ ds) w d e = ap (λ l. resource v x ∷ l) (pairs-snoc ws ds w d (omega (arith, e)))

pub upto_step : (k : ℕ) (ws : List ℕ) (ds : List Row) → k < length ws → k < length ds
    → upto (k + 1) ws ds ≡ upto k ws ds ++ (resource (get_or ws k 0) (get_or ds k empty) ∷ [])
upto_step k ws ds p q =
    rw (add-one, take-suc ws k 0 p, take-suc ds k empty q)
    (pairs-snoc (take k ws) (take k ds) (get_or ws k 0) (get_or ds k empty) (length-take-le k ws (omega arith) ∙ sym (length-take-le k ds (omega arith))))

pub upto-stored : (k : ℕ) (ws : List ℕ) (ds : List Row) (w : ℕ) (d : Row) → k < length ws → k < length ds
    → upto (k + 1) (set ws k w) (set ds k d) ≡ upto k ws ds ++ (resource w d ∷ [])
upto-stored k ws ds w d p q =
    rw (add-one, take-suc-set ws k w p, take-suc-set ds k d q)
    (pairs-snoc (take k ws) (take k ds) w d (length-take-le k ws (omega arith) ∙ sym (length-take-le k ds (omega arith))))

pub upto-over : (k : ℕ) (ws : List ℕ) (ds : List Row) (w : ℕ) (d : Row) → upto k (set ws k w) (set ds k d) ≡ upto k ws ds
upto-over k ws ds w d = rw (take-set-le k ws k w (omega arith), take-set-le k ds k d (omega arith))

pub upto-length : (k : ℕ) (ws : List ℕ) (ds : List Row) → k ≤ length ws → k ≤ length ds → k ≡ length (upto k ws ds)
upto-length zero ws ds p q = refl
upto-length (suc k) [] ds p q = absurd (not-suc-le-zero p)
upto-length (suc k) (w ∷ ws) [] p q = absurd (not-suc-le-zero q)
upto-length (suc k) (w ∷ ws) (d ∷ ds) p q = ap suc (upto-length k ws ds (le_of_suc-le-suc p) (le_of_suc-le-suc q))

-- ---- whether a word stands there, by the words alone

abbrev pub member : List ℕ → ℕ → Bool
member ws w = list_any (λ v. eqb v w) ws

pub member-step : (ws : List ℕ) (j w : ℕ) → j < length ws → member (take (j + 1) ws) w ≡ (member (take j ws) w || eqb (get_or ws j 0) w)
member-step ws j w h = rw (add-one, take-suc ws j 0 h, any_append (λ v. eqb v w) (take j ws) (get_or ws j 0 ∷ []), or-false)

pub member-at : (ws : List ℕ) (n j w : ℕ) → j < n → j < length ws → get_or ws j 0 ≡ w → member (take n ws) w ≡ true
member-at [] n j w p q e = absurd (not-suc-le-zero q)
member-at (v ∷ ws) zero j w p q e = absurd (not-suc-le-zero p)
member-at (v ∷ ws) (suc n) zero w p q e = rw (eq-eqb v w e)
member-at (v ∷ ws) (suc n) (suc j) w p q e = or_right (eqb v w) (member-at ws n j w (le_of_suc-le-suc p) (le_of_suc-le-suc q) e)

pub has-member : (k : ℕ) (ws : List ℕ) (ds : List Row) (w : ℕ) → k ≤ length ws → k ≤ length ds → has_associated_word (upto k ws ds) w ≡ member (take k ws) w
has-member zero ws ds w p q = refl
has-member (suc k) [] ds w p q = refl
has-member (suc k) (v ∷ ws) [] w p q = absurd (not-suc-le-zero q)
has-member (suc k) (v ∷ ws) (d ∷ ds) w p q = ap (λ b. eqb v w || b) (has-member k ws ds w (le_of_suc-le-suc p) (le_of_suc-le-suc q))

-- ---- dom sets

-- one bit is one dom
pub doms-single : (k : ℕ) → k < 201 → doms_of (single k) ≡ dom_at k ∷ []
unfolding doms_of
doms-single k h =
    ap (map dom_at) (between-same (has (single k)) (eqb k) 0 201 (λ j a b. has-single k j (omega arith)) ∙ between-one k 0 201 (omega arith) (omega arith))

pub climbing-doms : Climbs dom_before dom_at 201
unfolding dom_before
climbing-doms = record { up = higher; down = lower; flat = λ i l. same i }
  where
    higher : (i j : ℕ) → i < j → j < 201 → list_before (dom_at i) (dom_at j) ≡ true
    higher zero zero h l = absurd (not-suc-le-zero h)
    higher zero (suc j) h l = refl
    higher (suc i) zero h l = absurd (not-suc-le-zero h)
    higher (suc i) (suc j) h l = rw (lt-ltb i j (omega arith))

    lower : (i j : ℕ) → i < j → j < 201 → list_before (dom_at j) (dom_at i) ≡ false
    lower zero zero h l = refl
    lower zero (suc j) h l = refl
    lower (suc i) zero h l = absurd (not-suc-le-zero h)
    lower (suc i) (suc j) h l = rw (le-ltb j i (omega arith), ne_eqb j i (λ q. absurd (omega arith)))

    same : (i : ℕ) → list_before (dom_at i) (dom_at i) ≡ false
    same zero = refl
    same (suc i) = rw (le-ltb i i (omega arith), eq-eqb i i refl)

-- the doms that the two arrays give a word, as numbers
abbrev pub places_for : ℕ → List ℕ → List Row → List ℕ
places_for w [] ds = []
places_for w (v ∷ ws) [] = []
places_for w (v ∷ ws) (d ∷ ds) = cond (eqb v w) (below (has d) 201) [] ++ places_for w ws ds

doms-places : (w : ℕ) (ws : List ℕ) (ds : List Row) → doms_in (pairs ws ds) w ≡ map dom_at (places_for w ws ds)
unfolding doms_of
doms-places w [] ds = refl
doms-places w (v ∷ ws) [] = refl
doms-places w (v ∷ ws) (d ∷ ds) =
    by (eqb v w)
    (λ e. rw (e, map-append dom_at (below (has d) 201) (places_for w ws ds), doms-places w ws ds))
    (λ e. rw e (doms-places w ws ds))

places-below : (w : ℕ) (ws : List ℕ) (ds : List Row) (k : ℕ) → elem k (places_for w ws ds) ≡ true → k < 201
places-below w [] ds k e = never e refl
places-below w (v ∷ ws) [] k e = never e refl
places-below w (v ∷ ws) (d ∷ ds) k e =
    by (eqb v w)
    (λ t.
    by (elem k (below (has d) 201))
    (λ q. elem_below (has d) k 0 201 q)
    (λ q. places-below w ws ds k (rw (t, any_append (eqb k) (below (has d) 201) (places_for w ws ds), q) at e)))
    (λ t. places-below w ws ds k (rw t at e))

places-snoc : (w : ℕ) (ws : List ℕ) (ds : List Row) (v : ℕ) (d : Row) (k : ℕ) → length ws ≡ length ds
    → elem k (places_for w (ws ++ (v ∷ [])) (ds ++ (d ∷ []))) ≡ (elem k (places_for w ws ds) || elem k (cond (eqb v w) (below (has d) 201) []))
places-snoc w [] [] v d k e = any_append (eqb k) (cond (eqb v w) (below (has d) 201) []) [] ∙ or-false (elem k (cond (eqb v w) (below (has d) 201) []))
places-snoc w [] (y ∷ ds) v d k e = absurd (omega (arith, e))
places-snoc w (x ∷ ws) [] v d k e = absurd (omega (arith, e))
places-snoc w (x ∷ ws) (y ∷ ds) v d k e =
    rw (
      any_append (eqb k) (cond (eqb x w) (below (has y) 201) []) (places_for w (ws ++ (v ∷ [])) (ds ++ (d ∷ []))),
      any_append (eqb k) (cond (eqb x w) (below (has y) 201) []) (places_for w ws ds),
      places-snoc w ws ds v d k (omega (arith, e)),
    )
    (sym (mathlib.Core.Bool.or_assoc (elem k (cond (eqb x w) (below (has y) 201) [])) (elem k (places_for w ws ds)) (elem k (cond (eqb v w) (below (has d) 201) []))))

-- the row holds d's doms and those that the first j resources give the word
abbrev pub Unites : Row → ℕ → List ℕ → List Row → Row → ℕ → Type 0
Unites d w ws ds out j = (k : ℕ) → k < 201 → has out k ≡ (has d k || elem k (places_for w (take j ws) (take j ds)))

module _ (d : Row) (w : ℕ) (ws : List ℕ) (ds : List Row) where
  pub unites-none : Unites d w ws ds d 0
  unites-none k l = sym (or-false (has d k))

  step : (j k : ℕ) → j < length ws → j < length ds
      → elem k (places_for w (take (j + 1) ws) (take (j + 1) ds)) ≡ (elem k (places_for w (take j ws) (take j ds)) || elem k (cond (eqb (get_or ws j 0) w) (below (has (get_or ds j empty)) 201) []))
  step j k p q =
      rw (add-one, take-suc ws j 0 p, take-suc ds j empty q)
      (places-snoc w (take j ws) (take j ds) (get_or ws j 0) (get_or ds j empty) k (length-take-le j ws (omega arith) ∙ sym (length-take-le j ds (omega arith))))

  pub unites-yes : (out : Row) (j : ℕ) → j < length ws → j < length ds → get_or ws j 0 ≡ w → Unites d w ws ds out j → Unites d w ws ds (either out (get_or ds j empty)) (j + 1)
  unites-yes out j p q e u k l =
      has_either out (get_or ds j empty) k
      ∙ rw (u k l, step j k p q, eq-eqb (get_or ws j 0) w e, elem-between (has (get_or ds j empty)) k 0 201 (omega arith) l)
      (mathlib.Core.Bool.or_assoc (has d k) (elem k (places_for w (take j ws) (take j ds))) (has (get_or ds j empty) k))

  pub unites-no : (out : Row) (j : ℕ) → j < length ws → j < length ds → (get_or ws j 0 ≡ w → ⊥) → Unites d w ws ds out j → Unites d w ws ds out (j + 1)
  unites-no out j p q e u k l = rw (u k l, step j k p q, ne_eqb (get_or ws j 0) w e, or-false)

  pub unites-all : (out : Row) (j : ℕ) → Unites d w ws ds out j → doms_of out ≡ set_of dom_before (doms_of d ++ doms_in (upto j ws ds) w)
  unfolding doms_of
  unites-all out j u =
      rw (doms-places w (take j ws) (take j ds))
      (sym (set-united dom_before dom_at 201 climbing-doms (has d) (has out) (places_for w (take j ws) (take j ds)) u (places-below w (take j ws) (take j ds))))

-- ---- a turn of the two loops

module _ (us vs : List AssociatedResource) (u : AssociatedResource) where
  less-yes : has_associated_word vs u.word ≡ false → less (us ++ (u ∷ [])) vs ≡ less us vs ++ (u ∷ [])
  unfolding less
  less-yes e =
      filter-append (λ (x : AssociatedResource). not (has_associated_word vs x.word)) us (u ∷ [])
      ∙ ap (λ z. filter (λ (x : AssociatedResource). not (has_associated_word vs x.word)) us ++ z) (rw e refl)

  less-no : has_associated_word vs u.word ≡ true → less (us ++ (u ∷ [])) vs ≡ less us vs
  unfolding less
  less-no e =
      let z : filter (λ (x : AssociatedResource). not (has_associated_word vs x.word)) (u ∷ []) ≡ [] = rw e refl in
      filter-append (λ (x : AssociatedResource). not (has_associated_word vs x.word)) us (u ∷ [])
      ∙ ap (λ y. filter (λ (x : AssociatedResource). not (has_associated_word vs x.word)) us ++ y) z ∙ append-nil (filter (λ (x : AssociatedResource). not (has_associated_word vs x.word)) us)

  shared-yes : has_associated_word vs u.word ≡ true → shared (us ++ (u ∷ [])) vs ≡ shared us vs ++ (united vs u ∷ [])
  unfolding shared
  shared-yes e =
      ap (map (united vs))
      (filter-append (λ (x : AssociatedResource). has_associated_word vs x.word) us (u ∷ [])
      ∙ ap (λ z. filter (λ (x : AssociatedResource). has_associated_word vs x.word) us ++ z) (rw e refl))
      ∙ map-append (united vs) (filter (λ (x : AssociatedResource). has_associated_word vs x.word) us) (u ∷ [])

  shared-no : has_associated_word vs u.word ≡ false → shared (us ++ (u ∷ [])) vs ≡ shared us vs
  unfolding shared
  shared-no e =
      let z : filter (λ (x : AssociatedResource). has_associated_word vs x.word) (u ∷ []) ≡ [] = rw e refl in
      ap (map (united vs))
      (filter-append (λ (x : AssociatedResource). has_associated_word vs x.word) us (u ∷ [])
      ∙ ap (λ y. filter (λ (x : AssociatedResource). has_associated_word vs x.word) us ++ y) z ∙ append-nil (filter (λ (x : AssociatedResource). has_associated_word vs x.word) us))

module _ (ws out : List ℕ) (ds sets : List Row) (k i : ℕ) (p : i < length ws) (q : i < length ds) (r : k < length out) (s : k < length sets) (vs : List AssociatedResource) where
  pub less-kept : has_associated_word vs (get_or ws i 0) ≡ false → upto k out sets ≡ less (upto i ws ds) vs
      → upto (k + 1) (set out k (get_or ws i 0)) (set sets k (get_or ds i empty)) ≡ less (upto (i + 1) ws ds) vs
  less-kept h e =
      upto-stored k out sets (get_or ws i 0) (get_or ds i empty) r s ∙ ap (λ z. z ++ (resource (get_or ws i 0) (get_or ds i empty) ∷ [])) e
      ∙ sym (less-yes (upto i ws ds) vs (resource (get_or ws i 0) (get_or ds i empty)) h) ∙ ap (λ z. less z vs) (sym (upto_step i ws ds p q))

  pub less-dropped : has_associated_word vs (get_or ws i 0) ≡ true → upto k out sets ≡ less (upto i ws ds) vs
      → upto k (set out k (get_or ws i 0)) (set sets k (get_or ds i empty)) ≡ less (upto (i + 1) ws ds) vs
  less-dropped h e =
      upto-over k out sets (get_or ws i 0) (get_or ds i empty) ∙ e ∙ sym (less-no (upto i ws ds) vs (resource (get_or ws i 0) (get_or ds i empty)) h)
      ∙ ap (λ z. less z vs) (sym (upto_step i ws ds p q))

  pub shared_kept : (d : Row) → doms_of d ≡ set_of dom_before (doms_of (get_or ds i empty) ++ doms_in vs (get_or ws i 0)) → has_associated_word vs (get_or ws i 0) ≡ true
      → upto k out sets ≡ shared (upto i ws ds) vs → upto (k + 1) (set out k (get_or ws i 0)) (set sets k d) ≡ shared (upto (i + 1) ws ds) vs
  shared_kept d f h e =
      upto-stored k out sets (get_or ws i 0) d r s
      ∙ ap₂ (λ (z : List AssociatedResource) (y : List Dom). z ++ (record { word = get_or ws i 0; doms = y } ∷ [])) e f
      ∙ sym (shared-yes (upto i ws ds) vs (resource (get_or ws i 0) (get_or ds i empty)) h) ∙ ap (λ z. shared z vs) (sym (upto_step i ws ds p q))

  pub shared-dropped : (d : Row) → has_associated_word vs (get_or ws i 0) ≡ false → upto k out sets ≡ shared (upto i ws ds) vs
      → upto k (set out k (get_or ws i 0)) (set sets k d) ≡ shared (upto (i + 1) ws ds) vs
  shared-dropped d h e =
      upto-over k out sets (get_or ws i 0) d ∙ e ∙ sym (shared-no (upto i ws ds) vs (resource (get_or ws i 0) (get_or ds i empty)) h)
      ∙ ap (λ z. shared z vs) (sym (upto_step i ws ds p q))

-- ---- kinds

kind-is : (k : Kind) (t : ℕ) (us : List AssociatedResource) → kind_of (of_kind (number_of k) t us) ≡ number_of k
kind-is MakeList t us = refl
kind-is Associate t us = refl
kind-is NestAssociate t us = refl
kind-is Alias t us = refl
kind-is Inherit t us = refl
kind-is Derive t us = refl
kind-is NoDerive t us = refl

-- the decision of the code is the definition's
pub overlap-is : (x y : AnnotationInfo) → overlap_of (info_of x) (info_of y) ≡ overlap_at x.kind y.kind
unfolding overlap_of info_of
overlap-is x y = rw (kind-is x.kind x.tag (resources_in x), kind-is y.kind y.tag (resources_in y))

-- by the case that the kinds decide
module _ (x y : AnnotationInfo) (o : Overlap) (e : overlap_at x.kind y.kind ≡ o) where
  pub intersection-by : intersection_by o (info_of x) (info_of y) ≡ intersection (info_of x) (info_of y)
  unfolding intersection
  intersection-by = ap (λ (q : Overlap). intersection_by q (info_of x) (info_of y)) (sym e ∙ sym (overlap-is x y))

  pub difference-by : difference_by o (info_of x) (info_of y) ≡ difference (info_of x) (info_of y)
  unfolding difference
  difference-by = ap (λ (q : Overlap). difference_by q (info_of x) (info_of y)) (sym e ∙ sym (overlap-is x y))

abbrev pub is_by_word : Overlap → Bool
is_by_word nothing = false
is_by_word whole = false
is_by_word by_word = true

none-there : (l : List Overlap) (j : ℕ) → any is_by_word l ≡ false → is_by_word (get_or l j nothing) ≡ false
none-there [] j h = refl
none-there (o ∷ l) zero h = (neither (is_by_word o) (any is_by_word l) h).0
none-there (o ∷ l) (suc j) h = none-there l j (neither (is_by_word o) (any is_by_word l) h).1

-- only two Associate, or two NestAssociate, are matched by word
by-word : (k j : ℕ) → is_by_word (get_or (get_or overlaps k []) j nothing) ≡ true → ((k ≡ 1) × (j ≡ 1)) ⊎ ((k ≡ 2) × (j ≡ 2))
by-word zero j e = never e (none-there (get_or overlaps 0 []) j refl)
by-word (suc zero) zero e = never e refl
by-word (suc zero) (suc zero) e = inl (refl, refl)
by-word (suc zero) (suc (suc j)) e = never e (none-there (lib.ListN.drop 2 (get_or overlaps 1 [])) j refl)
by-word (suc (suc zero)) zero e = never e refl
by-word (suc (suc zero)) (suc zero) e = never e refl
by-word (suc (suc zero)) (suc (suc zero)) e = inr (refl, refl)
by-word (suc (suc zero)) (suc (suc (suc j))) e = never e (none-there (lib.ListN.drop 3 (get_or overlaps 2 [])) j refl)
by-word (suc (suc (suc zero))) j e = never e (none-there (get_or overlaps 3 []) j refl)
by-word (suc (suc (suc (suc zero)))) j e = never e (none-there (get_or overlaps 4 []) j refl)
by-word (suc (suc (suc (suc (suc zero))))) j e = never e (none-there (get_or overlaps 5 []) j refl)
by-word (suc (suc (suc (suc (suc (suc zero)))))) j e = never e (none-there (get_or overlaps 6 []) j refl)
by-word (suc (suc (suc (suc (suc (suc (suc k))))))) j e = never e (none-there [] j refl)

not_null : (us : List AssociatedResource) → ltb 0 (length us) ≡ not (null us)
not_null [] = refl
not_null (u ∷ us) = lt-ltb 0 (suc (length us)) (omega arith)

-- an annotation, or none
pub part_then : (b : Bool) (x : AnnotationInfo) → part_of (then_some b x) ≡ some_if b (info_of x)
unfolding part_of
part_then true x = refl
part_then false x = refl

-- x with other resources, none if there are none
remade : (x r : AnnotationInfo) (us : List AssociatedResource) → With x us r → with_resources (info_of x) us ≡ info_of r
    → part_of (then_some (ltb 0 r.count) r) ≡ unless_empty (info_of x) us
remade x r us w e = part_then (ltb 0 r.count) r ∙ ap (λ (n : ℕ). some_if (ltb 0 n) (info_of r)) w.count ∙ ap₂ some_if (not_null us) (sym e)

with-is : (k : ℕ) (x r : AnnotationInfo) (us : List AssociatedResource) → With x us r → number_of x.kind ≡ k → with_resources (of_kind k x.tag (resources_in x)) us ≡ of_kind k r.tag us
    → with_resources (info_of x) us ≡ info_of r
unfolding info_of
with-is k x r us w e q =
    ap (λ (j : ℕ). with_resources (of_kind j x.tag (resources_in x)) us) e ∙ q
    ∙ ap₂ (λ (j : ℕ) (vs : List AssociatedResource). of_kind j r.tag vs) (sym (ap number_of w.kind ∙ e)) (sym w.resources)

pub record ByWord (x y : AnnotationInfo) : Type 0 where
  pub left : resources_of (info_of x) ≡ resources_in x
  pub right : resources_of (info_of y) ≡ resources_in y
  pub made : (r : AnnotationInfo) (us : List AssociatedResource) → With x us r → part_of (then_some (ltb 0 r.count) r) ≡ unless_empty (info_of x) us

resources-one : (x : AnnotationInfo) → number_of x.kind ≡ 1 → resources_of (info_of x) ≡ resources_in x
unfolding info_of
resources-one x e = rw e

resources-two : (x : AnnotationInfo) → number_of x.kind ≡ 2 → resources_of (info_of x) ≡ resources_in x
unfolding info_of
resources-two x e = rw e

pub matched-by-word : (x y : AnnotationInfo) → overlap_at x.kind y.kind ≡ by_word → ByWord x y
matched-by-word x y e =
    ⊎_elim
    (λ (w : (number_of x.kind ≡ 1) × (number_of y.kind ≡ 1)).
    record {
      left = resources-one x w.0;
      right = resources-one y w.1;
      made = λ r us q. remade x r us q (with-is 1 x r us q w.0 refl);
    })
    (λ (w : (number_of x.kind ≡ 2) × (number_of y.kind ≡ 2)).
    record {
      left = resources-two x w.0;
      right = resources-two y w.1;
      made = λ r us q. remade x r us q (with-is 2 x r us q w.0 refl);
    })
    (by-word (number_of x.kind) (number_of y.kind) (ap is_by_word e))

-- ---- aliases

no-alias : (k : Kind) (t : ℕ) (us : List AssociatedResource) → (k ≡ Alias → ⊥) → alias_of (of_kind (number_of k) t us) ≡ []
no-alias MakeList t us h = refl
no-alias Associate t us h = refl
no-alias NestAssociate t us h = refl
no-alias Alias t us h = absurd (h refl)
no-alias Inherit t us h = refl
no-alias Derive t us h = refl
no-alias NoDerive t us h = refl

module _ (x y : AnnotationInfo) where
  pub alias-right : (x.kind ≡ Alias → ⊥) → y.kind ≡ Alias → false ≡ same_alias (info_of x) (info_of y)
  unfolding same_alias info_of
  alias-right h e = rw (no-alias x.kind x.tag (resources_in x) h, e)

  pub alias-none : (x.kind ≡ Alias → ⊥) → (y.kind ≡ Alias → ⊥) → true ≡ same_alias (info_of x) (info_of y)
  unfolding same_alias info_of
  alias-none h g = rw (no-alias x.kind x.tag (resources_in x) h, no-alias y.kind y.tag (resources_in y) g)

  pub alias-left : x.kind ≡ Alias → (y.kind ≡ Alias → ⊥) → false ≡ same_alias (info_of x) (info_of y)
  unfolding same_alias info_of
  alias-left e h = rw (e, no-alias y.kind y.tag (resources_in y) h)

  pub alias-both : x.kind ≡ Alias → y.kind ≡ Alias → eqb x.tag y.tag ≡ same_alias (info_of x) (info_of y)
  unfolding same_alias info_of
  alias-both e q = rw (e, q) (sym (and-true (eqb x.tag y.tag)))
