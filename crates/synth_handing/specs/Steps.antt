-- One parent, and one listed parent more.
use Rattle.std.specs.Prelude.{Bool, true, false, List, [], ◌∷◌, ◌++◌, map, ◌≡◌, refl, ℕ, ◌+◌, ◌<◌, ◌^◌, Option, Some, None, is_some}
use Rattle.std.proofs.Common.{append-nil, append_assoc, sym, ap, ap₂, ◌∙◌, add-one, arith}
use Rattle.std.proofs.lemmas.List.{get_or_default}
use lib.ListN.{length, get_or, get_or-map}
use Rattle.lists.specs.Lists.{sort}
use Rattle.lists.specs.Tests.{by}
use Rattle.lists.specs.Appending.{map-map}
use Rattle.rows.specs.Rows.{has_bit}
use Rattle.definitions.specs.Records.{Name, TypeInfo, Sheet}
use Rattle.definitions.specs.Records as records
use Rattle.definitions.specs.Map.{TypeMap, type_map_of}
use Rattle.definitions.specs.Inherited.{InheritedAnnotation, dedup, dedup_onto, own_associates, as_associate, handed_on}
use Rattle.definitions.specs.Synthesis.{only_if}
use Rattle.law_synthesis.specs.Statements.{Ordered}
use Rattle.law_synthesis.specs.Handing.{handed-step}
use Rattle.law_visit.specs.Trail.{got_from}
use Rattle.synth_dedup.specs.declared.inherited.Inherited.{Inherited}
use Rattle.synth_dedup.specs.Entries.{entries_of}
use Rattle.synth_dedup.specs.Reading.{names_at, inherited_of, Nothing, under'}
use Rattle.synth_inheritance.specs.declared.own.OwnAssociate.{OwnAssociate}
use Rattle.synth_inheritance.specs.Own.{handed, handed_own, JoinsParent}
use Rattle.synth_inheritance.specs.OwnLaws.{onto-append}
use Rattle.synth_store.specs.Store.{nothing, Fetched}
use Rattle.synth_store.specs.declared.Saved.{Saved}
use Rattle.synth_store.specs.StoreLaws.{held-count, held-read}
use Rattle.synth_own.specs.Owning as owning
use Rattle.synth_own.specs.Owning.{OwnAssociates, OwnFit, OwnOf}
use Rattle.synth_own.specs.declared.Location.{Location}
use Rattle.order_form.specs.Lists as lists
use Rattle.order_form.specs.Lists.{tab, map-tab}
use Rattle.order_form.specs.Reading.{parent_at, how_many, listed, no_type, type_at}
use Rattle.order_form.specs.declared.Parent.{Parent}
use Rattle.order_form.specs.declared.Parents.{Parents}
use Rattle.law_parents.specs.Listed.{parent-below}
use Rattle.synth_map.specs.HeldMap.{HeldMap}
use Rattle.law_synth_map.specs.HeldLaws.{type-in, parents-below, parents-are, names-ascend}
use Rattle.law_synth_map.specs.Limits.{own-fits}
use Rattle.synth_handing.specs.Handing.{names_of, Stored, hands_under, Takes, TakesIf, place_at, StoredParents, Ready, Gathered}
use Rattle.synth_handing.specs.Naming.{names-one}

-- ---- one parent

-- own associates as the code hands them on are those of the definitions
own-handed : (ps : List Name) (own : List OwnAssociate) (l : List records.AnnotationInfo) → map owning.read_own own ≡ l
    → map (handed_own ps) own ≡ map (λ a. record { annotation = as_associate a; parents = ps }) l
unfolding handed
own-handed ps own l e =
    sym (map-map (λ a. record { annotation = as_associate a; parents = ps }) owning.read_own own) ∙ ap (map (λ a. record { annotation = as_associate a; parents = ps })) e

module _ (h : Inherited) (bs : List Bool) (x : Option Location) (k : Saved) (place : ℕ) (o : OwnAssociates) (f r : Inherited) where
  pub takes-by : OwnOf bs x o → Fetched k f → JoinsParent h o.items o.count f (2 ^ place) r → Takes h bs x k place r
  takes-by w q j =
      record {
        dedup = λ T n g e ws names asc.
            j.dedup ws names asc
            ∙ ap (dedup_onto ws (inherited_of names h))
            (ap₂ (λ (x y : List InheritedAnnotation). x ++ y)
            (own-handed (names_at names (2 ^ place)) (owning.listed o) (own_associates T) (w.reads T n))
            (held-read k g f e q names (names_at names (2 ^ place))));
      }

-- a type without annotations has no own associates
own-none : (T : TypeInfo) → T.annotations ≡ [] → own_associates T ≡ []
unfolding own_associates sort
own-none T e = rw e refl

inherits-none : (names : List Name) (g : Inherited) → g.list.count ≡ 0 → inherited_of names g ≡ []
unfolding inherited_of entries_of
inherits-none names g e = rw e refl

onto-none : (ws : List (List ℕ)) (l : List InheritedAnnotation) → l ≡ dedup_onto ws l []
unfolding dedup_onto
onto-none ws l = refl

pub none-is : {A : Type 0} (x : Option A) → is_some x ≡ false → x ≡ None
none-is None e = refl
none-is (Some y) e = cc

-- one that inherits nothing either hands on nothing
pub takes-nothing : (h : Inherited) (bs : List Bool) (x : Option Location) (k : Saved) (place : ℕ) → x ≡ None → k.words.count ≡ 0 → Takes h bs x k place h
takes-nothing h bs x k place a z =
    record {
      dedup = λ T n g e ws names asc.
          onto-none ws (inherited_of names h)
          ∙ ap (dedup_onto ws (inherited_of names h))
          (sym (ap₂ (λ (x : List records.AnnotationInfo) (y : List InheritedAnnotation). map (λ b. record { annotation = as_associate b; parents = names_at names (2 ^ place) }) x ++ map (under' (names_at names (2 ^ place))) y)
          (own-none T (n.none a))
          (inherits-none names g (sym (held-count k g e) ∙ z))));
    }

-- ---- a parent that is stored

length-names : (m : TypeMap) → length (names_of m) ≡ length m.types
length-names m = lib.ListN.length-map m.types (λ (T : TypeInfo). T.name)

-- what it hands on is what the definitions say
hands-is : (s : Sheet) (bs : List Bool) (ns : List (Option Location)) (p : Parents) → HeldMap s bs ns p → (st : List Saved) (a : ℕ) → a < p.count → (g : Stored (type_map_of s) st a)
    → hands_under (names_at (names_of (type_map_of s)) (2 ^ a)) (type_at (type_map_of s) a) (inherited_of (names_of (type_map_of s)) g.list) ≡ handed_on (type_map_of s) (type_at (type_map_of s) a)
hands-is s bs ns p h st a l g =
    let m = type_map_of s in
    let n : length (names_of m) ≡ p.count = length-names m ∙ sym h.reads.count in
    let z : names_at (names_of m) (2 ^ a) ≡ (type_at m a).name ∷ [] =
    names-one (names_of m) a (omega (arith, n, l)) ∙ ap (λ (x : Name). x ∷ []) (get_or-map (λ (T : TypeInfo). T.name) m.types a no_type) in
    let o : Ordered s = record { readable = h.readable; order = h.order } in
    ap₂ (λ (ps : List Name) (k : List InheritedAnnotation). hands_under ps (type_at m a) k) z g.reads
    ∙ sym (handed-step s o (type_at m a) (type-in s bs ns p h a l))

-- ---- all listed parents

got-snoc : (m : TypeMap) (fs : List Bool) (Ps : List TypeInfo) (f : Bool) (P : TypeInfo) → length fs ≡ length Ps
    → got_from m (fs ++ (f ∷ [])) (Ps ++ (P ∷ [])) ≡ got_from m fs Ps ++ only_if f (handed_on m P)
got-snoc m [] [] f P e = append-nil (only_if f (handed_on m P))
got-snoc m [] (Q ∷ Ps) f P e = absurd (omega (arith, e))
got-snoc m (g ∷ fs) [] f P e = absurd (omega (arith, e))
got-snoc m (g ∷ fs) (Q ∷ Ps) f P e =
    ap (λ (l : List InheritedAnnotation). only_if g (handed_on m Q) ++ l) (got-snoc m fs Ps f P (omega (arith, e)))
    ∙ sym (append_assoc (only_if g (handed_on m Q)) (got_from m fs Ps) (only_if f (handed_on m P)))

-- what the first i listed parents with a flag hand on
abbrev got_upto : TypeMap → Parents → ℕ → ℕ → ℕ → List InheritedAnnotation
got_upto m p t flags i = got_from m (tab (has_bit flags) i) (tab (λ j. type_at m (place_at p t j)) i)

got-step : (m : TypeMap) (p : Parents) (t flags i : ℕ) → got_upto m p t flags (i + 1) ≡ got_upto m p t flags i ++ only_if (has_bit flags i) (handed_on m (type_at m (place_at p t i)))
got-step m p t flags i =
    rw add-one
    (got-snoc m (tab (has_bit flags) i) (tab (λ j. type_at m (place_at p t j)) i) (has_bit flags i) (type_at m (place_at p t i))
    (lists.tab-length (has_bit flags) i ∙ sym (lists.tab-length (λ j. type_at m (place_at p t j)) i)))

-- after the first i listed parents
pub record Gathering (p : Parents) (bs : List Bool) (ns : List (Option Location)) (st : List Saved) (t flags i : ℕ) (out : Inherited) : Type 0 where
  pub reads : (s : Sheet) → HeldMap s bs ns p → StoredParents p (type_map_of s) st t flags
      → inherited_of (names_of (type_map_of s)) out ≡ dedup (type_map_of s).words (got_upto (type_map_of s) p t flags i)

pub gathering-none : (p : Parents) (bs : List Bool) (ns : List (Option Location)) (st : List Saved) (t flags : ℕ) (out : Inherited) → Nothing out → Gathering p bs ns st t flags 0 out
unfolding dedup_onto
gathering-none p bs ns st t flags out n = record { reads = λ s h k. n.none (names_of (type_map_of s)) }

module _ (p : Parents) (bs : List Bool) (ns : List (Option Location)) (st : List Saved) (t flags i : ℕ) (out r : Inherited) (l : i < how_many p t) (low : t < p.count) (c : Gathering p bs ns st t flags i out) where
  -- where the annotations of the parent stand
  abbrev x : Option Location
  x = get_or ns (place_at p t i) None

  -- the parent hands on
  gathering-taken : has_bit flags i ≡ true → Takes out bs x (get_or st (place_at p t i) nothing) (place_at p t i) r → Gathering p bs ns st t flags (i + 1) r
  gathering-taken b k =
      let a = place_at p t i in
      record {
        reads = λ s h w.
            let m = type_map_of s in
            let g = w.at i l b in
            let u : a < p.count = parent-below p t (parents-below s bs ns p h t low) i l in
            k.dedup (type_at m a) (h.noted a u) g.list g.holds m.words (names_of m) (names-ascend s bs ns p h)
            ∙ ap₂ (λ (x y : List InheritedAnnotation). dedup_onto m.words x y) (c.reads s h w) (hands-is s bs ns p h st a u g)
            ∙ sym (onto-append m.words [] (got_upto m p t flags i) (handed_on m (type_at m a)))
            ∙ ap (dedup m.words) (sym (got-step m p t flags i ∙ rw b refl));
      }

  -- whatever a read past the end gives
  pub gathering-more : (d : Saved) → place_at p t i < length st → TakesIf out bs x (get_or st (place_at p t i) d) (place_at p t i) (has_bit flags i) r → Gathering p bs ns st t flags (i + 1) r
  gathering-more d u k =
      by (has_bit flags i)
      (λ b. gathering-taken b (rw (get_or_default st (place_at p t i) d nothing u) at (k.taken b)))
      (λ b.
      record {
        reads = λ s h w.
            ap (inherited_of (names_of (type_map_of s))) (k.passed b) ∙ c.reads s h w
            ∙ ap (dedup (type_map_of s).words) (sym (got-step (type_map_of s) p t flags i ∙ rw b (append-nil (got_upto (type_map_of s) p t flags i))));
      })

module _ (p : Parents) (bs : List Bool) (ns : List (Option Location)) (st : List Saved) (t flags : ℕ) (r : Ready p bs ns st t flags) where
  pub place-low : (i : ℕ) → i < how_many p t → place_at p t i < p.count
  place-low i l = parent-below p t (parents-below r.sheet bs ns p r.held t r.low) i l

  -- and so it is one of the 64
  pub place-under : (n i x : ℕ) → n ≡ how_many p t → i < n → x ≡ place_at p t i → x < 64
  place-under n i x e l f = omega (arith, f, place-low i (omega (arith, e, l)), r.held.reads.most)

  -- what stands there is within the limits
  pub parent-fits : (i : ℕ) → i < how_many p t → OwnFit bs (get_or ns (place_at p t i) None)
  parent-fits i l = own-fits r.sheet bs ns p r.held (place_at p t i) (place-low i l)

-- ---- the end

-- the types that are listed, by places
types-listed : (p : Parents) (t : ℕ) (m : TypeMap) → map (λ (q : Parent). type_at m q.place) (listed p t) ≡ tab (λ j. type_at m (place_at p t j)) (how_many p t)
unfolding listed
types-listed p t m = map-tab (λ (q : Parent). type_at m q.place) (λ i. parent_at p t i) (how_many p t)

pub gathering-all : (p : Parents) (bs : List Bool) (ns : List (Option Location)) (st : List Saved) (t flags i : ℕ) (r : Inherited) → t < p.count → i ≡ how_many p t → Gathering p bs ns st t flags i r → Gathered p bs ns st t flags r
gathering-all p bs ns st t flags i r low e c =
    record {
      reads = λ s h k.
          c.reads s h k
          ∙ ap (dedup (type_map_of s).words)
          (ap (got_upto (type_map_of s) p t flags) e
          ∙ ap (got_from (type_map_of s) (tab (has_bit flags) (how_many p t))) (sym (types-listed p t (type_map_of s)) ∙ sym (parents-are s bs ns p h t low)));
    }
