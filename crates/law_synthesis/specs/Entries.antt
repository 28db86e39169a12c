-- One newcomer of the dedup, word by word. Every entry that is handed on is an Associate: it is its resources and its parents.
use Rattle.std.specs.Prelude.{Bool, true, false, not, List, [], ◌∷◌, ◌++◌, map, ◌⊎◌, ◌↔◌, ◌≡◌, refl, ℕ, eqb, ltb}
use mathlib.Core.List.Memᴰ
use Rattle.std.proofs.Common.{inl, inr, ⊎_elim, sym, ap, ap₂, ◌∙◌, subst, eq-eqb, eqb-true}
use Rattle.std.proofs.Math.Option.{Option, none, some}
use Rattle.std.proofs.lemmas.Bool.{not-true}
use Rattle.lists.specs.Lists.{In, Sorted, null, filter, set_of}
use Rattle.lists.specs.Tests.{by, never, cons-elim, any-in, any_of, filter-in, filter-of, each_in, each_of}
use Rattle.lists.specs.Sorting.{sorted-append, sorted_filter, set_is, set-sorted}
use Rattle.definitions.specs.Records.{Name, Dom, AssociatedResource, associate}
use Rattle.definitions.specs.Comparisons.{name_before, dom_before}
use Rattle.definitions.specs.Annotations.{has_associated_word, doms_in, united, shared, less, some_if, overlap_of, intersection, difference}
use Rattle.definitions.specs.Inherited.{InheritedAnnotation, under_parents, shared_entry, rest_entry, to_list, dedup_one, dedup_onto, dedup}
use Rattle.law_orders.specs.Comparisons.{name-strict, dom-strict}
use Rattle.lists.specs.Appending.{map-append}
use Rattle.lists.specs.Permutations.{sorted-map}

-- ---- entries

pub record Entry : Type 0 where
  pub uses : List AssociatedResource
  pub parents : List Name

abbrev pub entry : List AssociatedResource → List Name → Entry
entry us ps = record { uses = us; parents = ps }

abbrev pub as_inherited : Entry → InheritedAnnotation
as_inherited e = record { annotation = associate e.uses; parents = e.parents }

abbrev maybe_inherited : Option Entry → Option InheritedAnnotation
maybe_inherited none = none
maybe_inherited (some e) = some (as_inherited e)

-- an entry without resources falls away
abbrev pub unless_none : List AssociatedResource → List Name → Option Entry
unless_none us ps = some_if (not (null us)) (entry us ps)

abbrev pub rest_of : Entry → Entry → Option Entry
rest_of e n = unless_none (less e.uses n.uses) e.parents

abbrev pub common_of : (ws : List (List ℕ)) → Entry → Entry → Option Entry
common_of ws e n = unless_none (shared e.uses n.uses) (set_of (name_before ws) (e.parents ++ n.parents))

unfoldable pub merge_one : (ws : List (List ℕ)) → List Entry → Option Entry → List Entry
merge_one ws [] none = []
merge_one ws [] (some n) = n ∷ []
merge_one ws (e ∷ l) none = e ∷ l
merge_one ws (e ∷ l) (some n) = to_list (rest_of e n) ++ (to_list (common_of ws e n) ++ merge_one ws l (rest_of n e))

unfoldable pub merge_onto : (ws : List (List ℕ)) → List Entry → List Entry → List Entry
merge_onto ws out [] = out
merge_onto ws out (n ∷ l) = merge_onto ws (merge_one ws out (some n)) l

abbrev pub merged : (ws : List (List ℕ)) → List Entry → List Entry
merged ws l = merge_onto ws [] l

-- ---- this is the dedup of such entries

under-is : (b : Bool) (us : List AssociatedResource) (ps : List Name) → under_parents ps (some_if b (associate us)) ≡ maybe_inherited (some_if b (entry us ps))
under-is true us ps = refl
under-is false us ps = refl

rest-is : (e n : Entry) → rest_entry (as_inherited e) (as_inherited n) ≡ maybe_inherited (rest_of e n)
unfolding rest_entry difference overlap_of
rest-is e n = under-is (not (null (less e.uses n.uses))) (less e.uses n.uses) e.parents

common-is : (ws : List (List ℕ)) (e n : Entry) → shared_entry ws (as_inherited e) (as_inherited n) ≡ maybe_inherited (common_of ws e n)
unfolding shared_entry intersection overlap_of
common-is ws e n = under-is (not (null (shared e.uses n.uses))) (shared e.uses n.uses) (set_of (name_before ws) (e.parents ++ n.parents))

list-is : (o : Option Entry) → to_list (maybe_inherited o) ≡ map as_inherited (to_list o)
list-is none = refl
list-is (some e) = refl

one-is : (ws : List (List ℕ)) (l : List Entry) (o : Option Entry) → dedup_one ws (map as_inherited l) (maybe_inherited o) ≡ map as_inherited (merge_one ws l o)
unfolding dedup_one merge_one
one-is ws [] none = refl
one-is ws [] (some n) = refl
one-is ws (e ∷ l) none = refl
one-is ws (e ∷ l) (some n) =
    let a : to_list (rest_entry (as_inherited e) (as_inherited n)) ≡ map as_inherited (to_list (rest_of e n)) = ap to_list (rest-is e n) ∙ list-is (rest_of e n) in
    let b : to_list (shared_entry ws (as_inherited e) (as_inherited n)) ≡ map as_inherited (to_list (common_of ws e n)) = ap to_list (common-is ws e n) ∙ list-is (common_of ws e n) in
    let c : dedup_one ws (map as_inherited l) (rest_entry (as_inherited n) (as_inherited e)) ≡ map as_inherited (merge_one ws l (rest_of n e)) =
    ap (dedup_one ws (map as_inherited l)) (rest-is n e) ∙ one-is ws l (rest_of n e) in
    ap₂ (λ x y. x ++ y) a (ap₂ (λ x y. x ++ y) b c)
    ∙ sym (map-append as_inherited (to_list (rest_of e n)) (to_list (common_of ws e n) ++ merge_one ws l (rest_of n e))
    ∙ ap (λ k. map as_inherited (to_list (rest_of e n)) ++ k) (map-append as_inherited (to_list (common_of ws e n)) (merge_one ws l (rest_of n e))))

onto-is : (ws : List (List ℕ)) (out l : List Entry) → dedup_onto ws (map as_inherited out) (map as_inherited l) ≡ map as_inherited (merge_onto ws out l)
unfolding dedup_onto merge_onto
onto-is ws out [] = refl
onto-is ws out (n ∷ l) = ap (λ k. dedup_onto ws k (map as_inherited l)) (one-is ws out (some n)) ∙ onto-is ws (merge_one ws out (some n)) l

pub dedup_is : (ws : List (List ℕ)) (l : List Entry) → dedup ws (map as_inherited l) ≡ map as_inherited (merged ws l)
dedup_is ws l = onto-is ws [] l

-- ---- what an entry says of a word: that it has it, with a dom, from a parent

pub data Fact : Type 0 where
  word : Fact
  dom : Dom → Fact
  parent : Name → Fact

-- a list of resources gives the word the dom
pub record GivesDom (us : List AssociatedResource) (r : ℕ) (d : Dom) : Type 0 where
  pub from : AssociatedResource
  pub listed : In from us
  pub of_word : from.word ≡ r
  pub has : In d from.doms

abbrev pub Says : Entry → ℕ → Fact → Type 0
Says e r word = has_associated_word e.uses r ≡ true
Says e r (dom d) = GivesDom e.uses r d
Says e r (parent P) = (has_associated_word e.uses r ≡ true) × In P e.parents

pub has_in : {us : List AssociatedResource} {u : AssociatedResource} {r : ℕ} → In u us → u.word ≡ r → has_associated_word us r ≡ true
has_in {us} {u} {r} i e = any-in (λ (u : AssociatedResource). eqb u.word r) i (eq-eqb u.word r e)

pub has_of : (us : List AssociatedResource) (r : ℕ) → has_associated_word us r ≡ true → (u : AssociatedResource) × In u us × (u.word ≡ r)
has_of us r e = let x = any_of (λ (u : AssociatedResource). eqb u.word r) us e in (x.0, x.1, eqb-true x.0.word r x.2)

pub gives-word : {us : List AssociatedResource} {r : ℕ} {d : Dom} → GivesDom us r d → has_associated_word us r ≡ true
gives-word g = has_in g.listed g.of_word

pub says-word : (e : Entry) (r : ℕ) (f : Fact) → Says e r f → has_associated_word e.uses r ≡ true
says-word e r word s = s
says-word e r (dom d) s = gives-word s
says-word e r (parent P) s = s.0

-- ---- what is left, and what is shared

less-in : {us : List AssociatedResource} (vs : List AssociatedResource) {u : AssociatedResource} → In u us → has_associated_word vs u.word ≡ false → In u (less us vs)
unfolding less
less-in vs i e = filter-in (λ (u : AssociatedResource). not (has_associated_word vs u.word)) i (ap not e)

less-of : (us vs : List AssociatedResource) {u : AssociatedResource} → In u (less us vs) → In u us × (has_associated_word vs u.word ≡ false)
unfolding less
less-of us vs {u} i =
    let x = filter-of (λ (u : AssociatedResource). not (has_associated_word vs u.word)) us i in
    (x.0, not-true (has_associated_word vs u.word) x.1)

shared-in : {us : List AssociatedResource} (vs : List AssociatedResource) {u : AssociatedResource} → In u us → has_associated_word vs u.word ≡ true
    → In (united vs u) (shared us vs)
unfolding shared
shared-in vs i e = Memᴰ.map (united vs) (filter-in (λ (u : AssociatedResource). has_associated_word vs u.word) i e)

shared_of : (us vs : List AssociatedResource) {x : AssociatedResource} → In x (shared us vs)
    → (u : AssociatedResource) × In u us × (has_associated_word vs u.word ≡ true) × (united vs u ≡ x)
unfolding shared
shared_of us vs i =
    let x = Memᴰ.of_map (united vs) (filter (λ (u : AssociatedResource). has_associated_word vs u.word) us) i in
    let y = filter-of (λ (u : AssociatedResource). has_associated_word vs u.word) us x.1 in
    (x.0, y.0, y.1, x.2)

-- the doms that a list gives a word
pub doms-is : (us : List AssociatedResource) (r : ℕ) (d : Dom) → In d (doms_in us r) ↔ GivesDom us r d
doms-is us r d = (
  λ i.
      let x = each_of (λ (u : AssociatedResource). u.doms) (filter (λ (u : AssociatedResource). eqb u.word r) us) i in
      let y = filter-of (λ (u : AssociatedResource). eqb u.word r) us x.1 in
      record { from = x.0; listed = y.0; of_word = eqb-true x.0.word r y.1; has = x.2 },
  λ g.
      each_in (λ (u : AssociatedResource). u.doms)
      (filter-in (λ (u : AssociatedResource). eqb u.word r) g.listed (eq-eqb g.from.word r g.of_word)) g.has,
)

united-is : (vs : List AssociatedResource) (u : AssociatedResource) (d : Dom) → In d (united vs u).doms ↔ (In d u.doms ⊎ GivesDom vs u.word d)
united-is vs u d = (
  λ i.
      ⊎_elim inl (λ j. inr ((doms-is vs u.word d).0 j))
      (Memᴰ.append_cases u.doms ((set_is dom-strict (u.doms ++ doms_in vs u.word) d).0 i)),
  λ c.
      (set_is dom-strict (u.doms ++ doms_in vs u.word) d).1
      (⊎_elim (λ i. Memᴰ.append_left (doms_in vs u.word) i) (λ g. Memᴰ.append_right u.doms ((doms-is vs u.word d).1 g)) c),
)

-- a word of the left that the right lacks
pub less-word : (us vs : List AssociatedResource) (r : ℕ) → (has_associated_word (less us vs) r ≡ true) ↔ ((has_associated_word us r ≡ true) × (has_associated_word vs r ≡ false))
less-word us vs r = (
  λ e.
      let x = has_of (less us vs) r e in
      let y = less-of us vs x.1 in
      (has_in y.0 x.2, subst (λ w. has_associated_word vs w ≡ false) x.2 y.1),
  λ h.
      let x = has_of us r h.0 in
      has_in (less-in vs x.1 (subst (λ w. has_associated_word vs w ≡ false) (sym x.2) h.1)) x.2,
)

pub shared-word : (us vs : List AssociatedResource) (r : ℕ) → (has_associated_word (shared us vs) r ≡ true) ↔ ((has_associated_word us r ≡ true) × (has_associated_word vs r ≡ true))
shared-word us vs r = (
  λ e.
      let x = has_of (shared us vs) r e in
      let y = shared_of us vs x.1 in
      let w : y.0.word ≡ r = ap (λ (u : AssociatedResource). u.word) y.3 ∙ x.2 in
      (has_in y.1 w, subst (λ w. has_associated_word vs w ≡ true) w y.2),
  λ h.
      let x = has_of us r h.0 in
      has_in (shared-in vs x.1 (subst (λ w. has_associated_word vs w ≡ true) (sym x.2) h.1)) x.2,
)

pub less-dom : (us vs : List AssociatedResource) (r : ℕ) (d : Dom) → GivesDom (less us vs) r d ↔ (GivesDom us r d × (has_associated_word vs r ≡ false))
less-dom us vs r d = (
  λ g.
      let y = less-of us vs g.listed in
      (record { from = g.from; listed = y.0; of_word = g.of_word; has = g.has }, subst (λ w. has_associated_word vs w ≡ false) g.of_word y.1),
  λ h.
      let g = h.0 in
      record { from = g.from; listed = less-in vs g.listed (subst (λ w. has_associated_word vs w ≡ false) (sym g.of_word) h.1); of_word = g.of_word; has = g.has },
)

pub shared-dom : (us vs : List AssociatedResource) (r : ℕ) (d : Dom)
    → GivesDom (shared us vs) r d ↔ ((GivesDom us r d ⊎ GivesDom vs r d) × (has_associated_word us r ≡ true) × (has_associated_word vs r ≡ true))
shared-dom us vs r d = (
  λ g.
      let y = shared_of us vs g.listed in
      let w : y.0.word ≡ r = ap (λ (u : AssociatedResource). u.word) y.3 ∙ g.of_word in (
        ⊎_elim
            (λ i. inl (record { from = y.0; listed = y.1; of_word = w; has = i }))
            (λ k. inr (subst (λ w. GivesDom vs w d) w k))
            ((united-is vs y.0 d).0 (subst (λ (u : AssociatedResource). In d u.doms) (sym y.3) g.has)),
        has_in y.1 w,
        subst (λ w. has_associated_word vs w ≡ true) w y.2,
      ),
  λ h.
      ⊎_elim
      (λ (g : GivesDom us r d).
      record {
        from = united vs g.from;
        listed = shared-in vs g.listed (subst (λ w. has_associated_word vs w ≡ true) (sym g.of_word) h.2);
        of_word = g.of_word;
        has = (united-is vs g.from d).1 (inl g.has);
      })
      (λ (g : GivesDom vs r d).
      let x = has_of us r h.1 in
      record {
        from = united vs x.0;
        listed = shared-in vs x.1 (subst (λ w. has_associated_word vs w ≡ true) (sym x.2) h.2);
        of_word = x.2;
        has = (united-is vs x.0 d).1 (inr (subst (λ w. GivesDom vs w d) (sym x.2) g));
      })
      h.0,
)

-- the same of an entry
pub less-says : (e n : Entry) (r : ℕ) (f : Fact) → Says (entry (less e.uses n.uses) e.parents) r f ↔ (Says e r f × (has_associated_word n.uses r ≡ false))
less-says e n r word = less-word e.uses n.uses r
less-says e n r (dom d) = less-dom e.uses n.uses r d
less-says e n r (parent P) =
    let x = less-word e.uses n.uses r in
    (λ h. let y = x.0 h.0 in ((y.0, h.1), y.1), λ h. (x.1 (h.0.0, h.1), h.0.1))

pub shared_says : (ws : List (List ℕ)) (e n : Entry) (r : ℕ) (f : Fact)
    → Says (entry (shared e.uses n.uses) (set_of (name_before ws) (e.parents ++ n.parents))) r f
    ↔ ((Says e r f ⊎ Says n r f) × (has_associated_word e.uses r ≡ true) × (has_associated_word n.uses r ≡ true))
shared_says ws e n r word = let x = shared-word e.uses n.uses r in (λ h. let y = x.0 h in (inl y.0, y.0, y.1), λ h. x.1 (h.1, h.2))
shared_says ws e n r (dom d) = shared-dom e.uses n.uses r d
shared_says ws e n r (parent P) =
    let x = shared-word e.uses n.uses r in (
      λ h.
          let y = x.0 h.0 in (
            ⊎_elim (λ i. inl (y.0, i)) (λ i. inr (y.1, i)) (Memᴰ.append_cases e.parents ((set_is (name-strict ws) (e.parents ++ n.parents) P).0 h.1)),
            y.0,
            y.1,
          ),
      λ h. (
        x.1 (h.1, h.2),
        (set_is (name-strict ws) (e.parents ++ n.parents) P).1
            (⊎_elim (λ i. Memᴰ.append_left n.parents i.1) (λ i. Memᴰ.append_right e.parents i.1) h.0),
      ),
    )

-- ---- what a list of entries says

pub record SaysIn (l : List Entry) (r : ℕ) (f : Fact) : Type 0 where
  pub entry : Entry
  pub listed : In entry l
  pub says : Says entry r f

pub says-more : {l k : List Entry} {r : ℕ} {f : Fact} → ((e : Entry) → In e l → In e k) → SaysIn l r f → SaysIn k r f
says-more h s = record { entry = s.entry; listed = h s.entry s.listed; says = s.says }

pub says-append : (a : List Entry) {b : List Entry} (r : ℕ) (f : Fact) → SaysIn (a ++ b) r f → SaysIn a r f ⊎ SaysIn b r f
says-append a r f s =
    ⊎_elim
    (λ i. inl (record { entry = s.entry; listed = i; says = s.says }))
    (λ i. inr (record { entry = s.entry; listed = i; says = s.says }))
    (Memᴰ.append_cases a s.listed)

pub says_none : {r : ℕ} {f : Fact} → SaysIn [] r f → ⊥
says_none s = Memᴰ.not-nil s.listed

-- an entry that falls away says nothing
pub unless-in : (us : List AssociatedResource) (ps : List Name) (r : ℕ) (f : Fact) → Says (entry us ps) r f → SaysIn (to_list (unless_none us ps)) r f
unless-in [] ps r f s = never (says-word (entry [] ps) r f s) refl
unless-in (u ∷ us) ps r f s = record { entry = entry (u ∷ us) ps; listed = Memᴰ.head refl; says = s }

pub unless-of : (us : List AssociatedResource) (ps : List Name) (r : ℕ) (f : Fact) → SaysIn (to_list (unless_none us ps)) r f → Says (entry us ps) r f
unless-of [] ps r f s = absurd (says_none s)
unless-of (u ∷ us) ps r f s = subst (λ (e : Entry). Says e r f) (Memᴰ.eq_of_singleton s.listed) s.says

-- an entry more adds what it says
pub one_in : (ws : List (List ℕ)) (l : List Entry) (o : Option Entry) (r : ℕ) (f : Fact) → SaysIn l r f ⊎ SaysIn (to_list o) r f → SaysIn (merge_one ws l o) r f
unfolding merge_one
one_in ws [] none r f c = ⊎_elim (λ s. s) (λ s. s) c
one_in ws [] (some n) r f c = ⊎_elim (λ s. absurd (says_none s)) (λ s. s) c
one_in ws (e ∷ l) none r f c = ⊎_elim (λ s. s) (λ s. absurd (says_none s)) c
one_in ws (e ∷ l) (some n) r f c =
    ⊎_elim
    (λ (s : SaysIn (e ∷ l) r f).
    cons-elim s.listed
    (λ q.
    let t : Says e r f = subst (λ (x : Entry). Says x r f) q s.says in
    by (has_associated_word n.uses r)
    (λ w. both (inl t) (says-word e r f t) w)
    (λ w. rest t w))
    (λ i. later (one_in ws l (rest_of n e) r f (inl (record { entry = s.entry; listed = i; says = s.says })))))
    (λ (s : SaysIn (n ∷ []) r f).
    let t : Says n r f = subst (λ (x : Entry). Says x r f) (Memᴰ.eq_of_singleton s.listed) s.says in
    by (has_associated_word e.uses r)
    (λ w. both (inr t) w (says-word n r f t))
    (λ w.
    later (one_in ws l (rest_of n e) r f (inr (unless-in (less n.uses e.uses) n.parents r f ((less-says n e r f).1 (t, w)))))))
    c
  where
    later : SaysIn (merge_one ws l (rest_of n e)) r f → SaysIn (to_list (rest_of e n) ++ (to_list (common_of ws e n) ++ merge_one ws l (rest_of n e))) r f
    later s = says-more (λ x i. Memᴰ.append_right (to_list (rest_of e n)) (Memᴰ.append_right (to_list (common_of ws e n)) i)) s

    rest : Says e r f → has_associated_word n.uses r ≡ false → SaysIn (to_list (rest_of e n) ++ (to_list (common_of ws e n) ++ merge_one ws l (rest_of n e))) r f
    rest t w =
        says-more (λ x i. Memᴰ.append_left (to_list (common_of ws e n) ++ merge_one ws l (rest_of n e)) i)
        (unless-in (less e.uses n.uses) e.parents r f ((less-says e n r f).1 (t, w)))

    both : Says e r f ⊎ Says n r f → has_associated_word e.uses r ≡ true → has_associated_word n.uses r ≡ true
        → SaysIn (to_list (rest_of e n) ++ (to_list (common_of ws e n) ++ merge_one ws l (rest_of n e))) r f
    both t v w =
        says-more (λ x i. Memᴰ.append_right (to_list (rest_of e n)) (Memᴰ.append_left (merge_one ws l (rest_of n e)) i))
        (unless-in (shared e.uses n.uses) (set_of (name_before ws) (e.parents ++ n.parents)) r f ((shared_says ws e n r f).1 (t, v, w)))

-- and nothing else
pub one_of : (ws : List (List ℕ)) (l : List Entry) (o : Option Entry) (r : ℕ) (f : Fact) → SaysIn (merge_one ws l o) r f → SaysIn l r f ⊎ SaysIn (to_list o) r f
unfolding merge_one
one_of ws [] none r f s = inl s
one_of ws [] (some n) r f s = inr s
one_of ws (e ∷ l) none r f s = inl s
one_of ws (e ∷ l) (some n) r f s =
    ⊎_elim
    (λ t. inl (here ((less-says e n r f).0 (unless-of (less e.uses n.uses) e.parents r f t)).0))
    (λ t.
    ⊎_elim
    (λ u.
    ⊎_elim (λ v. inl (here v)) (λ v. inr (new v))
    ((shared_says ws e n r f).0 (unless-of (shared e.uses n.uses) (set_of (name_before ws) (e.parents ++ n.parents)) r f u)).0)
    (λ u.
    ⊎_elim
    (λ v. inl (says-more (λ x i. Memᴰ.tail i) v))
    (λ v. inr (new ((less-says n e r f).0 (unless-of (less n.uses e.uses) n.parents r f v)).0))
    (one_of ws l (rest_of n e) r f u))
    (says-append (to_list (common_of ws e n)) r f t))
    (says-append (to_list (rest_of e n)) r f s)
  where
    here : Says e r f → SaysIn (e ∷ l) r f
    here t = record { entry = e; listed = Memᴰ.head refl; says = t }

    new : Says n r f → SaysIn (n ∷ []) r f
    new t = record { entry = n; listed = Memᴰ.head refl; says = t }

-- ---- no two entries share a word

abbrev pub NoWordShared : Entry → Entry → Type 0
NoWordShared a b = (r : ℕ) → has_associated_word a.uses r ≡ true → has_associated_word b.uses r ≡ true → ⊥

pub alone : (o : Option Entry) → Sorted NoWordShared (to_list o)
alone none = tt
alone (some e) = (λ y i. absurd (Memᴰ.not-nil i), tt)

pub one_apart : (ws : List (List ℕ)) (l : List Entry) (o : Option Entry) → Sorted NoWordShared l → Sorted NoWordShared (merge_one ws l o)
unfolding merge_one
one_apart ws [] none s = tt
one_apart ws [] (some n) s = (λ y i. absurd (Memᴰ.not-nil i), tt)
one_apart ws (e ∷ l) none s = s
one_apart ws (e ∷ l) (some n) s =
    sorted-append NoWordShared (to_list (rest_of e n)) (to_list (common_of ws e n) ++ merge_one ws l (rest_of n e)) (alone (rest_of e n))
    (sorted-append NoWordShared (to_list (common_of ws e n)) (merge_one ws l (rest_of n e)) (alone (common_of ws e n)) (one_apart ws l (rest_of n e) s.1)
    (λ x y i j r p q. later r (common i r p).0 j q))
    (λ x y i j r p q.
    ⊎_elim
    (λ k. never (common k r q).1 (rest i r p).1)
    (λ k. later r (rest i r p).0 k q)
    (Memᴰ.append_cases (to_list (common_of ws e n)) j))
  where
    rest : {x : Entry} → In x (to_list (rest_of e n)) → (r : ℕ) → has_associated_word x.uses r ≡ true → (has_associated_word e.uses r ≡ true) × (has_associated_word n.uses r ≡ false)
    rest {x} i r p = (less-says e n r word).0 (unless-of (less e.uses n.uses) e.parents r word (record { entry = x; listed = i; says = p }))

    common : {x : Entry} → In x (to_list (common_of ws e n)) → (r : ℕ) → has_associated_word x.uses r ≡ true → (has_associated_word e.uses r ≡ true) × (has_associated_word n.uses r ≡ true)
    common {x} i r p =
        let y =
        (shared_says ws e n r word).0
        (unless-of (shared e.uses n.uses) (set_of (name_before ws) (e.parents ++ n.parents)) r word (record { entry = x; listed = i; says = p })) in
        (y.1, y.2)

    -- a word of the first is in no later entry
    later : (r : ℕ) → has_associated_word e.uses r ≡ true → {y : Entry} → In y (merge_one ws l (rest_of n e)) → has_associated_word y.uses r ≡ true → ⊥
    later r w {y} j q =
        ⊎_elim
        (λ (h : SaysIn l r word). s.0 h.entry h.listed r w h.says)
        (λ h. never w ((less-says n e r word).0 (unless-of (less n.uses e.uses) n.parents r word h)).1)
        (one_of ws l (rest_of n e) r word (record { entry = y; listed = j; says = q }))

-- ---- the form of an entry

-- words ascend, each once; so do the doms of a word, and the parents
pub record Ascending (ws : List (List ℕ)) (e : Entry) : Type 0 where
  pub words : Sorted (λ (u v : AssociatedResource). ltb u.word v.word ≡ true) e.uses
  pub doms : (u : AssociatedResource) → In u e.uses → Sorted (λ c d. dom_before c d ≡ true) u.doms
  pub parents : Sorted (λ P Q. name_before ws P Q ≡ true) e.parents

unless-is : (us : List AssociatedResource) (ps : List Name) {x : Entry} → In x (to_list (unless_none us ps)) → x ≡ entry us ps
unless-is [] ps i = absurd (Memᴰ.not-nil i)
unless-is (u ∷ us) ps i = Memᴰ.eq_of_singleton i

rest-ascending : (ws : List (List ℕ)) (e n : Entry) → Ascending ws e → Ascending ws (entry (less e.uses n.uses) e.parents)
unfolding less
rest-ascending ws e n a = record {
  words = sorted_filter (λ (u v : AssociatedResource). ltb u.word v.word ≡ true) (λ (u : AssociatedResource). not (has_associated_word n.uses u.word)) e.uses a.words;
  doms = λ u i. a.doms u (less-of e.uses n.uses i).0;
  parents = a.parents;
}

common-ascending : (ws : List (List ℕ)) (e n : Entry) → Ascending ws e → Ascending ws (entry (shared e.uses n.uses) (set_of (name_before ws) (e.parents ++ n.parents)))
unfolding shared
common-ascending ws e n a = record {
  words =
      sorted-map (λ (u v : AssociatedResource). ltb u.word v.word ≡ true) (λ (u v : AssociatedResource). ltb u.word v.word ≡ true) (united n.uses)
      (filter (λ (u : AssociatedResource). has_associated_word n.uses u.word) e.uses) (λ u v i j p. p)
      (sorted_filter (λ (u v : AssociatedResource). ltb u.word v.word ≡ true) (λ (u : AssociatedResource). has_associated_word n.uses u.word) e.uses a.words);
  doms = λ u i.
      let x = shared_of e.uses n.uses i in
      subst (λ (v : AssociatedResource). Sorted (λ c d. dom_before c d ≡ true) v.doms) x.3 (set-sorted dom-strict (x.0.doms ++ doms_in n.uses x.0.word));
  parents = set-sorted (name-strict ws) (e.parents ++ n.parents);
}

abbrev pub AllAscending : (ws : List (List ℕ)) → List Entry → Type 0
AllAscending ws l = (e : Entry) → In e l → Ascending ws e

pub one-ascending : (ws : List (List ℕ)) (l : List Entry) (o : Option Entry) → AllAscending ws l → AllAscending ws (to_list o) → AllAscending ws (merge_one ws l o)
unfolding merge_one
one-ascending ws [] none a b x i = a x i
one-ascending ws [] (some n) a b x i = b x i
one-ascending ws (e ∷ l) none a b x i = a x i
one-ascending ws (e ∷ l) (some n) a b x i =
    ⊎_elim
    (λ j. subst (Ascending ws) (sym (unless-is (less e.uses n.uses) e.parents j)) (rest-ascending ws e n first))
    (λ j.
    ⊎_elim
    (λ k. subst (Ascending ws) (sym (unless-is (shared e.uses n.uses) (set_of (name_before ws) (e.parents ++ n.parents)) k)) (common-ascending ws e n first))
    (λ k.
    one-ascending ws l (rest_of n e) (λ y h. a y (Memᴰ.tail h))
    (λ y h. subst (Ascending ws) (sym (unless-is (less n.uses e.uses) n.parents h)) (rest-ascending ws n e (b n (Memᴰ.head refl)))) x k)
    (Memᴰ.append_cases (to_list (common_of ws e n)) j))
    (Memᴰ.append_cases (to_list (rest_of e n)) i)
  where
    first : Ascending ws e
    first = a e (Memᴰ.head refl)
