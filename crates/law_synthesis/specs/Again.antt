-- To merge again what was merged changes nothing.
use Rattle.std.specs.Prelude.{Bool, false, not, ◌≡◌, ℕ, ◌≤◌, length}
use Rattle.std.proofs.Math.Bool.{true}
use mathlib.Core.List.Memᴰ
use mathlib.Core.List.{List, [], ◌∷◌, ◌++◌, map}
use Rattle.std.proofs.Common.{inl, inr, sym, ap₂, ◌∙◌, arith}
use Rattle.std.proofs.Math.Logic.{⊎_elim}
use Rattle.std.proofs.Math.Option.{Option, none, some}
use Rattle.std.proofs.Math.Path.{refl, ap, subst}
use Rattle.lists.specs.Lists.{In, Sorted, set_of}
use Rattle.lists.specs.Tests.{by, never, not_so, same_test, cons-elim, filter-all}
use Rattle.definitions.specs.Records.{Name, Dom, AssociatedResource}
use Rattle.definitions.specs.Comparisons.{name_before, dom_before}
use Rattle.definitions.specs.Annotations.{has_associated_word, doms_in, united, shared, less}
use Rattle.definitions.specs.Inherited.{InheritedAnnotation, to_list, dedup}
use Rattle.law_orders.specs.Comparisons.{name-strict, dom-strict}
use Rattle.lists.specs.Members.{filter_none}
use Rattle.lists.specs.Appending.{map-self, map-map, map-append}
use Rattle.law_synthesis.specs.Statements.{words_given, MergedAgain}
use Rattle.law_synthesis.specs.Entries.{Entry, entry, as_inherited, unless_none, rest_of, common_of, merge_one, merge_onto, merged, dedup_is, word, dom, parent, GivesDom, has_in, has_of, doms-is, less-word, less-says, shared_says, SaysIn, says_none, unless-in, unless-of, one_in, NoWordShared, one_apart, Ascending, AllAscending}
use Rattle.law_synthesis.specs.Merged.{use-doms, ascending-is, merged-says, merged-apart, merged-ascending, merged-entry, Full, AllFull, onto-alone, words_of}
use Rattle.law_synthesis.specs.Dedup.{entry_of, entry-back, entry-ascending, words-given}

-- ---- of each entry a set of words has all or none

abbrev Uniform : (ℕ → Bool) → Entry → Type 0
Uniform p e = (r q : ℕ) → has_associated_word e.uses r ≡ true → has_associated_word e.uses q ≡ true → p r ≡ p q

uniform-part : (p : ℕ → Bool) (e x : Entry) → ((r : ℕ) → has_associated_word x.uses r ≡ true → has_associated_word e.uses r ≡ true) → Uniform p e → Uniform p x
uniform-part p e x h u r q v w = u r q (h r v) (h q w)

uniform-true : (p : ℕ → Bool) (e : Entry) → ((r : ℕ) → has_associated_word e.uses r ≡ true → p r ≡ true) → Uniform p e
uniform-true p e h r q v w = h r v ∙ sym (h q w)

uniform-false : (p : ℕ → Bool) (e : Entry) → ((r : ℕ) → has_associated_word e.uses r ≡ true → p r ≡ true → ⊥) → Uniform p e
uniform-false p e h r q v w = not_so (h r v) ∙ sym (not_so (h q w))

module _ (ws : List (List ℕ)) (p : ℕ → Bool) where
  rest_in : (e n : Entry) {x : Entry} → In x (to_list (rest_of e n)) → (r : ℕ) → has_associated_word x.uses r ≡ true → (has_associated_word e.uses r ≡ true) × (has_associated_word n.uses r ≡ false)
  rest_in e n {x} i r w = (less-says e n r word).0 (unless-of (less e.uses n.uses) e.parents r word (record { entry = x; listed = i; says = w }))

  common-in : (e n : Entry) {x : Entry} → In x (to_list (common_of ws e n)) → (r : ℕ) → has_associated_word x.uses r ≡ true → (has_associated_word e.uses r ≡ true) × (has_associated_word n.uses r ≡ true)
  common-in e n {x} i r w =
      let y = (shared_says ws e n r word).0 (unless-of (shared e.uses n.uses) (set_of (name_before ws) (e.parents ++ n.parents)) r word (record { entry = x; listed = i; says = w })) in
      (y.1, y.2)

  -- where it has all its words among the entries, a newcomer changes nothing of that
  one-old : (l : List Entry) (o : Option Entry) → ((e : Entry) → In e l → Uniform p e) → ((r : ℕ) → p r ≡ true → SaysIn (to_list o) r word → SaysIn l r word)
      → (x : Entry) → In x (merge_one ws l o) → Uniform p x
  unfolding merge_one
  one-old [] none u c x i = absurd (Memᴰ.not-nil i)
  one-old [] (some n) u c x i = uniform-false p x (λ r w t. says_none (c r t (record { entry = x; listed = i; says = w })))
  one-old (e ∷ l) none u c x i = u x i
  one-old (e ∷ l) (some n) u c x i =
      ⊎_elim
      (λ j. uniform-part p e x (λ r w. (rest_in e n j r w).0) (u e (Memᴰ.head refl)))
      (λ j.
      ⊎_elim
      (λ k. uniform-part p e x (λ r w. (common-in e n k r w).0) (u e (Memᴰ.head refl)))
      (λ k.
      one-old l (rest_of n e) (λ y h. u y (Memᴰ.tail h)) (λ r t h.
      let a = (less-says n e r word).0 (unless-of (less n.uses e.uses) n.parents r word h) in
      let b = c r t (record { entry = n; listed = Memᴰ.head refl; says = a.0 }) in
      cons-elim b.listed
      (λ q. never (subst (λ (y : Entry). has_associated_word y.uses r ≡ true) q b.says) a.1)
      (λ m. record { entry = b.entry; listed = m; says = b.says })) x k)
      (Memᴰ.append_cases (to_list (common_of ws e n)) j))
      (Memᴰ.append_cases (to_list (rest_of e n)) i)

  -- the newcomer's own words
  one-new : (l : List Entry) (o : Option Entry) → Sorted NoWordShared l → ((r : ℕ) → SaysIn (to_list o) r word → p r ≡ true)
      → ((x : Entry) → In x l → (r : ℕ) → has_associated_word x.uses r ≡ true → p r ≡ true → SaysIn (to_list o) r word) → (x : Entry) → In x (merge_one ws l o) → Uniform p x
  unfolding merge_one
  one-new [] none s a b x i = absurd (Memᴰ.not-nil i)
  one-new [] (some n) s a b x i = uniform-true p x (λ r w. a r (record { entry = x; listed = i; says = w }))
  one-new (e ∷ l) none s a b x i = uniform-false p x (λ r w t. says_none (b x i r w t))
  one-new (e ∷ l) (some n) s a b x i =
      ⊎_elim
      (λ j. uniform-false p x (λ r w t. let y = rest_in e n j r w in never (has r (b e (Memᴰ.head refl) r y.0 t)) y.1))
      (λ j.
      ⊎_elim
      (λ k. uniform-true p x (λ r w. a r (record { entry = n; listed = Memᴰ.head refl; says = (common-in e n k r w).1 })))
      (λ k.
      one-new l (rest_of n e) s.1
      (λ r h.
      a r
      (record { entry = n; listed = Memᴰ.head refl; says = ((less-says n e r word).0 (unless-of (less n.uses e.uses) n.parents r word h)).0 }))
      (λ y m r w t.
      unless-in (less n.uses e.uses) n.parents r word
      ((less-says n e r word).1 (has r (b y (Memᴰ.tail m) r w t), not_so (λ v. s.0 y m r v w)))) x k)
      (Memᴰ.append_cases (to_list (common_of ws e n)) j))
      (Memᴰ.append_cases (to_list (rest_of e n)) i)
    where
      has : (r : ℕ) → SaysIn (n ∷ []) r word → has_associated_word n.uses r ≡ true
      has r h = cons-elim h.listed (λ q. subst (λ (y : Entry). has_associated_word y.uses r ≡ true) q h.says) (λ m. absurd (Memᴰ.not-nil m))

  onto-old : (out l : List Entry) → ((e : Entry) → In e out → Uniform p e) → ((r : ℕ) → p r ≡ true → SaysIn out r word) → (x : Entry) → In x (merge_onto ws out l) → Uniform p x
  unfolding merge_onto
  onto-old out [] u c x i = u x i
  onto-old out (n ∷ l) u c x i =
      onto-old (merge_one ws out (some n)) l (one-old out (some n) u (λ r t h. c r t)) (λ r t. one_in ws out (some n) r word (inl (c r t))) x i

onto-uniform : (ws : List (List ℕ)) (out l : List Entry) → Sorted NoWordShared out → {n : Entry} → In n l → (x : Entry) → In x (merge_onto ws out l) → Uniform (has_associated_word n.uses) x
unfolding merge_onto
onto-uniform ws out [] s j x i = absurd (Memᴰ.not-nil j)
onto-uniform ws out (h ∷ l) s {n} j x i =
    cons-elim j
    (λ q.
    subst (λ (y : Entry). Uniform (has_associated_word y.uses) x) (sym q)
    (onto-old ws (has_associated_word h.uses) (merge_one ws out (some h)) l
    (one-new ws (has_associated_word h.uses) out (some h) s
    (λ r y. cons-elim y.listed (λ q. subst (λ (y : Entry). has_associated_word y.uses r ≡ true) q y.says) (λ m. absurd (Memᴰ.not-nil m)))
    (λ y m r w t. record { entry = h; listed = Memᴰ.head refl; says = t }))
    (λ r t. one_in ws out (some h) r word (inr (record { entry = h; listed = Memᴰ.head refl; says = t }))) x i))
    (λ k. onto-uniform ws (merge_one ws out (some h)) l (one_apart ws out (some h) s) k x i)

-- ---- such a newcomer leaves the entries as they are

-- it has all or none of an entry's words, and what it says of them is said there
record Absorbed (n e : Entry) : Type 0 where
  uniform : Uniform (has_associated_word n.uses) e
  richer : (r : ℕ) → has_associated_word e.uses r ≡ true → (d : Dom) → GivesDom n.uses r d → GivesDom e.uses r d
  parents : (r : ℕ) → has_associated_word e.uses r ≡ true → has_associated_word n.uses r ≡ true → (P : Name) → In P n.parents → In P e.parents

-- none of its words
rest-whole : (e n : Entry) → ((r : ℕ) → has_associated_word e.uses r ≡ true → has_associated_word n.uses r ≡ false) → less e.uses n.uses ≡ e.uses
unfolding less
rest-whole e n h = filter-all (λ (u : AssociatedResource). not (has_associated_word n.uses u.word)) e.uses (λ u i. ap not (h u.word (has_in i refl)))

common-none : (e n : Entry) → ((r : ℕ) → has_associated_word e.uses r ≡ true → has_associated_word n.uses r ≡ false) → shared e.uses n.uses ≡ []
unfolding shared
common-none e n h = ap (map (united n.uses)) (filter_none (λ (u : AssociatedResource). has_associated_word n.uses u.word) e.uses (λ u i. h u.word (has_in i refl)))

-- all of them
rest-none : (e n : Entry) → ((r : ℕ) → has_associated_word e.uses r ≡ true → has_associated_word n.uses r ≡ true) → less e.uses n.uses ≡ []
unfolding less
rest-none e n h = filter_none (λ (u : AssociatedResource). not (has_associated_word n.uses u.word)) e.uses (λ u i. ap not (h u.word (has_in i refl)))

united-self : (ws : List (List ℕ)) (e n : Entry) → Ascending ws e → Absorbed n e → (u : AssociatedResource) → In u e.uses → united n.uses u ≡ u
united-self ws e n a b u i =
    let w : has_associated_word e.uses u.word ≡ true = has_in i refl in
    let q : u.doms ≡ set_of dom_before (u.doms ++ doms_in n.uses u.word) =
    ascending-is dom-strict u.doms (u.doms ++ doms_in n.uses u.word) (a.doms u i)
    (λ d. (
      λ j. Memᴰ.append_left (doms_in n.uses u.word) j,
      λ j.
          ⊎_elim (λ k. k)
          (λ k. (use-doms ws e a u i d).1 (b.richer u.word w d ((doms-is n.uses u.word d).0 k)))
          (Memᴰ.append_cases u.doms j),
    )) in
    λ k. record { word = u.word; doms = sym q k }

common-whole : (ws : List (List ℕ)) (e n : Entry) → Ascending ws e → Absorbed n e → ((r : ℕ) → has_associated_word e.uses r ≡ true → has_associated_word n.uses r ≡ true) → shared e.uses n.uses ≡ e.uses
unfolding shared
common-whole ws e n a b h =
    ap (map (united n.uses)) (filter-all (λ (u : AssociatedResource). has_associated_word n.uses u.word) e.uses (λ u i. h u.word (has_in i refl)))
    ∙ map-self (united n.uses) e.uses (united-self ws e n a b)

parents-whole : (ws : List (List ℕ)) (e n : Entry) → Ascending ws e → Absorbed n e → (r : ℕ) → has_associated_word e.uses r ≡ true → has_associated_word n.uses r ≡ true
    → set_of (name_before ws) (e.parents ++ n.parents) ≡ e.parents
parents-whole ws e n a b r v w =
    sym (ascending-is (name-strict ws) e.parents (e.parents ++ n.parents) a.parents
    (λ P. (λ i. Memᴰ.append_left n.parents i, λ i. ⊎_elim (λ k. k) (b.parents r v w P) (Memᴰ.append_cases e.parents i))))

unless-some : (us : List AssociatedResource) (ps : List Name) {u : AssociatedResource} → In u us → to_list (unless_none us ps) ≡ entry us ps ∷ []
unless-some [] ps i = absurd (Memᴰ.not-nil i)
unless-some (u ∷ us) ps i = refl

-- rest and common part together are the entry
head-same : (ws : List (List ℕ)) (e n : Entry) → Ascending ws e → Full e → Absorbed n e → (t : List Entry) → to_list (rest_of e n) ++ (to_list (common_of ws e n) ++ t) ≡ e ∷ t
head-same ws e n a f b t =
    let r = f.0.word in
    let v : has_associated_word e.uses r ≡ true = has_in f.1 refl in
    by (has_associated_word n.uses r)
    (λ w.
    let h : (q : ℕ) → has_associated_word e.uses q ≡ true → has_associated_word n.uses q ≡ true = λ q x. b.uniform q r x v ∙ w in
    ap₂ (λ x y. x ++ (y ++ t)) (ap (λ us. to_list (unless_none us e.parents)) (rest-none e n h))
    (ap₂ (λ us ps. to_list (unless_none us ps)) (common-whole ws e n a b h) (parents-whole ws e n a b r v w) ∙ unless-some e.uses e.parents f.1))
    (λ w.
    let h : (q : ℕ) → has_associated_word e.uses q ≡ true → has_associated_word n.uses q ≡ false = λ q x. b.uniform q r x v ∙ w in
    ap₂ (λ x y. x ++ (y ++ t)) (ap (λ us. to_list (unless_none us e.parents)) (rest-whole e n h) ∙ unless-some e.uses e.parents f.1)
    (ap (λ us. to_list (unless_none us (set_of (name_before ws) (e.parents ++ n.parents)))) (common-none e n h)))

-- without the words of e the same holds of the other entries
absorbed-rest : (e n x : Entry) → ((r : ℕ) → has_associated_word e.uses r ≡ true → has_associated_word x.uses r ≡ true → ⊥) → Absorbed n x → Absorbed (entry (less n.uses e.uses) n.parents) x
absorbed-rest e n x s b =
    let same : (r : ℕ) → has_associated_word x.uses r ≡ true → has_associated_word (less n.uses e.uses) r ≡ has_associated_word n.uses r =
    λ r w. same_test (λ t. ((less-word n.uses e.uses r).0 t).0) (λ t. (less-word n.uses e.uses r).1 (t, not_so (λ v. s r v w))) in
    record {
      uniform = λ r q v w. same r v ∙ b.uniform r q v w ∙ sym (same q w);
      richer = λ r w d g. b.richer r w d ((less-says n e r (dom d)).0 g).0;
      parents = λ r v w P i. b.parents r v (sym (same r v) ∙ w) P i;
    }

-- what the entries have to be
record Absorbs (ws : List (List ℕ)) (l : List Entry) (n : Entry) : Type 0 where
  apart : Sorted NoWordShared l
  ascending : AllAscending ws l
  full : AllFull l
  covered : (r : ℕ) → has_associated_word n.uses r ≡ true → SaysIn l r word
  absorbed : (e : Entry) → In e l → Absorbed n e

absorbs-rest : (ws : List (List ℕ)) (e : Entry) (l : List Entry) (n : Entry) → Absorbs ws (e ∷ l) n → Absorbs ws l (entry (less n.uses e.uses) n.parents)
absorbs-rest ws e l n h = record {
  apart = h.apart.1;
  ascending = λ x i. h.ascending x (Memᴰ.tail i);
  full = λ x i. h.full x (Memᴰ.tail i);
  covered = λ r w.
      let y = (less-word n.uses e.uses r).0 w in
      let c = h.covered r y.0 in
      cons-elim c.listed
      (λ q. never (subst (λ (x : Entry). has_associated_word x.uses r ≡ true) q c.says) y.1)
      (λ i. record { entry = c.entry; listed = i; says = c.says });
  absorbed = λ x i. absorbed-rest e n x (λ r v w. h.apart.0 x i r v w) (h.absorbed x (Memᴰ.tail i));
}

one_none : (ws : List (List ℕ)) (l : List Entry) → merge_one ws l none ≡ l
unfolding merge_one
one_none ws [] = refl
one_none ws (e ∷ l) = refl

absorb : (ws : List (List ℕ)) (l : List Entry) (us : List AssociatedResource) (ps : List Name) → Absorbs ws l (entry us ps) → merge_one ws l (unless_none us ps) ≡ l
unfolding merge_one
absorb ws [] [] ps h = refl
absorb ws [] (u ∷ us) ps h = absurd (says_none (h.covered u.word (has_in {us = u ∷ us} {u = u} (Memᴰ.head refl) refl)))
absorb ws (e ∷ l) [] ps h = refl
absorb ws (e ∷ l) (u ∷ us) ps h =
    let n = entry (u ∷ us) ps in
    let i : In e (e ∷ l) = Memᴰ.head refl in
    head-same ws e n (h.ascending e i) (h.full e i) (h.absorbed e i) (merge_one ws l (rest_of n e))
    ∙ ap (λ t. e ∷ t) (absorb ws l (less (u ∷ us) e.uses) ps (absorbs-rest ws e l n h))

absorb-some : (ws : List (List ℕ)) (e : Entry) (l : List Entry) (n : Entry) → Absorbs ws (e ∷ l) n → merge_one ws (e ∷ l) (some n) ≡ e ∷ l
unfolding merge_one
absorb-some ws e l n h =
    let i : In e (e ∷ l) = Memᴰ.head refl in
    head-same ws e n (h.ascending e i) (h.full e i) (h.absorbed e i) (merge_one ws l (rest_of n e))
    ∙ ap (λ t. e ∷ t) (absorb ws l (less n.uses e.uses) n.parents (absorbs-rest ws e l n h))

-- ---- again

onto-append : (ws : List (List ℕ)) (out l k : List Entry) → merge_onto ws out (l ++ k) ≡ merge_onto ws (merge_onto ws out l) k
unfolding merge_onto
onto-append ws out [] k = refl
onto-append ws out (n ∷ l) k = onto-append ws (merge_one ws out (some n)) l k

module _ (ws : List (List ℕ)) (l : List Entry) (a : AllAscending ws l) (r₀ : ℕ) (w₀ : SaysIn l r₀ word) where
  all-full : AllFull (merged ws l)
  all-full =
      let x = (merged-says ws l r₀ word).1 w₀ in
      ⊎_elim (λ f. f) (λ h. only (merged ws l) h x.entry x.listed x.says) (onto-alone ws [] l (inr (omega arith)))
    where
      only : (k : List Entry) → length k ≤ 1 → (e : Entry) → In e k → has_associated_word e.uses r₀ ≡ true → AllFull k
      only [] h e i w = absurd (Memᴰ.not-nil i)
      only (x ∷ []) h e i w =
          λ y j.
          let u = has_of e.uses r₀ w in
          let q : e ≡ y = cons-elim i (λ p. cons-elim j (λ o. p ∙ sym o) (λ m. absurd (Memᴰ.not-nil m))) (λ m. absurd (Memᴰ.not-nil m)) in
          subst Full q (u.0, u.1)
      only (x ∷ y ∷ k) h e i w = absurd (omega arith)

  absorbs : {n : Entry} → In n l → Absorbs ws (merged ws l) n
  absorbs {n} i = record {
    apart = merged-apart ws l;
    ascending = merged-ascending ws l a;
    full = all-full;
    covered = λ r w. (merged-says ws l r word).1 (record { entry = n; listed = i; says = w });
    absorbed = λ e j. record {
      uniform = onto-uniform ws [] l tt i e j;
      richer = λ r w d g. (merged-entry ws l r (dom d) j w).1 (record { entry = n; listed = i; says = g });
      parents = λ r v w P p. ((merged-entry ws l r (parent P) j v).1 (record { entry = n; listed = i; says = (w, p) })).1;
    };
  }

  merge-one : {n : Entry} → In n l → merge_one ws (merged ws l) (some n) ≡ merged ws l
  merge-one {n} i = go (merged ws l) (absorbs i) ((merged-says ws l r₀ word).1 w₀)
    where
      go : (k : List Entry) → Absorbs ws k n → SaysIn k r₀ word → merge_one ws k (some n) ≡ k
      go [] h w = absurd (says_none w)
      go (e ∷ k) h w = absorb-some ws e k n h

  merge-all : (k : List Entry) → ((e : Entry) → In e k → In e l) → merge_onto ws (merged ws l) k ≡ merged ws l
  unfolding merge_onto
  merge-all [] h = refl
  merge-all (n ∷ k) h = ap (λ o. merge_onto ws o k) (merge-one (h n (Memᴰ.head refl))) ∙ merge-all k (λ e i. h e (Memᴰ.tail i))

  merge-again : (k : List Entry) → ((e : Entry) → In e k → In e l) → merged ws (l ++ k) ≡ merged ws l
  merge-again k h = onto-append ws [] l k ∙ merge-all k h

pub merged-again : MergedAgain
merged-again ws l k a h r i =
    let L : List Entry = map entry_of l in
    let K : List Entry = map entry_of k in
    let back : (j : List InheritedAnnotation) → ((e : InheritedAnnotation) → In e j → In e l) → map as_inherited (map entry_of j) ≡ j =
    λ j f. map-map as_inherited entry_of j ∙ map-self (λ e. as_inherited (entry_of e)) j (λ e x. entry-back ws e (a e (f e x))) in
    let p : map as_inherited L ≡ l = back l (λ e x. x) in
    let q : map as_inherited K ≡ k = back k h in
    let asc : AllAscending ws L = λ e x. let y = Memᴰ.of_map entry_of l x in subst (Ascending ws) y.2 (entry-ascending ws y.0 (a y.0 y.1)) in
    let w : SaysIn L r word = words_of L r (subst (In r) (ap words_given (sym p) ∙ words-given L) i) in
    let sub : (e : Entry) → In e K → In e L = λ e x. let y = Memᴰ.of_map entry_of k x in subst (λ z. In z L) y.2 (Memᴰ.map entry_of (h y.0 y.1)) in
    ap₂ (λ x y. dedup ws (x ++ y)) (sym p) (sym q) ∙ ap (dedup ws) (sym (map-append as_inherited L K)) ∙ dedup_is ws (L ++ K) ∙ ap (map as_inherited) (merge-again ws L asc r w K sub)
    ∙ sym (dedup_is ws L) ∙ ap (dedup ws) p
