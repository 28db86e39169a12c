-- The dedup, word by word: what all newcomers leave.
use Rattle.std.specs.Prelude.{Bool, true, List, [], ◌∷◌, ◌++◌, map, ◌⊎◌, ◌↔◌, ◌≡◌, refl, ℕ, suc, ◌≤◌, max, ltb, length}
use mathlib.Core.List.Memᴰ
use Rattle.std.proofs.Common.{inl, inr, ⊎_elim, sym, ap, ◌∙◌, subst, arith}
use Rattle.std.proofs.Math.Option.{Option, none, some}
use Rattle.lists.specs.Lists.{In, Sorted, filter, each, set_of}
use Rattle.lists.specs.Tests.{cons-elim, filter-in, filter-of, each_in, each_of}
use Rattle.lists.specs.Strict.{Strict, asymmetric, number-strict}
use Rattle.lists.specs.Sorting.{Distinct, sorted-imp, sorted-unique, one_key, set_is, set-sorted}
use Rattle.lists.specs.Counting.{pigeonhole}
use Rattle.definitions.specs.Records.{Name, Dom, AssociatedResource}
use Rattle.definitions.specs.Comparisons.{name_before, dom_before}
use Rattle.definitions.specs.Annotations.{has_associated_word, doms_in, shared, less}
use Rattle.definitions.specs.Inherited.{to_list}
use Rattle.law_orders.specs.Comparisons.{name-strict, dom-strict}
use Rattle.lists.specs.Permutations.{apart_of}
use Rattle.law_synthesis.specs.Entries.{Entry, unless_none, rest_of, common_of, merge_one, merge_onto, merged, dom, parent, Fact, word, GivesDom, Says, has_in, has_of, says-word, doms-is, SaysIn, says-more, says-append, says_none, one_in, one_of, NoWordShared, one_apart, Ascending, AllAscending, one-ascending}

-- ---- all newcomers

onto-says : (ws : List (List ℕ)) (out l : List Entry) (r : ℕ) (f : Fact) → SaysIn (merge_onto ws out l) r f ↔ (SaysIn out r f ⊎ SaysIn l r f)
unfolding merge_onto
onto-says ws out [] r f = (inl, λ c. ⊎_elim (λ s. s) (λ s. absurd (says_none s)) c)
onto-says ws out (n ∷ l) r f =
    let x = onto-says ws (merge_one ws out (some n)) l r f in (
      λ s.
          ⊎_elim
          (λ t. ⊎_elim inl (λ u. inr (says-more (λ e i. Memᴰ.head (Memᴰ.eq_of_singleton i)) u)) (one_of ws out (some n) r f t))
          (λ t. inr (says-more (λ e i. Memᴰ.tail i) t))
          (x.0 s),
      λ c.
          x.1
          (⊎_elim
          (λ t. inl (one_in ws out (some n) r f (inl t)))
          (λ t. ⊎_elim (λ u. inl (one_in ws out (some n) r f (inr u))) inr (says-append (n ∷ []) r f t))
          c),
    )

onto-apart : (ws : List (List ℕ)) (out l : List Entry) → Sorted NoWordShared out → Sorted NoWordShared (merge_onto ws out l)
unfolding merge_onto
onto-apart ws out [] s = s
onto-apart ws out (n ∷ l) s = onto-apart ws (merge_one ws out (some n)) l (one_apart ws out (some n) s)

onto-ascending : (ws : List (List ℕ)) (out l : List Entry) → AllAscending ws out → AllAscending ws l → AllAscending ws (merge_onto ws out l)
unfolding merge_onto
onto-ascending ws out [] a b = a
onto-ascending ws out (n ∷ l) a b =
    onto-ascending ws (merge_one ws out (some n)) l
    (one-ascending ws out (some n) a (λ e i. b e (Memᴰ.head (Memᴰ.eq_of_singleton i))))
    (λ e i. b e (Memᴰ.tail i))

-- ---- the dedup

-- the entries say together what the entries before said
pub merged-says : (ws : List (List ℕ)) (l : List Entry) (r : ℕ) (f : Fact) → SaysIn (merged ws l) r f ↔ SaysIn l r f
merged-says ws l r f = let x = onto-says ws [] l r f in (λ s. ⊎_elim (λ t. absurd (says_none t)) (λ t. t) (x.0 s), λ s. x.1 (inr s))

-- no two of them share a word
pub merged-apart : (ws : List (List ℕ)) (l : List Entry) → Sorted NoWordShared (merged ws l)
merged-apart ws l = onto-apart ws [] l tt

pub merged-ascending : (ws : List (List ℕ)) (l : List Entry) → AllAscending ws l → AllAscending ws (merged ws l)
merged-ascending ws l a = onto-ascending ws [] l (λ e i. absurd (Memᴰ.not-nil i)) a

-- of two entries with a word there is one
one_entry : (l : List Entry) → Sorted NoWordShared l → {a b : Entry} (r : ℕ) → In a l → In b l → has_associated_word a.uses r ≡ true → has_associated_word b.uses r ≡ true → a ≡ b
one_entry [] s r i j p q = absurd (Memᴰ.not-nil i)
one_entry (x ∷ l) s {a} {b} r i j p q =
    cons-elim i
    (λ e. cons-elim j (λ f. e ∙ sym f) (λ k. absurd (s.0 b k r (subst (λ (c : Entry). has_associated_word c.uses r ≡ true) e p) q)))
    (λ h. cons-elim j (λ f. absurd (s.0 a h r (subst (λ (c : Entry). has_associated_word c.uses r ≡ true) f q) p)) (λ k. one_entry l s.1 r h k p q))

-- so the entry with a word says all that any entry says of it
entry-says : (l : List Entry) → Sorted NoWordShared l → {a : Entry} (r : ℕ) (f : Fact) → In a l → has_associated_word a.uses r ≡ true → SaysIn l r f → Says a r f
entry-says l s {a} r f i w h = subst (λ (c : Entry). Says c r f) (one_entry l s r h.listed i (says-word h.entry r f h.says) w) h.says

pub merged-entry : (ws : List (List ℕ)) (l : List Entry) {a : Entry} (r : ℕ) (f : Fact) → In a (merged ws l) → has_associated_word a.uses r ≡ true → Says a r f ↔ SaysIn l r f
merged-entry ws l {a} r f i w = (
  λ s. (merged-says ws l r f).0 (record { entry = a; listed = i; says = s }),
  λ s. entry-says (merged ws l) (merged-apart ws l) r f i w ((merged-says ws l r f).1 s),
)

-- ---- doms and parents as lists

use-one : (us : List AssociatedResource) → Sorted (λ (u v : AssociatedResource). ltb u.word v.word ≡ true) us → {u v : AssociatedResource}
    → In u us → In v us → u.word ≡ v.word → u ≡ v
use-one us s i j e = one_key (λ (u : AssociatedResource). u.word) us (sorted-imp us (λ u v p q l f. apart_of number-strict l f) s) i j e

-- of a word in an entry whose words ascend, the doms are those of its one resource
pub use-doms : (ws : List (List ℕ)) (e : Entry) → Ascending ws e → (u : AssociatedResource) → In u e.uses → (d : Dom) → In d u.doms ↔ GivesDom e.uses u.word d
use-doms ws e a u i d = (
  λ j. record { from = u; listed = i; of_word = refl; has = j },
  λ g. subst (λ (v : AssociatedResource). In d v.doms) (use-one e.uses a.words g.listed i g.of_word) g.has,
)

-- a list that ascends is the set of its members
pub ascending-is : {A : Type 0} {before : A → A → Bool} → Strict before → (a b : List A) → Sorted (λ x y. before x y ≡ true) a → ((x : A) → In x a ↔ In x b) → a ≡ set_of before b
ascending-is {before = before} o a b s h =
    sorted-unique (λ x y. before x y ≡ true) (asymmetric o) a (set_of before b) s (set-sorted o b)
    (λ x i. (set_is o b x).1 ((h x).0 i)) (λ x i. (h x).1 ((set_is o b x).0 i))

abbrev pub doms_from : List Entry → ℕ → List Dom
doms_from l r = each (λ (e : Entry). doms_in e.uses r) l

abbrev pub parents_from : List Entry → ℕ → List Name
parents_from l r = each (λ (e : Entry). e.parents) (filter (λ (e : Entry). has_associated_word e.uses r) l)

pub doms-from : (l : List Entry) (r : ℕ) (d : Dom) → In d (doms_from l r) ↔ SaysIn l r (dom d)
doms-from l r d = (
  λ i.
      let x = each_of (λ (e : Entry). doms_in e.uses r) l i in
      record { entry = x.0; listed = x.1; says = (doms-is x.0.uses r d).0 x.2 },
  λ s. each_in (λ (e : Entry). doms_in e.uses r) s.listed ((doms-is s.entry.uses r d).1 s.says),
)

parents-from : (l : List Entry) (r : ℕ) (P : Name) → In P (parents_from l r) ↔ SaysIn l r (parent P)
parents-from l r P = (
  λ i.
      let x = each_of (λ (e : Entry). e.parents) (filter (λ (e : Entry). has_associated_word e.uses r) l) i in
      let y = filter-of (λ (e : Entry). has_associated_word e.uses r) l x.1 in
      record { entry = x.0; listed = y.0; says = (y.1, x.2) },
  λ s. each_in (λ (e : Entry). e.parents) (filter-in (λ (e : Entry). has_associated_word e.uses r) s.listed s.says.0) s.says.1,
)

-- the doms of a word in its entry are all doms that it was given, and the parents all that it came from
pub merged-doms : (ws : List (List ℕ)) (l : List Entry) → AllAscending ws l → (e : Entry) → In e (merged ws l) → (u : AssociatedResource) → In u e.uses
    → u.doms ≡ set_of dom_before (doms_from l u.word)
merged-doms ws l a e i u j =
    let b = merged-ascending ws l a e i in
    ascending-is dom-strict u.doms (doms_from l u.word) (b.doms u j)
    (λ d.
    let x = use-doms ws e b u j d in
    let y = merged-entry ws l u.word (dom d) i (has_in j refl) in
    let z = doms-from l u.word d in
    (λ k. z.1 (y.0 (x.0 k)), λ k. x.1 (y.1 (z.0 k))))

pub merged-parents : (ws : List (List ℕ)) (l : List Entry) → AllAscending ws l → (e : Entry) → In e (merged ws l) → (r : ℕ) → has_associated_word e.uses r ≡ true
    → e.parents ≡ set_of (name_before ws) (parents_from l r)
merged-parents ws l a e i r w =
    let b = merged-ascending ws l a e i in
    ascending-is (name-strict ws) e.parents (parents_from l r) b.parents
    (λ P.
    let y = merged-entry ws l r (parent P) i w in
    let z = parents-from l r P in
    (λ k. z.1 (y.0 (w, k)), λ k. (y.1 (z.0 k)).1))

-- ---- how many entries there are

-- an entry with a word
abbrev pub Full : Entry → Type 0
Full e = (u : AssociatedResource) × In u e.uses

abbrev pub AllFull : List Entry → Type 0
AllFull l = (e : Entry) → In e l → Full e

unless-full : (us : List AssociatedResource) (ps : List Name) → AllFull (to_list (unless_none us ps))
unless-full [] ps e i = absurd (Memᴰ.not-nil i)
unless-full (u ∷ us) ps e i = subst Full (sym (Memᴰ.eq_of_singleton i)) (u, Memᴰ.head refl)

one-full : (ws : List (List ℕ)) (l : List Entry) (o : Option Entry) → AllFull l → AllFull (to_list o) → AllFull (merge_one ws l o)
unfolding merge_one
one-full ws [] none a b = a
one-full ws [] (some n) a b = b
one-full ws (e ∷ l) none a b = a
one-full ws (e ∷ l) (some n) a b = λ x i.
    ⊎_elim
    (unless-full (less e.uses n.uses) e.parents x)
    (λ j.
    ⊎_elim
    (unless-full (shared e.uses n.uses) (set_of (name_before ws) (e.parents ++ n.parents)) x)
    (one-full ws l (rest_of n e) (λ y k. a y (Memᴰ.tail k)) (unless-full (less n.uses e.uses) n.parents) x)
    (Memᴰ.append_cases (to_list (common_of ws e n)) j))
    (Memᴰ.append_cases (to_list (rest_of e n)) i)

-- only an entry that stands alone can be without words
abbrev pub FullOrAlone : List Entry → Type 0
FullOrAlone l = AllFull l ⊎ (length l ≤ 1)

one-alone : (ws : List (List ℕ)) (l : List Entry) (n : Entry) → FullOrAlone l → FullOrAlone (merge_one ws l (some n))
unfolding merge_one
one-alone ws [] n c = inr (omega arith)
one-alone ws (e ∷ l) n c =
    inl (λ x i.
    ⊎_elim
    (unless-full (less e.uses n.uses) e.parents x)
    (λ j.
    ⊎_elim
    (unless-full (shared e.uses n.uses) (set_of (name_before ws) (e.parents ++ n.parents)) x)
    (one-full ws l (rest_of n e) (rest l c) (unless-full (less n.uses e.uses) n.parents) x)
    (Memᴰ.append_cases (to_list (common_of ws e n)) j))
    (Memᴰ.append_cases (to_list (rest_of e n)) i))
  where
    rest : (l : List Entry) → FullOrAlone (e ∷ l) → AllFull l
    rest [] c x i = absurd (Memᴰ.not-nil i)
    rest (y ∷ l) c x i = ⊎_elim (λ a. a x (Memᴰ.tail i)) (λ h. absurd (omega arith)) c

pub onto-alone : (ws : List (List ℕ)) (out l : List Entry) → FullOrAlone out → FullOrAlone (merge_onto ws out l)
unfolding merge_onto
onto-alone ws out [] c = c
onto-alone ws out (n ∷ l) c = onto-alone ws (merge_one ws out (some n)) l (one-alone ws out n c)

-- the words of entries, ascending
abbrev pub words_from : List Entry → List ℕ
words_from l = set_of ltb (each (λ (e : Entry). map (λ (u : AssociatedResource). u.word) e.uses) l)

pub words-from : (l : List Entry) (r : ℕ) → SaysIn l r word → In r (words_from l)
words-from l r s =
    let x = has_of s.entry.uses r s.says in
    (set_is number-strict (each (λ (e : Entry). map (λ (u : AssociatedResource). u.word) e.uses) l) r).1
    (each_in (λ (e : Entry). map (λ (u : AssociatedResource). u.word) e.uses) s.listed
    (Memᴰ.cast (sym x.2) (Memᴰ.map (λ (u : AssociatedResource). u.word) x.1)))

pub words_of : (l : List Entry) (r : ℕ) → In r (words_from l) → SaysIn l r word
words_of l r i =
    let x =
    each_of (λ (e : Entry). map (λ (u : AssociatedResource). u.word) e.uses) l
    ((set_is number-strict (each (λ (e : Entry). map (λ (u : AssociatedResource). u.word) e.uses) l) r).0 i) in
    let y = Memᴰ.of_map (λ (u : AssociatedResource). u.word) x.0.uses x.2 in
    record { entry = x.0; listed = x.1; says = has_in y.1 y.2 }

-- a word of each of them
firsts : (l : List Entry) → AllFull l → Sorted NoWordShared l → (ws : List ℕ) × (length ws ≡ length l) × Distinct ws × ((r : ℕ) → In r ws → SaysIn l r word)
firsts [] a s = ([], refl, tt, λ r i. absurd (Memᴰ.not-nil i))
firsts (e ∷ l) a s =
    let x = firsts l (λ y i. a y (Memᴰ.tail i)) s.1 in
    let u = a e (Memᴰ.head refl) in
    let w : has_associated_word e.uses u.0.word ≡ true = has_in u.1 refl in (
      u.0.word ∷ x.0,
      ap suc x.1,
      (λ r i q. let y = x.3 r i in s.0 y.entry y.listed u.0.word w (subst (λ z. has_associated_word y.entry.uses z ≡ true) (sym q) y.says), x.2),
      λ r i.
          cons-elim i
          (λ q. record { entry = e; listed = Memᴰ.head refl; says = subst (λ z. has_associated_word e.uses z ≡ true) (sym q) w })
          (λ j. says-more (λ y k. Memᴰ.tail k) (x.3 r j)),
    )

-- so there are no more of them than words, but for one that has none
pub merged-few : (ws : List (List ℕ)) (l : List Entry) → length (merged ws l) ≤ max 1 (length (words_from l))
merged-few ws l =
    ⊎_elim
    (λ a.
    let x = firsts (merged ws l) a (merged-apart ws l) in
    let h : length x.0 ≤ length (words_from l) =
    pigeonhole x.0 (words_from l) x.2 (λ r i. words-from l r ((merged-says ws l r word).0 (x.3 r i))) in
    omega (arith, x.1))
    (λ h. omega arith)
    (onto-alone ws [] l (inr (omega arith)))
