-- What was put, for the map that the draft has: sets of parents, the types that are a parent, whether each parent is known.
use Rattle.std.specs.Prelude.{Bool, false, ◌&&◌, List, [], ◌∷◌, ◌≡◌, refl, ℕ, zero, suc, ◌*◌, ◌/◌, ◌%◌, ◌≤◌, ◌<◌, eqb, ltb, length}
use Rattle.std.proofs.Math.Bool.{true, not, and-false}
use Rattle.std.proofs.Math.Path.{sym, ap, ap₂}
use Rattle.std.proofs.Common.{◌∙◌, arith}
use borrow.Author.Tests.{eq-eqb, ne_eqb, eqb-true, eqb-false, ltb-true, lt-ltb, le-ltb}
use Rattle.lists.specs.Lists.{any, all}
use Rattle.lists.specs.Tests.{by, never, and_left, and_right, any-in, any_of}
use Rattle.lists.specs.Appending.{all_append}
use Rattle.lists.specs.Places.{get_d-in}
use Rattle.rows.specs.Rows.{has_bit}
use Rattle.rows.specs.RowLaws.{bit-none}
use Rattle.bitsets.specs.BitLaws.{some-bit}
use Rattle.definitions.specs.Records.{TypeInfo}
use Rattle.definitions.specs.Comparisons.{same_name, elem_name}
use Rattle.definitions.specs.Map.{TypeMap}
use Rattle.definitions.specs.Order.{is_self}
use Rattle.order_form.specs.Lists.{tab, tab-get_d, any-tab-same, same-list-sym}
use Rattle.order_form.specs.Reading.{no_type, type_at}
use Rattle.law_classes.specs.Numbers.{place-of}
use Rattle.sheet_keys.specs.Keys.{name_of_key}
use Rattle.sheet_draft.specs.Draft.{parent_count_at, parent_at}
use Rattle.catalogue.specs.Layout.{parents_at, looked}
use Rattle.catalogue.specs.declared.Catalogue.{Catalogue}
use Rattle.sheet_draft.specs.declared.Draft.{Draft}
use Rattle.sheet_draft.specs.declared.entry.Entry.{Entry}
use Rattle.order_parents.specs.Parents.{known_key, row_of, keys_in, ParentsPut}
use Rattle.order_parents.specs.Known.{known, all_known, ParentSets, Childed, Looks, Rows}
use Rattle.order_parents.specs.declared.Found.{Found}

-- ---- lists

any_false : (l : List ℕ) → any (λ (x : ℕ). false) l ≡ false
any_false [] = refl
any_false (x ∷ l) = any_false l

all-tab-same : {A B : Type 0} (f : ℕ → A) (g : A → Bool) (h : ℕ → B) (k : B → Bool) (n : ℕ) → ((i : ℕ) → i < n → g (f i) ≡ k (h i)) → all g (tab f n) ≡ all k (tab h n)
all-tab-same f g h k zero e = refl
all-tab-same f g h k (suc n) e =
    all_append g (tab f n) (f n ∷ [])
    ∙ ap₂ (λ (a b : Bool). a && (b && true)) (all-tab-same f g h k n (λ i l. e i (omega arith))) (e n (omega arith))
    ∙ sym (all_append k (tab h n) (h n ∷ []))

-- ---- one key

-- the key of `self` is that of its one word
pub self-key : (key w : ℕ) → eqb key (w * 256) ≡ same_name (name_of_key key) (w ∷ [])
unfolding name_of_key
self-key key w =
    by (eqb (key % 256) 0)
    (λ e.
    let z : key % 256 ≡ 0 = eqb-true _ _ e in
    rw e
    (by (eqb (key / 256) w)
    (λ q. let y : key / 256 ≡ w = eqb-true (key / 256) w q in rw q (eq-eqb key (w * 256) (omega arith)))
    (λ q. let y = eqb-false (key / 256) w q in rw q (ne_eqb key (w * 256) (λ x. y (omega arith))))))
    (λ e.
    let z = eqb-false (key % 256) 0 e in
    rw (e, and-false (eqb (key / 256) w)) (ne_eqb key (w * 256) (λ x. z (omega arith))))

module _ (m : TypeMap) (t : Catalogue) (own key : ℕ) (l : Looks m t key) (s : own ≡ m.self * 256) where
  declared-key : not (eqb (looked t key) 0) ≡ any (λ (T : TypeInfo). same_name (name_of_key key) T.name) m.types
  unfolding has_bit
  declared-key =
      by (eqb (looked t key) 0)
      (λ e.
      rw e
      (sym (Rattle.lists.specs.Tests.not_so (λ q.
      let x = any_of (λ (T : TypeInfo). same_name (name_of_key key) T.name) m.types q in
      let p = place-of no_type x.0 m.types x.1 in
      never
      (l.bits p.0 ∙ rw (lt-ltb _ _ p.1, p.2) x.2)
      (ap (λ (y : ℕ). has_bit y p.0) (eqb-true _ _ e) ∙ bit-none p.0)))))
      (λ e.
      let b = some-bit 64 (looked t key) l.most (eqb-false _ _ e) in
      let c : has_bit (looked t key) b.0 ≡ true = eq-eqb _ _ b.2 in
      let d = sym (l.bits b.0) ∙ c in
      rw e (sym (any-in (λ (T : TypeInfo). same_name (name_of_key key) T.name) (get_d-in m.types no_type b.0 (ltb-true _ _ (and_left _ _ d))) (and_right (ltb b.0 (length m.types)) _ d))))

  pub known-key : known_key t own key ≡ known m (name_of_key key)
  unfolding known_key known is_self
  known-key = ap₂ (λ (a b : Bool). a && not b) declared-key (ap (eqb key) s ∙ self-key key m.self)

-- ---- all types

module _ (m : TypeMap) (d : Draft) (entries : List Entry) (n own : ℕ) (old new : Catalogue) (r : Found) (w : Rows m d entries n own old) (q : ParentsPut d entries own n old new r) where
  -- the parents of one type
  looks-at : (a b : ℕ) → a < n → b < length m.types → any (λ key. has_bit (looked old key) b) (keys_in d (row_of entries a)) ≡ elem_name (type_at m b).name (type_at m a).parents
  unfolding keys_in
  looks-at a b h k =
      any-tab-same (parent_at d (row_of entries a)) (λ key. has_bit (looked old key) b) (λ i. name_of_key (parent_at d (row_of entries a) i)) (same_name (type_at m b).name) (parent_count_at d (row_of entries a))
      (λ i l. (w.looks a i h l).bits b ∙ rw (lt-ltb b (length m.types) k) (same-list-sym (name_of_key (parent_at d (row_of entries a) i)) (type_at m b).name))
      ∙ ap (elem_name (type_at m b).name) (sym (w.parents a h))

  looks-past : (a b : ℕ) → a < n → length m.types ≤ b → any (λ key. has_bit (looked old key) b) (keys_in d (row_of entries a)) ≡ false
  unfolding keys_in
  looks-past a b h k =
      any-tab-same (parent_at d (row_of entries a)) (λ key. has_bit (looked old key) b) (λ i. i) (λ i. false) (parent_count_at d (row_of entries a))
      (λ i l. (w.looks a i h l).bits b ∙ rw (le-ltb b (length m.types) k))
      ∙ any_false (tab (λ i. i) (parent_count_at d (row_of entries a)))

  pub parent-sets : ParentSets m new
  parent-sets = record {
    most = λ a h. q.most a (omega (arith, w.count));
    bits = λ a b h k. let l : a < n = omega (arith, w.count) in q.sets a l b ∙ looks-at a b l k;
    within = λ a b h k. let l : a < n = omega (arith, w.count) in q.sets a l b ∙ looks-past a b l k;
  }

  types_are : tab (type_at m) n ≡ m.types
  types_are = ap (tab (type_at m)) w.count ∙ tab-get_d m.types no_type

  pub childed-are : Childed m r.set
  childed-are = record {
    bits = λ b k.
        q.childed b
        ∙ any-tab-same (λ a. a) (λ a. any (λ key. has_bit (looked old key) b) (keys_in d (row_of entries a))) (type_at m) (λ (T : TypeInfo). elem_name (type_at m b).name T.parents) n (λ a h. looks-at a b h k)
        ∙ ap (any (λ (T : TypeInfo). elem_name (type_at m b).name T.parents)) types_are;
    within = λ b k.
        q.childed b
        ∙ any-tab-same (λ a. a) (λ a. any (λ key. has_bit (looked old key) b) (keys_in d (row_of entries a))) (λ a. a) (λ a. false) n (λ a h. looks-past a b h k)
        ∙ any_false (tab (λ a. a) n);
  }

  known_at : (a : ℕ) → a < n → all (known_key old own) (keys_in d (row_of entries a)) ≡ all (known m) (type_at m a).parents
  unfolding keys_in
  known_at a h =
      all-tab-same (parent_at d (row_of entries a)) (known_key old own) (λ i. name_of_key (parent_at d (row_of entries a) i)) (known m) (parent_count_at d (row_of entries a))
      (λ i l. known-key m old own (parent_at d (row_of entries a) i) (w.looks a i h l) w.self)
      ∙ ap (all (known m)) (sym (w.parents a h))

  pub whole_is : r.whole ≡ all_known m
  unfolding all_known
  whole_is =
      q.whole
      ∙ all-tab-same (λ a. a) (λ a. all (known_key old own) (keys_in d (row_of entries a))) (type_at m) (λ (T : TypeInfo). all (known m) T.parents) n known_at
      ∙ ap (all (λ (T : TypeInfo). all (known m) T.parents)) types_are

-- the sets stay where the parents in the catalogue do
pub sets-kept : (m : TypeMap) (t u : Catalogue) → ((a : ℕ) → a < length m.types → parents_at u a ≡ parents_at t a) → ParentSets m t → ParentSets m u
sets-kept m t u e p = record {
  most = λ a h. rw (e a h) (p.most a h);
  bits = λ a b h k. ap (λ (x : ℕ). has_bit x b) (e a h) ∙ p.bits a b h k;
  within = λ a b h k. ap (λ (x : ℕ). has_bit x b) (e a h) ∙ p.within a b h k;
}
