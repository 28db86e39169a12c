-- Every map within 01's bounds has a compact form that reads it: `Reads` is no empty demand, at the limits neither.
use Rattle.std.specs.Prelude.{true, false, List, [], ◌++◌, map, ◌≡◌, refl, get_or, take, replicate}
use Rattle.std.proofs.Math.Path.{sym, subst}
use Rattle.std.proofs.Common.{ap, ◌∙◌, arith, length-append, get_or-take, length-take-le, ltb-true}
use Prim.Native.Nat.{ℕ, ◌-◌, ◌≤◌, ◌<◌}
use Rattle.std.proofs.Math.Dec.{ltb}
use Rattle.std.proofs.Math.ListN.{length, get_or-append, get_or-map, get_or-eq_default}
use Rattle.std.proofs.lemmas.Bool.{ltb-false}
use Rattle.std.proofs.lemmas.List.{length-map, length-replicate, get_or-replicate}
use Rattle.std.proofs.Math.Seq.{ext_get_or, get_or-append_right}
use Rattle.lists.specs.Lists.{all, repeats}
use Rattle.lists.specs.Tests.{by}
use Rattle.definitions.specs.Records.{TypeInfo}
use Rattle.definitions.specs.Comparisons.{same_name}
use Rattle.definitions.specs.Map.{TypeMap}
use Rattle.order_form.specs.Lists.{get_d_any, tab, tab-length, tab-at}
use Rattle.order_form.specs.Reading.{no_name, no_parent, parent_at, how_many, listed, no_type, type_at, words_of, parent_in, is_name, Reads}
use Rattle.order_form.specs.declared.Parent.{Parent}
use Rattle.order_form.specs.declared.Parents.{Parents}

-- a list, filled up to n places
unfoldable pub column : {A : Type 0} → ℕ → A → List A → List A
column n d l = take n (l ++ replicate n d)

-- at most 64 types, at most 8 parents each, no word is 255, and no name stands twice
pub record Within (m : TypeMap) : Type 0 where
  pub most : length m.types ≤ 64
  pub word : m.self < 255
  pub distinct : repeats (λ (T U : TypeInfo). same_name T.name U.name) m.types ≡ false
  pub parents : (t : ℕ) → t < length m.types → length (type_at m t).parents ≤ 8
  pub names : (t : ℕ) → t < length m.types → all is_name (type_at m t).parents ≡ true

module _ {A : Type 0} where
  column-length : (n : ℕ) (d : A) (l : List A) → length (column n d l) ≡ n
  unfolding column
  column-length n d l = length-take-le n (l ++ replicate n d) (omega (arith, length-append l (replicate n d), length-replicate {A = A} n d))

  column-at : (n : ℕ) (d e : A) (l : List A) (i : ℕ) → i < n → get_or (column n d l) i e ≡ get_or l i d
  unfolding column
  column-at n d e l i h =
      get_d_any (column n d l) i e d (rw column-length h)
      ∙ get_or-take n (l ++ replicate n d) i d h
      ∙ by (ltb i (length l))
      (λ k. get_or-append l (replicate n d) d i (ltb-true i (length l) k))
      (λ k.
      let p : length l ≤ i = ltb-false i (length l) k in
      get_or-append_right l (replicate n d) i d p
      ∙ get_or-replicate n (i - length l) d d (omega arith)
      ∙ sym (get_or-eq_default l d p))

-- what a function makes of the element at a place
map_at : {A B : Type 0} (f : A → B) (l : List A) (i : ℕ) (c : A) (d : B) → i < length l → get_or (map f l) i d ≡ f (get_or l i c)
map_at f l i c d h = get_d_any (map f l) i d (f c) (rw length-map h) ∙ get_or-map f l i c

column-map : {A B : Type 0} (n : ℕ) (f : A → B) (l : List A) (i : ℕ) (c : A) (d e : B) → length l ≤ n → i < length l → get_or (column n d (map f l)) i e ≡ f (get_or l i c)
column-map n f l i c d e h k = column-at n d e (map f l) i (omega arith) ∙ map_at f l i c d k

-- no type lists more than eight, and what is no type lists none
pub counts-most : (m : TypeMap) → Within m → (t : ℕ) → get_or (column 64 0 (map (λ (T : TypeInfo). length T.parents) m.types)) t 0 ≤ 8
counts-most m w t =
    let f : TypeInfo → ℕ = λ (T : TypeInfo). length T.parents in
    let l : List ℕ = column 64 0 (map f m.types) in
    by (ltb t (length m.types))
    (λ e.
    let h : t < length m.types = ltb-true t (length m.types) e in
    subst (λ (n : ℕ). n ≤ 8) (sym (column-map 64 f m.types t no_type 0 0 w.most h)) (w.parents t h))
    (λ e.
    let h : length m.types ≤ t = ltb-false t (length m.types) e in
    by (ltb t 64)
    (λ g. omega (arith, column-at 64 0 0 (map f m.types) t (ltb-true t 64 g) ∙ get_or-eq_default (map f m.types) 0 {n = t} (rw length-map h)))
    (λ g. omega (arith, get_or-eq_default l 0 {n = t} (omega (arith, column-length 64 0 (map f m.types), ltb-false t 64 g)))))

-- the compact form of a map, eight places for the parents of each type
unfoldable pub compact_of : (m : TypeMap) → Within m → Parents
compact_of m w = record {
  count = length m.types;
  self_word = m.self;
  names = column 64 no_name (map (λ (T : TypeInfo). words_of T.name) m.types);
  counts = column 64 0 (map (λ (T : TypeInfo). length T.parents) m.types);
  parents = column 64 [] (map (λ (T : TypeInfo). column 8 no_parent (map (parent_in m) T.parents)) m.types);
  few = w.most;
  short = λ t h. counts-most m w t;
}

module _ (m : TypeMap) (w : Within m) where
  count_at : (t : ℕ) → t < length m.types → how_many (compact_of m w) t ≡ length (type_at m t).parents
  unfolding compact_of
  count_at t h = column-map 64 (λ (T : TypeInfo). length T.parents) m.types t no_type 0 0 w.most h

  parent_is : (t i : ℕ) → t < length m.types → i < length (type_at m t).parents → parent_at (compact_of m w) t i ≡ parent_in m (get_or (type_at m t).parents i [])
  unfolding compact_of
  parent_is t i h k =
      ap (λ (l : List Parent). get_or l i no_parent) (column-map 64 (λ (T : TypeInfo). column 8 no_parent (map (parent_in m) T.parents)) m.types t no_type [] [] w.most h)
      ∙ column-map 8 (parent_in m) (type_at m t).parents i [] no_parent no_parent (w.parents t h) k

  listed-are : (t : ℕ) → t < length m.types → listed (compact_of m w) t ≡ map (parent_in m) (type_at m t).parents
  unfolding listed
  listed-are t h =
      let f : ℕ → Parent = λ i. parent_at (compact_of m w) t i in
      let n : ℕ = how_many (compact_of m w) t in
      let c : n ≡ length (type_at m t).parents = count_at t h in
      ext_get_or (parent_in m []) (tab f n) (map (parent_in m) (type_at m t).parents) (tab-length f n ∙ c ∙ sym (length-map (type_at m t).parents (parent_in m)))
      (λ i l.
      let k : i < n = subst (λ (j : ℕ). i < j) (tab-length f n) l in
      tab-at f n i (parent_in m []) k ∙ parent_is t i h (subst (λ (j : ℕ). i < j) c k) ∙ sym (get_or-map (parent_in m) (type_at m t).parents i []))

  pub compact-reads : Reads (compact_of m w) m
  unfolding compact_of
  compact-reads = record {
    count = refl;
    most = w.most;
    self = refl;
    word = w.word;
    distinct = w.distinct;
    types = λ t h. record {
      name = column-map 64 (λ (T : TypeInfo). words_of T.name) m.types t no_type no_name no_name w.most h;
      parents = listed-are t h;
      names = w.names t h;
      most = subst (λ (n : ℕ). n ≤ 8) (sym (count_at t h)) (w.parents t h);
    };
  }
