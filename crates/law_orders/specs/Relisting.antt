-- Relisted sheets: neither the order of type records nor that of parents matters, nor how often a parent is listed.
use Rattle.std.specs.Prelude.{Bool, true, false, ◌&&◌, ◌||◌, cond, List, [], ◌∷◌, ◌++◌, map, ◌≡◌, refl, length}
use Rattle.std.proofs.Math.Bool.{not}
use Rattle.std.proofs.Common.{sym, ◌∙◌}
use Rattle.std.proofs.Math.Path.{ap, ap₂, subst}
use Prim.Native.Nat.{ℕ, zero, suc}
use Rattle.lists.specs.Lists.{any, all, null, keep, filter, insert, sort}
use Rattle.lists.specs.Tests.{never, all_in, any_same, all_same}
use Rattle.lists.specs.Sorting.{sort-shuffled}
use Rattle.definitions.specs.Records.{Name, TypeInfo, Sheet}
use Rattle.definitions.specs.Comparisons.{same_name, elem_name, name_before}
use Rattle.definitions.specs.Checks.{resource_bytes, self_bytes, names_twice}
use Rattle.definitions.specs.Map.{TypeMap, number_of, type_map_of, line_type_of, line_map_of}
use Rattle.definitions.specs.Order.{is_self, ready, pass, passes, last_pass, inherits_self, has_order, organize_type_map}
use Rattle.definitions.specs.Relisted.{SameButParents, Reparented, end, and, Relisted}
use Rattle.law_orders.specs.Statements.{RelistedMap, RelistedOrder}
use Rattle.law_orders.specs.Comparisons.{name-strict, elem_of, names_of, names_apart}

-- ---- lists of types that differ in their parents' order and repeats

names_same : {l k : List TypeInfo} → Reparented l k → names_of l ≡ names_of k
names_same end = refl
names_same (and h r) = ap₂ (λ x y. x ∷ y) h.name (names_same r)

length-same : {l k : List TypeInfo} → Reparented l k → length l ≡ length k
length-same end = refl
length-same (and h r) = ap suc (length-same r)

null-same : {l k : List TypeInfo} → Reparented l k → null l ≡ null k
null-same end = refl
null-same (and h r) = refl

append-same : {l k l' k' : List TypeInfo} → Reparented l k → Reparented l' k' → Reparented (l ++ l') (k ++ k')
append-same end q = q
append-same (and h r) q = and h (append-same r q)

-- two tests that agree on such types
abbrev Agree : (TypeInfo → Bool) → (TypeInfo → Bool) → Type 0
Agree f g = (T U : TypeInfo) → SameButParents T U → f T ≡ g U

keep_same : (a b : Bool) → a ≡ b → {T U : TypeInfo} {l k : List TypeInfo} → SameButParents T U → Reparented l k → Reparented (keep a T l) (keep b U k)
keep_same true true e h r = and h r
keep_same true false e h r = never refl e
keep_same false true e h r = never e refl
keep_same false false e h r = r

filter_same : {f g : TypeInfo → Bool} → Agree f g → {l k : List TypeInfo} → Reparented l k → Reparented (filter f l) (filter g k)
filter_same a end = end
filter_same {f} {g} a (and {T = T} {U = U} h r) = keep_same (f T) (g U) (a T U h) h (filter_same a r)

any-agree : {f g : TypeInfo → Bool} → Agree f g → {l k : List TypeInfo} → Reparented l k → any f l ≡ any g k
any-agree a end = refl
any-agree {f} {g} a (and {T = T} {U = U} h r) = ap₂ (λ x y. x || y) (a T U h) (any-agree a r)

-- ---- one record with its parents listed otherwise

abbrev pub with_parents : List Name → TypeInfo → TypeInfo
with_parents ps T = record {
  name = T.name;
  variant = T.variant;
  virtual = T.virtual;
  trait = T.trait;
  parents = ps;
  annotations = T.annotations;
  marks = T.marks;
}

-- each parent of the one stands among those of the other
pub relist-parents : (T : TypeInfo) (ps : List Name) → all (λ p. elem_name p ps) T.parents ≡ true → all (λ p. elem_name p T.parents) ps ≡ true → SameButParents T (with_parents ps T)
relist-parents T ps f g = record {
  name = refl;
  variant = refl;
  virtual = refl;
  trait = refl;
  annotations = refl;
  marks = refl;
  parents = λ p. (λ i. elem_of p ps (all_in (λ p. elem_name p ps) f i), λ i. elem_of p T.parents (all_in (λ p. elem_name p T.parents) g i));
}

-- ---- sorting

abbrev by_name : List (List ℕ) → TypeInfo → TypeInfo → Bool
by_name ws T U = name_before ws T.name U.name

place_same : (a b : Bool) → a ≡ b → {l k l' k' : List TypeInfo} → Reparented l k → Reparented l' k' → Reparented (cond a l l') (cond b k k')
place_same true true e r q = r
place_same true false e r q = never refl e
place_same false true e r q = never e refl
place_same false false e r q = q

insert-same : (ws : List (List ℕ)) {T U : TypeInfo} {l k : List TypeInfo} → SameButParents T U → Reparented l k → Reparented (insert (by_name ws) T l) (insert (by_name ws) U k)
unfolding insert
insert-same ws h end = and h end
insert-same ws {T} {U} h (and {T = P} {U = Q} g r) =
    place_same (by_name ws T P) (by_name ws U Q) (ap₂ (name_before ws) h.name g.name) (and h (and g r)) (and g (insert-same ws h r))

sort-same : (ws : List (List ℕ)) {l k : List TypeInfo} → Reparented l k → Reparented (sort (by_name ws) l) (sort (by_name ws) k)
unfolding sort
sort-same ws end = end
sort-same ws (and h r) = insert-same ws h (sort-same ws r)

-- ---- the maps

module _ (s t : Sheet) (once : names_twice s ≡ false) (r : Relisted s t) where
  types_same : Reparented (type_map_of s).types (type_map_of t).types
  unfolding type_map_of
  types_same =
      let e : Reparented (type_map_of s).types (sort (by_name s.words) t.types) =
      subst (λ l. Reparented l (sort (by_name s.words) t.types))
      (sym (sort-shuffled (name-strict s.words) (λ (T : TypeInfo). T.name) s.types r.shuffled (names_apart s once) r.shuffle))
      (sort-same s.words r.types) in
      subst (λ ws. Reparented (type_map_of s).types (sort (by_name ws) t.types)) r.words e

  self-same : (type_map_of s).self ≡ (type_map_of t).self
  unfolding type_map_of
  self-same = ap (number_of self_bytes) r.words

  words-same : (type_map_of s).words ≡ (type_map_of t).words
  unfolding type_map_of
  words-same = r.words

  resource-same : (type_map_of s).resource ≡ (type_map_of t).resource
  unfolding type_map_of
  resource-same = ap (number_of resource_bytes) r.words

  extensions-same : (type_map_of s).extensions ≡ (type_map_of t).extensions
  unfolding type_map_of
  extensions-same = r.extensions

-- of its parents a declaration has a test
declaration-same : {T U : TypeInfo} → SameButParents T U → line_type_of T ≡ line_type_of U
unfolding line_type_of
declaration-same {T} {U} h = λ i. record {
  name = h.name i;
  variant = h.variant i;
  virtual = h.virtual i;
  trait = h.trait i;
  inherits = λ p. any_same (same_name p) T.parents U.parents h.parents i;
  annotations = h.annotations i;
  marks = h.marks i;
}

declarations-same : {l k : List TypeInfo} → Reparented l k → map line_type_of l ≡ map line_type_of k
declarations-same end = refl
declarations-same (and h r) = ap₂ (λ x y. x ∷ y) (declaration-same h) (declarations-same r)

pub relisted-map : RelistedMap
unfolding line_map_of
relisted-map s t once r = λ i. record {
  words = words-same s t once r i;
  resource = resource-same s t once r i;
  types = declarations-same (types_same s t once r) i;
  extensions = extensions-same s t once r i;
}

-- ---- the order

module _ (m n : TypeMap) (self : m.self ≡ n.self) (types : Reparented m.types n.types) where
  is-self-same : (p : Name) → is_self m p ≡ is_self n p
  unfolding is_self
  is-self-same p = ap (λ w. same_name p (w ∷ [])) self

  ready-same : {a b : List TypeInfo} → Reparented a b → Agree (ready m a) (ready n b)
  unfolding ready
  ready-same {a} {b} r T U h =
      all_same (λ p. is_self m p || elem_name p (names_of a)) T.parents U.parents h.parents
      ∙ (λ i. all (λ p. is-self-same p i || elem_name p (names_same r i)) U.parents)

  -- after each round the same types are placed, and the same wait
  passes_same : (k : ℕ) → Reparented (passes m k).placed (passes n k).placed × Reparented (passes m k).waiting (passes n k).waiting
  unfolding passes pass
  passes_same zero = (end, types)
  passes_same (suc k) =
      let r = passes_same k in
      let a = ready-same r.0 in
      (append-same r.0 (filter_same a r.1), filter_same (λ T U h. ap not (a T U h)) r.1)

  last-same : Reparented (last_pass m).placed (last_pass n).placed × Reparented (last_pass m).waiting (last_pass n).waiting
  unfolding last_pass
  last-same =
      subst (λ k. Reparented (last_pass m).placed (passes n k).placed × Reparented (last_pass m).waiting (passes n k).waiting) (length-same types)
      (passes_same (length m.types))

  inherits-self-same : inherits_self m ≡ inherits_self n
  unfolding inherits_self
  inherits-self-same =
      any-agree
      (λ T U h. any_same (is_self m) T.parents U.parents h.parents ∙ (λ i. any (λ p. is-self-same p i) U.parents))
      types

  has-order-same : has_order m ≡ has_order n
  unfolding has_order
  has-order-same = ap₂ (λ x y. not x && y) inherits-self-same (null-same last-same.1)

  organize-same : organize_type_map m ≡ organize_type_map n
  unfolding organize_type_map
  organize-same = names_same last-same.0

pub relisted-order : RelistedOrder
relisted-order s t once r =
    let self = self-same s t once r in
    let types = types_same s t once r in
    (has-order-same (type_map_of s) (type_map_of t) self types, organize-same (type_map_of s) (type_map_of t) self types)
