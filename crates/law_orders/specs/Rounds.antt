-- Chains of parents and rounds: a type is placed in the round that is the length of the longest chain above it.
use Rattle.std.specs.Prelude.{true, false, ◌≡◌, refl}
use Rattle.std.proofs.Math.Bool.{not}
use mathlib.Core.List.Memᴰ
use Rattle.std.proofs.Math.Logic.{inl, inr, ⊎_elim}
use Rattle.std.proofs.Common.{sym, subst, le_of_suc-le-suc, le_antisymm}
use Prim.Native.Nat.{ℕ, zero, suc, ◌<◌, suc-le-suc, zero-le}
use native.Mathlib.Omega.{arith}
use borrow.Author.Tests.{not-true}
use Rattle.std.proofs.Math.ListN.{length}
use Rattle.lists.specs.Lists.{In, Sorted, filter}
use Rattle.lists.specs.Tests.{filter-of}
use Rattle.lists.specs.Strict.{asymmetric}
use Rattle.lists.specs.Sorting.{sorted-append, sorted_filter, sorted-imp, one_key}
use Rattle.lists.specs.Counting.{no-climb}
use Rattle.definitions.specs.Records.{Name, TypeInfo, Sheet}
use Rattle.definitions.specs.Comparisons.{name_before}
use Rattle.definitions.specs.Checks.{names_twice}
use Rattle.definitions.specs.Map.{TypeMap, type_map_of}
use Rattle.definitions.specs.Order.{ready, pass, passes, last_pass, inherits_self}
use Rattle.definitions.specs.Ancestry.{Parent, Ancestor, direct, further, Chain, top, link, Round, Before}
use Rattle.law_orders.specs.Comparisons.{name-strict, types-is, types-apart, types-ascend}
use Rattle.law_orders.specs.Passes.{Placed, Waits, ready-not, placed-type, waits-type, placed-or-waits, stays, listed-placed, last-waits, waiting-ascends}

-- ---- ancestors

pub ancestor-type : {s : Sheet} {A T : TypeInfo} → Ancestor s A T → In A s.types
ancestor-type (direct p) = p.declared
ancestor-type (further p a) = ancestor-type a

ancestor-trans : {s : Sheet} {A B T : TypeInfo} → Ancestor s A B → Ancestor s B T → Ancestor s A T
ancestor-trans a (direct p) = further p a
ancestor-trans a (further p b) = further p (ancestor-trans a b)

-- ---- the round is one number

one-round : {s : Sheet} {T : TypeInfo} {i j : ℕ} → Round s T i → Round s T j → i ≡ j
one-round {i = i} {j = j} a b = le_antisymm (b.longest i a.chain) (a.longest j b.chain)

pub before-asymmetric : {s : Sheet} (T U : TypeInfo) → Before s T U → Before s U T → ⊥
before-asymmetric {s} T U a b =
    let p : a.i ≡ b.j = one-round a.round_t b.round_u in
    let q : a.j ≡ b.i = one-round a.round_u b.round_t in
    ⊎_elim
    (λ (u : a.i < a.j). ⊎_elim (λ (v : b.i < b.j). omega arith) (λ v. omega (arith, v.0)) b.first)
    (λ u.
    ⊎_elim
    (λ (v : b.i < b.j). omega (arith, u.0))
    (λ v. asymmetric (name-strict s.words) T.name U.name u.1 v.1)
    b.first)
    a.first

-- ---- rounds of a sheet whose type names differ

-- every parent is declared
abbrev AllDeclared : Sheet → Type 0
AllDeclared s = (T : TypeInfo) → In T s.types → (p : Name) → In p T.parents → (P : TypeInfo) × In P s.types × (P.name ≡ p)

module _ (s : Sheet) (names : names_twice s ≡ false) where
  abbrev m : TypeMap
  m = type_map_of s

  waits-before : (k : ℕ) {T : TypeInfo} → Waits m T (suc k) → Waits m T k × (ready m (passes m k).placed T ≡ false)
  unfolding passes pass
  waits-before k {T} w =
      let r = filter-of (λ T. not (ready m (passes m k).placed T)) (passes m k).waiting w in
      (r.0, not-true (ready m (passes m k).placed T) r.1)

  module _ (declared : AllDeclared s) where
    -- a type that is not ready has a parent that waits
    missing : (k : ℕ) (T : TypeInfo) → In T s.types → ready m (passes m k).placed T ≡ false → (P : TypeInfo) × Parent s P T × Waits m P k
    missing k T i e =
        let r = ready-not m (passes m k).placed T e in
        let d = declared T i r.0 r.1 in (
          d.0,
          record { declared = d.1; listed = subst (λ p. In p T.parents) (sym d.2) r.1 },
          ⊎_elim (λ j. absurd (r.2 d.0 j d.2)) (λ j. j) (placed-or-waits m k ((types-is s d.0).1 d.1)),
        )

    -- a type that waits after k rounds has a chain of k parents above it
    chain-long : (k : ℕ) {T : TypeInfo} → Waits m T k → Chain s T k
    chain-long zero w = top
    chain-long (suc k) {T} w =
        let b = waits-before k w in
        let r = missing k T ((types-is s T).0 (waits-type m k b.0)) b.1 in
        link r.1 (chain-long k r.2)

    -- where no type is its own ancestor, none waits in the end
    pub none-waits : ((T : TypeInfo) → In T s.types → Ancestor s T T → ⊥) → (T : TypeInfo) → In T (last_pass m).waiting → ⊥
    unfolding last_pass
    none-waits acyclic T i =
        no-climb (Ancestor s) (λ A B C a b. ancestor-trans a b) (λ A a. acyclic A (ancestor-type a) a) (last_pass m).waiting
        (λ U w.
        let n = length m.types in
        let r = missing n U ((types-is s U).0 (waits-type m n w)) (last-waits m w) in
        (r.0, r.2, direct r.1))
        T i

  -- where no parent is `self`
  module _ (no_self : inherits_self m ≡ false) where
    -- each parent of a type that is placed was placed a round before
    parent-placed : (k : ℕ) {P T : TypeInfo} → Placed m T (suc k) → Parent s P T → Placed m P k
    parent-placed k {P} {T} i h =
        let r = listed-placed m no_self k i h.listed in
        subst (λ U. Placed m U k)
        (one_key (λ (T : TypeInfo). T.name) m.types (types-apart s names) (placed-type m k r.1) ((types-is s P).1 h.declared) r.2)
        r.1

    -- so a type placed after k rounds has chains of fewer than k parents above it
    chain-short : (k : ℕ) {T : TypeInfo} {j : ℕ} → Placed m T k → Chain s T j → j < k
    unfolding passes
    chain-short zero i c = absurd (Memᴰ.not-nil i)
    chain-short (suc k) i top = suc-le-suc zero-le
    chain-short (suc k) i (link h c) = suc-le-suc (chain-short k (parent-placed k i h) c)

    ancestor-placed : (k : ℕ) {A T : TypeInfo} → Placed m T (suc k) → Ancestor s A T → Placed m A k
    ancestor-placed k i (direct p) = parent-placed k i p
    ancestor-placed k i (further p a) = ancestor-placed k (stays m k (parent-placed k i p)) a

    -- no type that is placed is its own ancestor
    pub no-cycle : (k : ℕ) {T : TypeInfo} → Placed m T k → Ancestor s T T → ⊥
    unfolding passes
    no-cycle zero i a = Memᴰ.not-nil i
    no-cycle (suc k) i a = no-cycle k (ancestor-placed k i a) a

    module _ (declared : AllDeclared s) where
      -- the round in which a type is placed is its longest chain
      exactly : (k : ℕ) {T : TypeInfo} → Waits m T k → Placed m T (suc k) → Round s T k
      exactly k w i = record { chain = chain-long declared k w; longest = λ j c. le_of_suc-le-suc (chain-short (suc k) i c) }

      -- those that a round places
      abbrev Added : TypeInfo → ℕ → Type 0
      Added T k = In T (filter (ready m (passes m k).placed) (passes m k).waiting)

      added-round : (k : ℕ) {T : TypeInfo} → Added T k → Round s T k
      unfolding passes pass
      added-round k i = exactly k (filter-of (ready m (passes m k).placed) (passes m k).waiting i).0 (Memᴰ.append_right (passes m k).placed i)

      placed-round : (k : ℕ) {T : TypeInfo} → Placed m T k → (i : ℕ) × (i < k) × Round s T i
      unfolding passes pass
      placed-round zero i = absurd (Memᴰ.not-nil i)
      placed-round (suc k) i =
          ⊎_elim
          (λ j. let r = placed-round k j in (r.0, omega (arith, r.1), r.2))
          (λ j. (k, omega arith, added-round k j))
          (Memᴰ.append_cases (passes m k).placed i)

      -- what is placed goes by round, then by name
      pub placed-sorted : (k : ℕ) → Sorted (Before s) (passes m k).placed
      unfolding passes pass
      placed-sorted zero = tt
      placed-sorted (suc k) =
          let new = filter (ready m (passes m k).placed) (passes m k).waiting in
          sorted-append (Before s) (passes m k).placed new (placed-sorted k)
          (sorted-imp new (λ T U i j h. record { i = k; j = k; round_t = added-round k i; round_u = added-round k j; first = inr (refl, h) })
          (sorted_filter (λ (T U : TypeInfo). name_before s.words T.name U.name ≡ true) (ready m (passes m k).placed) (passes m k).waiting
          (waiting-ascends m s.words (types-ascend s names) k)))
          (λ T U i j.
          let r = placed-round k i in
          record { i = r.0; j = k; round_t = r.2; round_u = added-round k j; first = inl r.1 })
